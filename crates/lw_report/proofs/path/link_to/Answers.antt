use Rattle.std.proofs.Common.{All, ◌≡◌, ◌+◌, ◌<◌, List, Some, length, map, get_or, slice_get, sym, ap, subst, ◌∙◌, arith}
use Rattle.std.proofs.lemmas.List.{get_or-map}
use Rattle.std.proofs.lemmas.List.Elements.{All-get_or, All-weaker}
use Rattle.std.proofs.lemmas.Option.{slice_get-get_or}
use Rattle.lw_facts.proofs.Lists.{all_at}
use Rattle.lw_netlist.specs.Plain.{HasCell}
use Rattle.lw_pool.specs.declared.id.NetId.{NetId}
use Rattle.lw_laws.specs.Covers.{latest}
use Rattle.lw_genlib.specs.Tables.{millionths, cell_delays}
use Rattle.lw_report.specs.Timings.{arrival_at, pin_arrivals, IsCriticalPin}
use Rattle.lw_report.specs.Timings.IsPathTo.{to_constant}
use Rattle.lw_report.proofs.PathLemmas.{arrivals_count, arrival_is, link_by_pin, pin_count}
use Rattle.lw_report.proofs.path.link_to.Goals as goal

pub gate_numbered-gate-requires : goal.gate_numbered-gate-requires
gate_numbered-gate-requires c = c.requires.gate

pub bounds-timed-inputs : goal.bounds-timed-inputs
bounds-timed-inputs c = omega (arith, arrivals_count c.args.timed.now.lib.now c.args.timed.now.netlist.now c.args.timed.now.time.now c.requires.timed.are, c.requires.gate, c.inputs.ensures.inputs)

pub cell_of-requires : goal.cell_of-requires
cell_of-requires c = all_at (HasCell c.args.timed.now.lib.now) c.args.timed.now.netlist.now.gates c.args.j c.gate_numbered-gate.result.now c.requires.timed.over c.gate_numbered-gate.ensures.at

pub critical_pin-requires : goal.critical_pin-requires
critical_pin-requires c =
    let n = c.args.timed.now.netlist.now in
    let arrivals = c.args.timed.now.time.now in
    let gate = c.gate_numbered-gate.result.now in
    let cell = c.cell_of.result.now in
    let j = c.args.j in
    let at = c.gate_numbered-gate.ensures.at in
    let below : n.inputs + j < length arrivals = omega (arith, arrivals_count c.args.timed.now.lib.now n arrivals c.requires.timed.are, c.requires.gate) in
    let is = arrival_is c.args.timed.now.lib.now n arrivals j gate cell (record { 0 = 0 }) c.requires.timed.are at c.cell_of.ensures.cell below in
    let pins = sym c.as_slice-pins.ensures in
    let known : All (λ (net : NetId). net.0 < length arrivals) gate.pins = All-weaker (λ (net : NetId). net.0 < n.inputs + j) (λ (net : NetId). net.0 < length arrivals) (λ net lt. omega (arith, lt, below)) gate.pins (c.gate_numbered-gate.ensures.kept.gates j gate at).before in
    record {
      listed = c.cell_of.ensures.listed;
      one_each = ap (λ (ps : List NetId). length ps) c.as_slice-pins.ensures ∙ c.cell_of.ensures.pins;
      known = subst (All (λ (net : NetId). net.0 < length arrivals)) pins known;
      low = c.requires.timed.low;
      arrives = ap (λ k. (get_or arrivals (k + j) (record { 0 = 0 })).0) c.inputs.ensures.inputs ∙ (is ∙ ap (λ (ps : List NetId). latest (cell_delays cell) (pin_arrivals (map millionths arrivals) ps)) pins);
    }

pub bounds-pins-from : goal.bounds-pins-from
bounds-pins-from c = omega (arith, c.from.ensures, c.in-Some.ensures.some.within, pin_count (map millionths c.args.timed.now.time.now) c.as_slice-pins.result.now)

pub returns-in-Some : goal.returns-in-Some
returns-in-Some c =
    let n = c.args.timed.now.netlist.now in
    let arrivals = c.args.timed.now.time.now in
    let gate = c.gate_numbered-gate.result.now in
    let cell = c.cell_of.result.now in
    let j = c.args.j in
    let k = c.in-Some.k in
    let pins = c.as_slice-pins.result.now in
    let net : NetId = get_or pins c.from.result (record { 0 = 0 }) in
    let at = c.gate_numbered-gate.ensures.at in
    let below : n.inputs + j < length arrivals = omega (arith, arrivals_count c.args.timed.now.lib.now n arrivals c.requires.timed.are, c.requires.gate) in
    let critical = subst (λ (ps : List NetId). IsCriticalPin (cell_delays cell) (pin_arrivals (map millionths arrivals) ps) (get_or arrivals (c.inputs.result + j) (record { 0 = 0 })).0 k) c.as_slice-pins.ensures c.in-Some.ensures.some in
    let in_pins : k < length gate.pins = omega (arith, critical.within, pin_count (map millionths arrivals) gate.pins) in
    let net_is : net ≡ get_or gate.pins k (record { 0 = 0 }) = ap (λ i. get_or pins i (record { 0 = 0 })) c.from.ensures ∙ ap (λ (ps : List NetId). get_or ps k (record { 0 = 0 })) c.as_slice-pins.ensures in
    let pin : slice_get gate.pins k ≡ Some net = slice_get-get_or gate.pins k (record { 0 = 0 }) in_pins ∙ ap (λ (m : NetId). Some m) (sym net_is) in
    let arrival : (get_or arrivals (c.inputs.result + j) (record { 0 = 0 })).0 ≡ arrival_at (map millionths arrivals) (n.inputs + j) = ap (λ i. (get_or arrivals (i + j) (record { 0 = 0 })).0) c.inputs.ensures.inputs ∙ sym (get_or-map millionths arrivals (n.inputs + j) (record { 0 = 0 }) 0 below) in
    let lower = All-get_or (λ (m : NetId). m.0 < n.inputs + j) gate.pins k (record { 0 = 0 }) in_pins (c.gate_numbered-gate.ensures.kept.gates j gate at).before in
    (subst (λ (m : NetId). m.0 < n.inputs + j) (sym net_is) lower, link_by_pin c.args.timed.now.lib.now n arrivals j k gate cell net (get_or arrivals (c.inputs.result + j) (record { 0 = 0 })).0 at c.cell_of.ensures.cell pin arrival critical)

pub returns-in-None : goal.returns-in-None
returns-in-None c =
    to_constant c.args.j c.gate_numbered-gate.ensures.at (sym c.as_slice-pins.ensures ∙ c.in-None.ensures.none)
