use Rattle.std.proofs.Common.{◌<◌, ℕ, List, [], Some, length, map, get_or, sym, ap, subst, ◌∙◌, arith}
use Rattle.std.proofs.lemmas.List.{get_or-map, get_or_default}
use Rattle.std.proofs.lemmas.Option.{slice_get_within, same_Some}
use Rattle.std.specs.Prelude.{IfSome}
use Rattle.lw_facts.proofs.Lists.{all_at}
use Rattle.lw_genlib.specs.Tables.{millionths}
use Rattle.lw_netlist.specs.declared.gate.Gate.{Gate}
use Rattle.lw_netlist.specs.Plain.{HasCell}
use Rattle.lw_io.specs.Writers.{Writes}
use Rattle.lw_report.specs.Timings.{cell_step_line}
use Rattle.lw_report.proofs.PathLemmas.{step_line_is}
use Rattle.lw_report.proofs.report.put_step.Goals as goal

pub gate_numbered-gate-requires : goal.gate_numbered-gate-requires
gate_numbered-gate-requires g c = slice_get_within c.args.timed.now.netlist.now.gates c.args.step.gate c.requires.step.gate c.requires.step.at

pub bounds-names-net : goal.bounds-names-net
bounds-names-net g c =
    let within = slice_get_within c.args.timed.now.netlist.now.gates c.args.step.gate c.requires.step.gate c.requires.step.at in
    let kept = c.gate_numbered-gate.ensures.kept in
    let drives = (kept.gates c.args.step.gate c.gate_numbered-gate.result.now c.gate_numbered-gate.ensures.at).drives in
    subst (λ (ns : List (List ℕ)). c.gate_numbered-gate.result.now.out.0 < length ns) (sym c.names.ensures.names) (omega (arith, drives, within, kept.named))

pub bounds-timed-net : goal.bounds-timed-net
bounds-timed-net g c =
    let within = slice_get_within c.args.timed.now.netlist.now.gates c.args.step.gate c.requires.step.gate c.requires.step.at in
    let kept = c.gate_numbered-gate.ensures.kept in
    let drives = (kept.gates c.args.step.gate c.gate_numbered-gate.result.now c.gate_numbered-gate.ensures.at).drives in
    omega (arith, drives, within, kept.named, c.requires.timed.one_each)

pub cell_of-requires : goal.cell_of-requires
cell_of-requires g c = all_at (HasCell c.args.timed.now.lib.now) c.args.timed.now.netlist.now.gates c.args.step.gate c.gate_numbered-gate.result.now c.requires.timed.over c.gate_numbered-gate.ensures.at

pub put_cell-requires : goal.put_cell-requires
put_cell-requires g c =
    let same = same_Some c.requires.step.gate c.gate_numbered-gate.result.now (sym c.requires.step.at ∙ c.gate_numbered-gate.ensures.at) in
    subst (λ n. IfSome c.args.step.pin (λ k. k < n)) (ap (λ (gate : Gate). length gate.pins) same ∙ c.cell_of.ensures.pins) c.requires.step.pin

pub returns : goal.returns
returns g c =
    let n = c.args.timed.now.netlist.now in
    let j = c.args.step.gate in
    let gate = c.gate_numbered-gate.result.now in
    let net = gate.out.0 in
    let cell = c.cell_of.result.now in
    let within = slice_get_within n.gates j c.requires.step.gate c.requires.step.at in
    let at = c.gate_numbered-gate.ensures.at in
    let kept = c.gate_numbered-gate.ensures.kept in
    let drives = (kept.gates j gate at).drives in
    let in_names : net < length n.names = omega (arith, drives, within, kept.named) in
    let in_arrivals : net < length c.args.timed.now.time.now = omega (arith, in_names, c.requires.timed.one_each) in
    let named = subst (λ ns. net < length ns) (sym c.names.ensures.names) in_names in
    let name = c.as_bytes-name.ensures.bytes ∙ (c.index-names-net.is ∙ (get_or_default c.names.result.now net c.index-names-net.result [] named ∙ ap (λ (ns : List (List ℕ)). get_or ns net []) c.names.ensures.names)) in
    let time = sym (get_or-map millionths c.args.timed.now.time.now net (record { 0 = 0 }) 0 in_arrivals) in
    let put = subst (λ w. Writes g.S.Sink.taken g.S.Sink.faults c.args.out.now c.put_cell.new.out (cell_step_line w (get_or c.args.timed.now.time.now net (record { 0 = 0 })).0 c.args.step.pin (Some cell))) name c.put_cell.ensures in
    let timed = subst (λ (t : ℕ). Writes g.S.Sink.taken g.S.Sink.faults c.args.out.now c.put_cell.new.out (cell_step_line (get_or n.names net []) t c.args.step.pin (Some cell))) time put in
    subst (λ l. Writes g.S.Sink.taken g.S.Sink.faults c.args.out.now c.put_cell.new.out l) (sym (step_line_is c.args.timed.now.lib.now n (map millionths c.args.timed.now.time.now) c.args.step gate cell at c.cell_of.ensures.cell)) timed
