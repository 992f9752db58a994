use Rattle.std.proofs.Common.{◌≡◌, ◌≢◌, ◌+◌, ◌*◌, ◌<◌, ◌≤◌, ◌∙◌, length, refl, sym, ap, subst, arith, get_or-set_other}
use Rattle.std.proofs.lemmas.List.{length-set}
use Rattle.std.proofs.lemmas.Option.{slice_get_within, slice_get_read}
use Rattle.lw_laws.specs.Covers.{latest}
use Rattle.lw_fixed.specs.declared.micro.Micro.{Micro}
use Rattle.lw_genlib.specs.Tables.{cell_delays}
use Rattle.lw_netlist.specs.Filling.{arrivals_at, one_step}
use Rattle.lw_netlist.proofs.Filling.{IsFilled-more}
use Rattle.lw_netlist.proofs.Latest.{gate_time, times_are_local, arrival_within, early_more}
use Rattle.lw_netlist.proofs.arrivals.fill_arrivals.Goals as goal
use Rattle.lw_genlib.proofs.Shared.{delays_at}

pub loop-j-preserved : goal.loop-j-preserved
loop-j-preserved c =
    let j = c.loop-j.j in
    let gate = c.index-gates-j.result in
    let nets = c.loop-j.nets in
    let cell = c.cell_of.result.now in
    let at = slice_get_read c.args.gates.now (length c.args.gates.now) j gate refl (omega arith) c.index-gates-j.is in
    let inside : c.args.first + j < length nets = omega (arith, c.loop-j.invariant.length, c.loop-j-test.true) in
    let time : c.arrival_of.result.0 ≡ latest (cell_delays cell) (arrivals_at nets gate.pins) = subst (λ ps. c.arrival_of.result.0 ≡ latest (cell_delays cell) (arrivals_at nets ps)) c.as_slice.ensures c.arrival_of.ensures in
    let is : c.arrival_of.result ≡ gate_time c.args.lib.now nets gate = ap (λ n. record { 0 = n }) (time ∙ ap (λ ds. latest ds (arrivals_at nets gate.pins)) (sym (delays_at c.args.lib.now gate.cell.0 cell c.cell_of.ensures.cell))) in
    let within = arrival_within cell.delays nets gate.pins (c.args.first + j) ((j + 1) * one_step) c.cell_of.ensures.listed.delays (c.requires.gates j gate at).before (omega (arith, inside)) c.loop-j.invariant.early in
    record {
      inputs = λ i below. let other : i ≢ c.args.first + j = omega (arith, below) in ap (λ (m : Micro). m.0) (get_or-set_other nets (c.args.first + j) i c.arrival_of.result (record { 0 = 0 }) other) ∙ c.loop-j.invariant.inputs i below;
      filled = IsFilled-more (record { 0 = 0 }) (gate_time c.args.lib.now) c.args.gates.now c.args.first j nets c.arrival_of.result gate (times_are_local c.args.lib.now) c.requires.gates inside at is c.loop-j.invariant.filled;
      early = λ i below. let more = early_more nets (c.args.first + j) ((j + 1) * one_step) c.arrival_of.result inside (subst (λ t. t ≤ (j + 1) * one_step + one_step) (sym time) within) c.loop-j.invariant.early i (omega (arith, below)) in omega (arith, more);
      length = length-set nets (c.args.first + j) c.arrival_of.result ∙ c.loop-j.invariant.length;
    }

pub returns-clause-arrivals : goal.returns-clause-arrivals
returns-clause-arrivals c = λ j gate at. let inside = slice_get_within c.args.gates.now j gate at in ap (λ (m : Micro). m.0) (c.loop-j.invariant.filled.each j gate (omega (arith, inside, c.loop-j-test.false)) at)

pub returns-clause-low : goal.returns-clause-low
returns-clause-low c = λ i below. let low = c.loop-j.invariant.early i (omega (arith, below, c.loop-j.invariant.length, c.loop-j-test.false)) in omega (arith, low, c.loop-j-test.false)
