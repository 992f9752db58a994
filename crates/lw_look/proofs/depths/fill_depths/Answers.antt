use Rattle.std.proofs.Common.{◌≡◌, ◌≢◌, ◌+◌, ◌<◌, ◌∙◌, length, map, refl, ap, subst, arith, get_or-set_other}
use Rattle.std.proofs.lemmas.List.{length-set}
use Rattle.std.proofs.lemmas.Option.{slice_get_read, slice_get_within}
use Rattle.lw_pool.specs.Numbers.{net_number}
use Rattle.lw_laws.specs.Networks.{greatest_depth}
use Rattle.lw_netlist.proofs.Filling.{IsFilled-more}
use Rattle.lw_look.specs.Depths.{gate_depth}
use Rattle.lw_look.proofs.NetDepths.{depths_are_local, greatest_low, low_more}
use Rattle.lw_look.proofs.depths.fill_depths.Goals as goal

pub overflow_add-depths : goal.overflow_add-depths
overflow_add-depths c =
    let depths = c.loop-j.depths in
    let pins = c.index-gates-j.result.pins in
    let is : c.deepest.result ≡ greatest_depth depths (map net_number pins) = subst (λ ps. c.deepest.result ≡ greatest_depth depths (map net_number ps)) c.as_slice.ensures c.deepest.ensures in
    let low = greatest_low depths c.loop-j.j (map net_number pins) c.loop-j.invariant.low in
    omega (arith, is, low, c.loop-j-test.true, c.requires.few, c.requires.one_each)

pub loop-j-preserved : goal.loop-j-preserved
loop-j-preserved c =
    let j = c.loop-j.j in
    let gates = c.args.gates.now in
    let gate = c.index-gates-j.result in
    let depths = c.loop-j.depths in
    let at = slice_get_read gates (length gates) j gate refl c.loop-j-test.true c.index-gates-j.is in
    let inside : c.args.first + j < length depths = omega (arith, c.loop-j.invariant.length, c.loop-j-test.true) in
    let is : 1 + c.deepest.result ≡ gate_depth depths gate = ap (λ d. 1 + d) (subst (λ ps. c.deepest.result ≡ greatest_depth depths (map net_number ps)) c.as_slice.ensures c.deepest.ensures) in
    let low = greatest_low depths j (map net_number gate.pins) c.loop-j.invariant.low in
    record {
      inputs = λ i below. let other : i ≢ c.args.first + j = omega (arith, below) in get_or-set_other depths (c.args.first + j) i (1 + c.deepest.result) 0 other ∙ c.loop-j.invariant.inputs i below;
      filled = IsFilled-more 0 gate_depth gates c.args.first j depths (1 + c.deepest.result) gate depths_are_local c.requires.gates inside at is c.loop-j.invariant.filled;
      low = low_more depths (c.args.first + j) (1 + c.deepest.result) j inside (omega (arith, is, low)) c.loop-j.invariant.low;
      length = length-set depths (c.args.first + j) (1 + c.deepest.result) ∙ c.loop-j.invariant.length;
    }

pub returns-clause-depths : goal.returns-clause-depths
returns-clause-depths c = λ j gate at. let inside = slice_get_within c.args.gates.now j gate at in c.loop-j.invariant.filled.each j gate (omega (arith, inside, c.loop-j-test.false)) at
