use Rattle.std.proofs.Common.{length, refl, arith}
use Rattle.std.proofs.lemmas.Option.{slice_get_read}
use Rattle.lw_look.proofs.AreaSums.{area_more}
use Rattle.lw_look.proofs.areas.sum_of.Goals as goal

pub loop-gate-preserved : goal.loop-gate-preserved
loop-gate-preserved c =
    let gates = c.args.gates.now in
    let j = c.loop-gate.gate-index in
    let gate = c.gate-item.result in
    let more = area_more c.args.lib.now gates j gate (slice_get_read gates (length gates) j gate refl c.loop-gate-test.true c.gate-item.is) in
    record {
      area = omega (arith, more, c.loop-gate.invariant.area, c.area_at-area.ensures.area);
      low = omega (arith, c.loop-gate.invariant.low, c.area_at-area.ensures.small);
    }
