use Rattle.std.proofs.Common.{refl, ap, arith}
use Rattle.lw_bounds.specs.Bounds.{bounds_weight}
use Rattle.lw_bounds.proofs.settling.renew_rounds.Goals as goal

pub returns : goal.returns
returns c =
    let round = c.renew_round-2.ensures in
    let same = ap bounds_weight (c.loop-test.ensures.after.same refl) in
    let le = c.loop.invariant.2 in
    record {
      timed = round.timed;
      falls = λ fell. let last = round.after.falls fell in omega arith;
      settled = round.settled refl;
    }
