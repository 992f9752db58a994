use Rattle.std.proofs.Common.{refl}
use Rattle.lw_bounds.proofs.Settled.{settled_bounds_are_bounds}
use Rattle.lw_bounds.proofs.bounds.Bounds.settled.Goals as goal

pub returns-clause-bounds : goal.returns-clause-bounds
returns-clause-bounds g c =
    settled_bounds_are_bounds c.renew_rounds.new.table.bounds c.args.pats.now c.args.graph.now c.args.marks.now c.classes.ensures.kept c.renew_rounds.ensures.timed.fit (c.loop-basis-test.ensures.settled refl)
