use Rattle.std.proofs.Common.{◌+◌, ◌∙◌, sym, subst}
use Rattle.lw_bounds.proofs.Passes.{ArePassed, passed_more}
use Rattle.lw_bounds.proofs.settling.renew_round.Goals as goal

pub renew_class-requires-clause-timed : goal.renew_class-requires-clause-timed
renew_class-requires-clause-timed c = record {
  one_each = c.requires.timed.one_each;
  times_are = c.loop-number.invariant.0 ∙ c.requires.timed.times_are;
  fit = c.loop-number.invariant.1.fits;
}

pub loop-number-preserved : goal.loop-number-preserved
loop-number-preserved c =
    let l = c.loop-number in
    let pats = c.args.basis.pats.now in
    let graph = c.args.basis.graph.now in
    let marks = c.args.basis.marks.now in
    let old = c.args.table.now.bounds in
    let new = c.renew_class.new.table.bounds in
    let one = c.renew_class.ensures in
    let more = passed_more pats graph marks c.args.whole old l.table.bounds new l.number c.renew_class.result l.fell l.invariant.1 (λ _. one.timed.fit) one.after.falls one.after.same one.settled in
    (one.timed.times_are ∙ sym c.requires.timed.times_are, subst (λ b. ArePassed pats graph marks c.args.whole old new (l.number + 1) b) (sym c.either-fell.ensures) more)
