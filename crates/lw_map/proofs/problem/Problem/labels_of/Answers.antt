use Rattle.lw_map.proofs.RootLabels.{have_none, have_more, first_without}
use Rattle.lw_map.proofs.problem.Problem.labels_of.Goals as goal

pub loop-k-init : goal.loop-k-init
loop-k-init c = rw c.in_ok-labels.ensures.items (have_none c.args.marks.now c.args.self.now.choices.now.roots)

pub loop-k-preserved : goal.loop-k-preserved
loop-k-preserved c =
    rw c.in-Ok.ensures.items (have_more c.args.marks.now c.args.self.now.choices.now.roots c.loop-k.k c.loop-k.labels.items (record { 0 = 0 }) (rw c.as_slice-roots.ensures at c.loop-k-test.true) c.loop-k.invariant c.in-Some.mark (rw c.as_slice-roots.ensures at c.in-Some.is))

pub returns-in_default-clause-lacks : goal.returns-in_default-clause-lacks
returns-in_default-clause-lacks c =
    first_without c.args.marks.now c.args.self.now.choices.now.roots c.loop-k.k c.loop-k.labels.items (record { 0 = 0 }) (rw c.as_slice-roots.ensures at c.loop-k-test.true) c.loop-k.invariant (rw c.as_slice-roots.ensures at c.in_default.not-Some)
