use Rattle.std.proofs.Common.{◌*◌, ◌≡◌, length, ◌∙◌, arith}
use Rattle.std.proofs.lemmas.List.{drop-set-lt}
use Rattle.lw_settle.proofs.Queueing.{won_step}
use Rattle.lw_settle.proofs.queue.renew.Goals as goal

pub loop-at-preserved : goal.loop-at-preserved
loop-at-preserved c =
    let l = c.loop-at in
    let n = c.args.classes in
    let long : length l.tree ≡ 2 * n = omega (arith, l.auto.tree, c.requires.tree.long) in
    record {
      below = omega (arith, l.invariant.below);
      won = won_step n l.at l.tree c.lesser.result c.loop-at-test.true l.invariant.below long c.lesser.ensures l.invariant.won;
      leaves = drop-set-lt n l.tree l.at c.lesser.result l.invariant.below ∙ l.invariant.leaves;
    }
