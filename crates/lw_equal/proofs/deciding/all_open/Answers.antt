use Rattle.std.proofs.Common.{◌∙◌}
use Rattle.lw_equal.proofs.Paired.{points_more}
use Rattle.lw_equal.proofs.deciding.all_open.Goals as goal

pub loop-pair-preserved : goal.loop-pair-preserved
loop-pair-preserved c =
    c.in_ok-push.ensures
    ∙ points_more c.args.pairs.now c.loop-pair.pair-index c.pair-item.result c.loop-pair-test.true c.pair-item.is c.loop-pair.undecided c.in_ok-copy_of.field-0 c.in_ok-copy_of.ensures c.loop-pair.invariant
