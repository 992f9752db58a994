use Rattle.std.proofs.Common.{length}
use Rattle.lw_cost.proofs.mark.+is_list_before.Given as goal

abbrev pub decreases-is_list_before : goal.decreases-is_list_before
decreases-is_list_before l = length l.left.now
