use Rattle.std.proofs.Common.{ℕ, ◌<◌, get_or}
use Rattle.lw_equal.specs.declared.trying.Ends.{Ends}
use Rattle.lw_equal.specs.Trying.{AgreeIn}
use Rattle.lw_equal.proofs.trying.all_agree.Given as goal

abbrev pub invariant-loop-both : goal.invariant-loop-both
invariant-loop-both l = (j : ℕ) (d : Ends) → j < l.both-index → AgreeIn l.words (get_or l.ends j d)
