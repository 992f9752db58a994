use Rattle.std.proofs.Common.{◌≡◌, take}
use Rattle.lw_clauses.proofs.following.deny_all.Given as goal

abbrev pub invariant-loop-literal : goal.invariant-loop-literal
invariant-loop-literal l = l.denied ≡ take l.literal-index l.clause
