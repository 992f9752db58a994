use Rattle.lw_clauses.specs.Checks.{Denies}
use Rattle.lw_clauses.proofs.following.follows.Given as goal

abbrev pub invariant-loop-cause : goal.invariant-loop-cause
invariant-loop-cause l = Denies l.gates l.clause l.denied
