use Rattle.std.proofs.Common.{All, Contains}
use Rattle.lw_clauses.proofs.store.Store.forget.Given as goal

abbrev pub invariant-loop-number : goal.invariant-loop-number
invariant-loop-number l = All (Contains l.self) l.rest
