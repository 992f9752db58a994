use Rattle.std.proofs.Common.{length}
use Rattle.lw_dag.specs.Ranking.{IsWalk}
use Rattle.lw_dag.proofs.turning.walk_from.Given as goal

abbrev pub invariant-loop : goal.invariant-loop
invariant-loop l = IsWalk (length l.rows) l.walk
