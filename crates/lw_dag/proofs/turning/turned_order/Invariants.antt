use Rattle.std.proofs.Common.{length}
use Rattle.lw_dag.specs.Ranking.{IsWalk}
use Rattle.lw_dag.proofs.turning.turned_order.Given as goal

abbrev pub invariant-loop-j : goal.invariant-loop-j
invariant-loop-j l = IsWalk (length l.graph.nodes.now) l.walk
