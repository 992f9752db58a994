use Rattle.std.proofs.Common.{length}
use Rattle.lw_dag.specs.Ranking.{AreUserRows}
use Rattle.lw_dag.proofs.turning.turned_round.Given as goal

abbrev pub invariant-loop-j : goal.invariant-loop-j
invariant-loop-j l = AreUserRows (length l.graph.nodes.now) l.rows
