use Rattle.lw_dag.specs.Ranking.{AreRanksTo}
use Rattle.lw_dag.proofs.ranking.ranks.Given as goal

abbrev pub invariant-loop-i : goal.invariant-loop-i
invariant-loop-i l = AreRanksTo l.graph l.i l.ranking
