use Rattle.std.proofs.Common.{drop}
use Rattle.lw_dag.specs.Ranking.{AreRanked}
use Rattle.lw_dag.proofs.ranking.Ranking.rank_all.Given as goal

abbrev pub invariant-loop-s : goal.invariant-loop-s
invariant-loop-s l = AreRanked l.inputs l.rank l.fanins (drop l.s-index l.fanins) l.initial.self l.self
