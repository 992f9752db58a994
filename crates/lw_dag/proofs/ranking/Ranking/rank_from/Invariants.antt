use Rattle.std.proofs.Common.{◌+◌, ◌*◌, [], vec_len}
use Rattle.lw_dag.specs.Rising.{unknown}
use Rattle.lw_dag.specs.Ranking.{IsRanking}
use Rattle.lw_dag.proofs.ranking.Ranking.rank_from.Given as goal

abbrev pub invariant-search : goal.invariant-search
invariant-search l = IsRanking l.graph.inputs l.graph.nodes.now l.rank l.self.ranks.items l.self.ready.items []

abbrev pub decreases-search : goal.decreases-search
decreases-search l = 2 * unknown l.self.ranks.items + vec_len l.self.ready
