use Rattle.std.proofs.Common.{ℕ, ◌+◌, ◌<◌, take, Contains}
use Rattle.lw_dag.specs.Ranking.{rank_at}
use Rattle.lw_dag.proofs.ranking.are_below.Given as goal

abbrev pub invariant-loop-s : goal.invariant-loop-s
invariant-loop-s l = (k : ℕ) → Contains (take l.s-index l.fanins) (l.inputs + k) → rank_at l.ranks k < l.rank
