use Rattle.std.proofs.Common.{◌<◌, ℕ, get_or}
use Rattle.lw_dag.specs.Graphs.{height_at}
use Rattle.lw_dag.proofs.levels.open_fanin.Given as goal

abbrev pub invariant-loop-s : goal.invariant-loop-s
invariant-loop-s l = (k : ℕ) → k < l.s-index → 0 < height_at l.heights (get_or l.fanins k 0)
