use Rattle.std.proofs.Common.{◌<◌, ◌+◌, ℕ}
use Rattle.lw_dag.specs.Graphs.{height_at}
use Rattle.lw_dag.proofs.cycles.first_stuck.Given as goal

abbrev pub invariant-loop-j : goal.invariant-loop-j
invariant-loop-j l = (k : ℕ) → k < l.j → 0 < height_at l.heights (l.inputs + k)
