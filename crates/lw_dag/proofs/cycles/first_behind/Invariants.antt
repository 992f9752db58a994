use Rattle.std.proofs.Common.{◌<◌, ◌+◌, ℕ}
use Rattle.lw_dag.specs.Graphs.{Leads}
use Rattle.lw_dag.proofs.cycles.first_behind.Given as goal

abbrev pub invariant-loop-p : goal.invariant-loop-p
invariant-loop-p l = (j : ℕ) → j < l.p → Leads l.of.graph.now.inputs l.of.graph.now.nodes.now j (l.of.graph.now.inputs + j) → ⊥
