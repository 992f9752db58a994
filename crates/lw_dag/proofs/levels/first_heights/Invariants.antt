use Rattle.std.proofs.Common.{◌≡◌, ◌++◌, replicate}
use Rattle.lw_dag.proofs.levels.first_heights.Given as goal

abbrev pub invariant-ones : goal.invariant-ones
invariant-ones l = l.heights.items ≡ replicate l._made 1

abbrev pub invariant-zeros : goal.invariant-zeros
invariant-zeros l = l.heights.items ≡ replicate l.graph.inputs 1 ++ replicate l._made 0
