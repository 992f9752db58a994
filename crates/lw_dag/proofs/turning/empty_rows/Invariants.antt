use Rattle.std.proofs.Common.{◌≡◌, [], replicate}
use Rattle.lw_dag.proofs.turning.empty_rows.Given as goal

abbrev pub invariant-loop-made : goal.invariant-loop-made
invariant-loop-made l = l.rows.items ≡ replicate l._made []
