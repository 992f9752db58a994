use Rattle.std.proofs.Common.{ℕ, ◌<◌, ◌≤◌, ◌≡◌, Some, slice_get}
use Rattle.lw_aig.specs.declared.gate.Gate.TheVariants.{Input}
use Rattle.lw_equal.proofs.trying.has_few_inputs.Given as goal

abbrev pub invariant-loop-node : goal.invariant-loop-node
invariant-loop-node l = (n : ℕ) → n < l.node → slice_get l.gates n ≡ Some Input → n ≤ l.inputs
