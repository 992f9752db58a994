use Rattle.std.proofs.Common.{◌≡◌, ◌∷◌, replicate}
use Rattle.lw_aig.specs.declared.gate.Gate.TheVariants.{Zero, Input}
use Rattle.lw_sweep.proofs.starting.graph_of_inputs.Given as goal

abbrev pub invariant-loop : goal.invariant-loop
invariant-loop l = l.aig ≡ Zero ∷ replicate l.counter Input
