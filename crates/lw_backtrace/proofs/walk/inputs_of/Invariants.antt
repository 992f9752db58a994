use Rattle.lw_backtrace.specs.Walks.{AreInputsTo}
use Rattle.lw_backtrace.proofs.walk.inputs_of.Given as goal

abbrev pub invariant-loop-input : goal.invariant-loop-input
invariant-loop-input l = AreInputsTo l.graph l.input l.inputs.items
