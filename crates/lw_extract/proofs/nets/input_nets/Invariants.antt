use Rattle.lw_extract.proofs.ClassNets.{AreInputsUpTo}
use Rattle.lw_extract.proofs.nets.input_nets.Given as goal

abbrev pub invariant-loop-input : goal.invariant-loop-input
invariant-loop-input l = AreInputsUpTo l.graph l.input l.nets.items
