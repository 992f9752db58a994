use Rattle.lw_extract.specs.Choosing.{chosen_classes}
use Rattle.lw_extract.proofs.ClassNets.{AreGatesUpTo}
use Rattle.lw_extract.proofs.nets.add_gates.Given as goal

abbrev pub invariant-loop-j : goal.invariant-loop-j
invariant-loop-j l = AreGatesUpTo l.initial.nets l.inputs (chosen_classes l.chosen) l.j l.nets
