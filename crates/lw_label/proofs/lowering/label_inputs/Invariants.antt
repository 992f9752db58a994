use Rattle.lw_label.proofs.Inputs.{AreInputs}
use Rattle.lw_label.proofs.lowering.label_inputs.Given as goal

abbrev pub invariant-loop-input : goal.invariant-loop-input
invariant-loop-input g l = AreInputs l.graph (g.C.Cost.costs l.cost) l.input l.marks.items
