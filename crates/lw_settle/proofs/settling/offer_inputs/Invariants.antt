use Rattle.lw_settle.specs.Settling.{AreInputsOffered}
use Rattle.lw_settle.proofs.settling.offer_inputs.Given as goal

abbrev pub invariant-loop-input : goal.invariant-loop-input
invariant-loop-input g l = AreInputsOffered l.graph (g.C.Cost.costs l.cost) l.input l.queue
