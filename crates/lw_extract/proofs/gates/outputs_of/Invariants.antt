use Rattle.lw_extract.proofs.GateLists.{AreFirstOutputs}
use Rattle.lw_extract.proofs.gates.outputs_of.Given as goal

abbrev pub invariant-loop-k : goal.invariant-loop-k
invariant-loop-k l = AreFirstOutputs l.ports.outputs l.ports.roots l.nets l.k l.outputs.items
