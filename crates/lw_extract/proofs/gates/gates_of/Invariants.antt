use Rattle.lw_extract.proofs.GateLists.{AreFirstGates}
use Rattle.lw_extract.proofs.gates.gates_of.Given as goal

abbrev pub invariant-loop-j : goal.invariant-loop-j
invariant-loop-j l = AreFirstGates l.pats l.nets l.inputs l.chosen l.j l.gates.items
