use Rattle.std.proofs.Common.{◌≡◌, ◌++◌, map, take}
use Rattle.lw_named_netlist.specs.Closing.{out_of}
use Rattle.lw_named_netlist.proofs.naming.names_of.Given as goal

abbrev pub invariant-loop-name : goal.invariant-loop-name
invariant-loop-name l = l.names ≡ take l.name-index l.inputs

abbrev pub invariant-loop-gate : goal.invariant-loop-gate
invariant-loop-gate l = l.names ≡ l.initial.names ++ map out_of (take l.gate-index l.gates)
