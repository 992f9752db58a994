use Rattle.std.proofs.Common.{◌≡◌, ◌++◌, map, take}
use Rattle.lw_named_netlist.proofs.Names.{to_of}
use Rattle.lw_named_netlist.proofs.naming.driven.Given as goal

abbrev pub invariant-loop-wire : goal.invariant-loop-wire
invariant-loop-wire l = l.names ≡ l.initial.names ++ map to_of (take l.wire-index l.draft.wires)
