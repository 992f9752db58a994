use Rattle.std.proofs.Common.{◌≡◌, ◌++◌, map, take}
use Rattle.lw_named_netlist.specs.Placing.{signal_at}
use Rattle.lw_named_netlist.proofs.placing.names_by.Given as goal

abbrev pub invariant-loop-place : goal.invariant-loop-place
invariant-loop-place l = l.names.items ≡ l.fn.first.items ++ map (signal_at l.inputs l.signals) (take l.place-index l.places)
