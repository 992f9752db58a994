use Rattle.std.proofs.Common.{map, take}
use Rattle.lw_named_netlist.specs.Closing.{is_among}
use Rattle.lw_verilog.specs.Chains.{name_at}
use Rattle.lw_verilog.specs.Windows.{Raises}
use Rattle.lw_verilog.proofs.known.mark_known.Given as goal
use Rattle.lw_netlist.specs.Plain.{port_name}

abbrev pub invariant-loop-port : goal.invariant-loop-port
invariant-loop-port l = Raises (λ i. is_among (map port_name (take l.port-index l.outputs)) (name_at l.names i)) l.initial.flags l.flags
