use Rattle.std.proofs.Common.{◌+◌, map, take}
use Rattle.lw_named_netlist.specs.Closing.{is_among}
use Rattle.lw_verilog.specs.Texts.{instance_name}
use Rattle.lw_verilog.specs.Windows.{Raises}
use Rattle.lw_verilog.proofs.taken.mark_outputs.Given as goal
use Rattle.lw_netlist.specs.Plain.{port_name}

abbrev pub invariant-loop-port : goal.invariant-loop-port
invariant-loop-port l = Raises (λ i. is_among (map port_name (take l.port-index l.outputs)) (instance_name (l.base + i))) l.initial.flags l.flags
