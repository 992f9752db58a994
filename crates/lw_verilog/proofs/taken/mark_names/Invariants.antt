use Rattle.std.proofs.Common.{◌+◌, take}
use Rattle.lw_named_netlist.specs.Closing.{is_among}
use Rattle.lw_verilog.specs.Texts.{instance_name}
use Rattle.lw_verilog.specs.Windows.{Raises}
use Rattle.lw_verilog.proofs.taken.mark_names.Given as goal

abbrev pub invariant-loop-name : goal.invariant-loop-name
invariant-loop-name l = Raises (λ i. is_among (take l.name-index l.names) (instance_name (l.base + i))) l.initial.flags l.flags
