use Rattle.std.proofs.Common.{◌≡◌, drop, map}
use Rattle.std.specs.Prelude.{find}
use Rattle.lw_verilog.specs.Sayable.{is_hidden}
use Rattle.lw_verilog.proofs.refusing.hidden_port.Given as goal
use Rattle.lw_netlist.specs.Plain.{port_name}

abbrev pub invariant-loop-port : goal.invariant-loop-port
invariant-loop-port l = find is_hidden (map port_name (drop l.port-index l.ports)) ≡ find is_hidden (map port_name l.ports)
