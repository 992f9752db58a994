use Rattle.std.proofs.Common.{◌≡◌, drop, map}
use Rattle.std.specs.Prelude.{find}
use Rattle.lw_named_netlist.specs.Closing.{is_among}
use Rattle.lw_verilog.proofs.refusing.port_in.Given as goal
use Rattle.lw_netlist.specs.Plain.{port_name}

abbrev pub invariant-loop-port : goal.invariant-loop-port
invariant-loop-port l = find (is_among l.set.keys) (map port_name (drop l.port-index l.ports)) ≡ find (is_among l.set.keys) (map port_name l.ports)
