use Rattle.std.proofs.Common.{map, take}
use Rattle.std.specs.List.{flat_map}
use Rattle.lw_io.specs.Writers.{Writes}
use Rattle.lw_verilog.specs.Chains.{AreKnown}
use Rattle.lw_verilog.specs.Texts.{wire_text}
use Rattle.lw_verilog.proofs.putting.put_wires.Given as goal
use Rattle.lw_netlist.specs.Plain.{port_name}

abbrev pub invariant-loop-place : goal.invariant-loop-place
invariant-loop-place g l = record {
  stands : AreKnown l.names (map port_name l.outputs) l.known.base l.known.flags;
  put : Writes g.S.Sink.taken g.S.Sink.faults l.initial.out l.out (flat_map (wire_text (map port_name l.outputs)) (take l.place l.names));
}
