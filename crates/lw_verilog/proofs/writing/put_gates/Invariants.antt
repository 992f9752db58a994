use Rattle.std.proofs.Common.{◌++◌, map}
use Rattle.lw_verilog.specs.Named.{Fits}
use Rattle.lw_verilog.proofs.PutParts.{GatesPut}
use Rattle.lw_verilog.proofs.writing.put_gates.Given as goal
use Rattle.lw_netlist.specs.Plain.{port_name}

abbrev pub invariant-loop-gate : goal.invariant-loop-gate
invariant-loop-gate g l = record {
  stands : Fits l.all l.taken;
  put : GatesPut l.lib l.all.names.now (l.all.names.now ++ map port_name l.all.outputs.now) l.gates l.gate-index l.most l.number g.S.Sink.taken g.S.Sink.faults l.initial.out l.out;
}
