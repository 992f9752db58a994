use Rattle.std.proofs.Common.{◌≡◌, ◌+◌, ◌-◌, ◌++◌, map}
use Rattle.lw_verilog.specs.Texts.{passed}
use Rattle.lw_verilog.specs.Named.{Fits}
use Rattle.lw_verilog.proofs.taken.passed.Given as goal
use Rattle.lw_netlist.specs.Plain.{port_name}

abbrev pub invariant-loop-count : goal.invariant-loop-count
invariant-loop-count l = record {
  stands : Fits l.all l.taken;
  so_far : passed (l.all.names.now ++ map port_name l.all.outputs.now) l.most l.number ≡ l.count + passed (l.all.names.now ++ map port_name l.all.outputs.now) (l.most - l.count) (l.number + l.count);
}
