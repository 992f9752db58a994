use Rattle.std.proofs.Common.{◌≡◌, length, take}
use Rattle.lw_report.specs.Blocks.{vectors_in}
use Rattle.lw_report.specs.Writes.{WritesLines}
use Rattle.lw_report.specs.Mapped.{IsMappedLine}
use Rattle.lw_report.proofs.sim.put_netlist.Given as goal

abbrev pub invariant-loop-block : goal.invariant-loop-block
invariant-loop-block g l = record {
  puts : WritesLines (IsMappedLine l.of) (vectors_in (take l.block-index l.blocks)) g.S.Sink.taken g.S.Sink.faults l.initial.out l.out;
  length : length l.nets ≡ length l.initial.nets;
}
