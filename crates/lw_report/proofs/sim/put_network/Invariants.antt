use Rattle.std.proofs.Common.{◌≡◌, length, take}
use Rattle.lw_report.specs.Blocks.{vectors_in}
use Rattle.lw_report.specs.Writes.{WritesLines}
use Rattle.lw_report.specs.Simulated.{IsNetworkLine}
use Rattle.lw_report.proofs.sim.put_network.Given as goal

abbrev pub invariant-loop-block : goal.invariant-loop-block
invariant-loop-block g l = record {
  puts : WritesLines (IsNetworkLine l.net) (vectors_in (take l.block-index l.blocks)) g.S.Sink.taken g.S.Sink.faults l.initial.out l.out;
  length : length l.nets ≡ length l.initial.nets;
}
