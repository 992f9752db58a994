use Rattle.std.specs.List.{flat_map, range_with_len}
use Rattle.lw_io.specs.Writers.{Writes}
use Rattle.lw_report.specs.Blocks.{bits_at}
use Rattle.lw_report.specs.Simulated.{value_line}
use Rattle.lw_report.proofs.outputs.put_net_lines.Given as goal

abbrev pub invariant-loop-k : goal.invariant-loop-k
invariant-loop-k g l = Writes g.S.Sink.taken g.S.Sink.faults l.initial.out l.out (flat_map (λ k. value_line (bits_at k l.nets) l.outputs) (range_with_len 0 l.k))
