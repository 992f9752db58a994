use Rattle.std.proofs.Common.{map}
use Rattle.std.specs.List.{flat_map, range_with_len}
use Rattle.lw_io.specs.Writers.{Writes}
use Rattle.lw_report.specs.Blocks.{bits_at}
use Rattle.lw_report.specs.Simulated.{value_line, port_net}
use Rattle.lw_report.proofs.outputs.put_port_lines.Given as goal

abbrev pub invariant-loop-k : goal.invariant-loop-k
invariant-loop-k g l = Writes g.S.Sink.taken g.S.Sink.faults l.initial.out l.out (flat_map (λ k. value_line (bits_at k l.nets) (map port_net l.outputs)) (range_with_len 0 l.k))
