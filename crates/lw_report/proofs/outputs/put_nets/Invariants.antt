use Rattle.std.proofs.Common.{false, [], ◌∷◌, take, slice_index_or}
use Rattle.std.specs.List.{flat_map}
use Rattle.lw_pool.specs.declared.id.NetId.{NetId}
use Rattle.lw_io.specs.Writers.{Writes}
use Rattle.lw_report.specs.Blocks.{bits_at}
use Rattle.lw_report.specs.Simulated.{digit}
use Rattle.lw_report.proofs.outputs.put_nets.Given as goal

abbrev pub invariant-loop-net : goal.invariant-loop-net
invariant-loop-net g l = Writes g.S.Sink.taken g.S.Sink.faults l.initial.out l.out (flat_map (λ (net : NetId). digit (slice_index_or (bits_at l.k l.nets) net.0 false) ∷ []) (take l.net-index l.outputs))
