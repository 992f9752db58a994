use Rattle.std.proofs.Common.{◌∷◌, take}
use Rattle.std.specs.List.{flat_map}
use Rattle.lw_io.specs.Writers.{Writes}
use Rattle.lw_verilog.specs.Texts.{escaped}
use Rattle.lw_verilog.proofs.putting.put_further.Given as goal

abbrev pub invariant-loop-name : goal.invariant-loop-name
invariant-loop-name g l = Writes g.S.Sink.taken g.S.Sink.faults l.initial.out l.out (flat_map (λ name. 44 ∷ 32 ∷ escaped name) (take l.name-index l.names))
