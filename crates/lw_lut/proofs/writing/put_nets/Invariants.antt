use Rattle.std.proofs.Common.{◌∷◌, take}
use Rattle.std.specs.List.{flat_map}
use Rattle.lw_io.specs.Writers.{Writes}
use Rattle.lw_pool.specs.declared.id.ClassId.{ClassId}
use Rattle.lw_lut.specs.Texts.{net_name}
use Rattle.lw_lut.proofs.writing.put_nets.Given as goal

abbrev pub invariant-loop-class : goal.invariant-loop-class
invariant-loop-class g l = Writes g.S.Sink.taken g.S.Sink.faults l.initial.out l.out (flat_map (λ (class : ClassId). 32 ∷ net_name l.net class.0) (take l.class-index l.classes))
