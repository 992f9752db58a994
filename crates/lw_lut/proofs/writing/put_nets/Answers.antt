use Rattle.std.proofs.Common.{◌∷◌, subst}
use Rattle.std.specs.List.{flat_map}
use Rattle.std.proofs.lemmas.List.{take_all}
use Rattle.lw_io.specs.Writers.{Writes}
use Rattle.lw_io.proofs.Putting.{Writes-more}
use Rattle.lw_pool.specs.declared.id.ClassId.{ClassId}
use Rattle.lw_lut.specs.Texts.{net_name}
use Rattle.lw_lut.proofs.writing.put_nets.Goals as goal

pub loop-class-preserved : goal.loop-class-preserved
loop-class-preserved g c =
    let next = subst (λ w. Writes g.S.Sink.taken g.S.Sink.faults c.loop-class.out c.put_word.new.out (32 ∷ w)) c.net_name.ensures c.put_word.ensures in
    Writes-more (λ (class : ClassId). 32 ∷ net_name c.args.net.now class.0) c.args.classes.now c.loop-class.class-index (record { 0 = 0 }) c.loop-class-test.true c.loop-class.invariant next

pub returns : goal.returns
returns g c = subst (λ cs. Writes g.S.Sink.taken g.S.Sink.faults c.args.out.now c.loop-class.out (flat_map (λ (class : ClassId). 32 ∷ net_name c.args.net.now class.0) cs)) (take_all c.loop-class.class-index c.args.classes.now c.loop-class-test.false) c.loop-class.invariant
