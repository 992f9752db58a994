use Rattle.lw_pool.specs.declared.id.ClassId.{ClassId}
use Rattle.std.proofs.Common.{◌<◌, length, get_or, arith}
use Rattle.std.proofs.lemmas.List.Elements.{All-get_or}
use Rattle.lw_needed.proofs.Noting.{also_more}
use Rattle.lw_needed.proofs.needed.need.Goals as goal

pub loop-class-preserved : goal.loop-class-preserved
loop-class-preserved c =
    let none : ClassId = record { 0 = 0 } in
    let below : (get_or c.args.classes.now c.loop-class.class-index none).0 < length c.args.needed.now = All-get_or (λ (x : ClassId). x.0 < length c.args.needed.now) c.args.classes.now c.loop-class.class-index none c.loop-class-test.true c.requires in
    also_more c.args.needed.now c.loop-class.needed c.args.classes.now c.loop-class.class-index none c.loop-class-test.true (omega (arith, below, c.loop-class.invariant.one_each)) c.loop-class.invariant
