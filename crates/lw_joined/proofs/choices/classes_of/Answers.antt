use Rattle.std.proofs.Common.{◌/◌, ◌<◌, arith, length}
use Rattle.std.proofs.lemmas.List.Elements.{All-push}
use Rattle.lw_pool.specs.declared.id.ClassId.{ClassId}
use Rattle.lw_map.proofs.Roots.{roots_more, sop_listed_at}
use Rattle.lw_joined.proofs.choices.classes_of.Goals as goal

pub class_of-requires : goal.class_of-requires
class_of-requires c =
    let low : c.sop.result.0 / 2 < length c.args.forms.now.bases = sop_listed_at c.args.forms.now _ c.sop.result.0 c.nets.ensures.kept c.sop.ensures in
    omega arith

pub loop-net-preserved : goal.loop-net-preserved
loop-net-preserved c = record {
  classes = rw c.in_ok-push.ensures.items (roots_more c.args.forms.now c.args.graph.now c.args.nets.now c.loop-net.classes.items c.loop-net.net-index _ c.sop.result.0 c.class_of.result c.loop-net-test.true c.loop-net.invariant.classes c.sop.ensures c.class_of.ensures.class);
  within = rw c.in_ok-push.ensures.items (All-push (λ (class : ClassId). class.0 < length c.args.graph.now.pairs) c.loop-net.classes.items c.class_of.result c.loop-net.invariant.within c.class_of.ensures.within);
}
