use Rattle.std.proofs.Common.{◌<◌, length, arith}
use Rattle.std.proofs.lemmas.List.Elements.{All-push}
use Rattle.lw_pool.specs.declared.id.ClassId.{ClassId}
use Rattle.lw_map.proofs.Roots.{sop_listed_at, roots_more}
use Rattle.lw_map.proofs.choices.roots.Goals as goal

pub class_of-requires : goal.class_of-requires
class_of-requires c =
    let low = sop_listed_at c.args.forms.now _ c.sop.result.0 c.nets.ensures.kept c.sop.ensures in
    omega arith

pub loop-output-preserved : goal.loop-output-preserved
loop-output-preserved c = record {
  roots = rw c.in_ok-push.ensures.items (roots_more c.args.forms.now c.args.graph.now c.outputs-outputs.result.now c.loop-output.roots.items c.loop-output.output-index _ c.sop.result.0 c.class_of.result c.loop-output-test.true c.loop-output.invariant.roots c.sop.ensures c.class_of.ensures.class);
  within = rw c.in_ok-push.ensures.items (All-push (λ (root : ClassId). root.0 < length c.args.graph.now.pairs) c.loop-output.roots.items c.class_of.result c.loop-output.invariant.within c.class_of.ensures.within);
}
