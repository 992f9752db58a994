use Rattle.std.proofs.Common.{◌≢◌, ◌+◌, ◌∙◌, false, length, refl, arith, get_or-set_other}
use Rattle.std.proofs.lemmas.Option.{slice_get_within, slice_get_read}
use Rattle.lw_net.proofs.Filling.{IsFilled-more}
use Rattle.lw_net.proofs.eval.fill.Goals as goal

pub loop-j-preserved : goal.loop-j-preserved
loop-j-preserved c = record {
  inputs = λ i below. let other : i ≢ c.args.first + c.loop-j.j = omega arith in get_or-set_other c.loop-j.nets (c.args.first + c.loop-j.j) i c.value_of.result false other ∙ c.loop-j.invariant.inputs i below;
  filled = IsFilled-more c.args.nodes.now c.args.first c.loop-j.j c.loop-j.nets c.value_of.result c.index-nodes-j.result c.requires.nodes (omega arith) (slice_get_read c.args.nodes.now (length c.args.nodes.now) c.loop-j.j c.index-nodes-j.result refl (omega arith) c.index-nodes-j.is) c.value_of.ensures c.loop-j.invariant.filled;
}

pub returns-clause-values : goal.returns-clause-values
returns-clause-values c = λ j node at. let inside = slice_get_within c.args.nodes.now j node at in c.loop-j.invariant.filled.each j node (omega arith) at
