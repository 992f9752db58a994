use Rattle.std.proofs.Common.{◌∙◌, arith}
use Rattle.lw_laws.specs.Trees.{Tree}
use Rattle.lw_laws.specs.Patterns.{tree_by}
use Rattle.lw_pattern.specs.Steps.{law_operator}
use Rattle.lw_pattern.proofs.Bracketings.{changed_next, changed_end, pairs_alone}
use Rattle.lw_pattern.proofs.shapes.Shapes.join_each.Goals as goal

pub loop-shape-preserved : goal.loop-shape-preserved
loop-shape-preserved c =
    changed_next (λ (t : Tree). tree_by (law_operator c.args.operator) t c.args.other.now) c.loop-shape.shape-items c.args.self.now c.loop-shape.shape-index c.shape-item.result c.join.new.self c.loop-shape.invariant (omega arith)
    (c.in_ok-join.ensures c.args.other.now (c.deref.ensures.value ∙ c.in_ok-tail.ensures))

pub returns : goal.returns
returns c =
    changed_end (λ (t : Tree). tree_by (law_operator c.args.operator) t c.args.other.now) c.loop-shape.shape-items c.args.self.now c.self.inside.items.items c.loop-shape.shape-index c.self.inside.items.len c.loop-shape.invariant (omega arith) (omega arith)
    ∙ pairs_alone (law_operator c.args.operator) c.args.self.now c.args.other.now
