use Rattle.lw_laws.specs.Patterns.{tree_by}
use Rattle.lw_pattern.specs.Steps.{law_operator}
use Rattle.lw_pattern.proofs.Spelling.{joined_is, spelled_is, kept_is}
use Rattle.lw_pattern.proofs.shape.Shape.joined.Goals as goal

pub invariant_of-result : goal.invariant_of-result
invariant_of-result c =
    kept_is _ (tree_by (law_operator c.args.operator) c.args.left.now c.args.right.now) (joined_is c.args.operator c.args.left.now c.args.right.now _ _ _ _ c.in_ok-steps.ensures.items c.in_ok-push_operand.ensures c.in_ok-push_operand-2.ensures c.in_ok-push_operator.ensures)

pub returns : goal.returns
returns c =
    spelled_is _ (tree_by (law_operator c.args.operator) c.args.left.now c.args.right.now) (joined_is c.args.operator c.args.left.now c.args.right.now _ _ _ _ c.in_ok-steps.ensures.items c.in_ok-push_operand.ensures c.in_ok-push_operand-2.ensures c.in_ok-push_operator.ensures)
