use Rattle.std.proofs.Common.{◌≡◌, ◌∙◌, sym, ap}
use Rattle.lw_laws.specs.Trees.{Tree}
use Rattle.lw_laws.specs.Patterns.{tree_by}
use Rattle.lw_pattern.specs.Steps.{steps_of, law_operator, operand_of}
use Rattle.lw_pattern.proofs.Spelling.{with_tail, spelled_is, kept_is}
use Rattle.lw_pattern.proofs.shape.Shape.join.Goals as goal

pub invariant_of-self-2 : goal.invariant_of-self-2
invariant_of-self-2 c =
    let u : Tree = c.requires.0 in
    let before : c.self.inside.steps.items ≡ steps_of (operand_of c.args.operator c.args.self.now) = sym c.self.invariant ∙ ap steps_of (c.self.view_is ∙ c.in_ok-become_operand.ensures) in
    kept_is _ (tree_by (law_operator c.args.operator) c.args.self.now u) (with_tail c.args.operator c.args.self.now u _ c.args.tail.now _ before c.requires.1 c.in_ok-extend_from_slice.ensures.items)

pub returns : goal.returns
returns c u is =
    let before : c.self.inside.steps.items ≡ steps_of (operand_of c.args.operator c.args.self.now) = sym c.self.invariant ∙ ap steps_of (c.self.view_is ∙ c.in_ok-become_operand.ensures) in
    spelled_is _ (tree_by (law_operator c.args.operator) c.args.self.now u) (with_tail c.args.operator c.args.self.now u _ c.args.tail.now _ before is c.in_ok-extend_from_slice.ensures.items)
