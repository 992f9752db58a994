use Rattle.std.proofs.Common.{arith, length, subst, sym}
use Rattle.lw_aig.specs.Aigs.{IsBelow}
use Rattle.lw_links.proofs.Standing.{ands_stand, signed_below}
use Rattle.lw_links.proofs.literals.and_literal.Goals as goal

pub and-requires-clause-left : goal.and-requires-clause-left
and-requires-clause-left c =
    subst (IsBelow (length c.args.sweep.now)) (sym c.literal_of-others.ensures)
    (signed_below c.args.sweep.now c.args.forms.now c.args.literals.now c.halves_of-halves.result.others.0 c.requires.stand (omega (arith, c.halves_of-halves.ensures.left, c.requires.before)))

pub and-requires-clause-right : goal.and-requires-clause-right
and-requires-clause-right c =
    subst (IsBelow (length c.args.sweep.now)) (sym c.literal_of-last.ensures)
    (signed_below c.args.sweep.now c.args.forms.now c.args.literals.now c.halves_of-halves.result.last.0 c.requires.stand (omega (arith, c.halves_of-halves.ensures.right, c.requires.before)))

pub returns-clause-literal : goal.returns-clause-literal
returns-clause-literal c =
    ands_stand c.args.sweep.now c.and.new.self c.args.forms.now c.args.literals.now c.args.b c.halves_of-halves.result.others.0 c.halves_of-halves.result.last.0 c.literal_of-others.result c.literal_of-last.result c.and.result c.literal_of-others.ensures c.literal_of-last.ensures c.requires.stand c.and.ensures.grows c.requires.before c.halves_of-halves.ensures c.and.ensures.conjunction
