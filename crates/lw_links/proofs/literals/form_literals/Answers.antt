use Rattle.std.proofs.Common.{◌∙◌, ap, arith, length, subst, sym}
use Rattle.std.proofs.lemmas.List.{length_push}
use Rattle.lw_links.specs.Linked.{HasBaseValue, StandFor}
use Rattle.lw_links.proofs.Standing.{none_stand, stand_more, stand_later}
use Rattle.lw_links.proofs.literals.form_literals.Goals as goal

pub bases-init : goal.bases-init
bases-init c = record {
  stand = none_stand c.args.sweep.now c.args.forms.now c.new-literals.result.items c.requires (omega arith);
  count = omega arith;
}

pub base_literal-requires-clause-before : goal.base_literal-requires-clause-before
base_literal-requires-clause-before c = ap length c.deref.ensures.value ∙ c.bases.invariant.count

pub base_literal-requires-clause-stand : goal.base_literal-requires-clause-stand
base_literal-requires-clause-stand c = subst (StandFor c.bases.sweep c.args.forms.now) (sym c.deref.ensures.value) c.bases.invariant.stand

pub bases-preserved : goal.bases-preserved
bases-preserved c =
    let lits = c.bases.literals.items in
    let l = c.in-Some.literal in
    let has = rw c.in-Some.is at c.in_ok-literal.ensures.literal in
    record {
      stand = subst (StandFor c.base_literal.new.sweep c.args.forms.now) (sym c.in_ok-push.ensures.items)
          (stand_more c.bases.sweep c.base_literal.new.sweep c.args.forms.now lits l c.bases.invariant.stand c.base_literal.ensures.grows (omega (arith, c.bases.invariant.count, c.len-b-end.ensures.len, c.bases-test.true))
          (subst (λ n. HasBaseValue c.base_literal.new.sweep c.args.forms.now n l) (sym c.bases.invariant.count) has));
      count = ap length c.in_ok-push.ensures.items ∙ omega (arith, length_push lits l, c.bases.invariant.count);
    }

pub returns-in_default : goal.returns-in_default
returns-in_default c = stand_later c.bases.sweep c.base_literal.new.sweep c.args.forms.now c.bases.literals.items c.bases.invariant.stand c.base_literal.ensures.grows
