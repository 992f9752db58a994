use Rattle.std.proofs.Common.{◌≡◌, ◌∙◌, length, refl, sym, ap, subst, subst₂, arith}
use Rattle.lw_choices.specs.GroupChoices.{AreOwnersListed}
use Rattle.lw_choices.specs.Choices.{Choice, IsPartFor}
use Rattle.lw_choices.specs.Stands.{plain_part, plain_row}
use Rattle.lw_choices.specs.PinGroups.{AreUses, AreUsesTo}
use Rattle.lw_facts.proofs.Lists.{all_at}
use Rattle.lw_choices.proofs.Using.{none_used, uses_looked, with_looks}
use Rattle.lw_choices.proofs.pin_groups.add_all.Goals as goal

pub loop-choice-init : goal.loop-choice-init
loop-choice-init c = record {
  count = refl;
  of = c.requires.none.of;
  pin_groups = none_used c.args.lib.now c.args.rows.now c.args.pin_groups.now c.requires.none.of.are c.requires.none.none;
}

pub add_choice-requires-clause-part : goal.add_choice-requires-clause-part
add_choice-requires-clause-part c =
    subst (λ n. IsPartFor c.args.lib.now n (plain_part c.at.result.stand)) (sym c.loop-choice.invariant.count) (all_at (λ (r : Choice). IsPartFor c.args.lib.now c.args.pin_groups.now.links.count r.part) c.args.rows.now c.loop-choice.choice (plain_row c.at.result) c.requires.rows.parts c.at.ensures.choice)

pub add_choice-requires-clause-of : goal.add_choice-requires-clause-of
add_choice-requires-clause-of c = c.loop-choice.invariant.of

pub loop-choice-preserved : goal.loop-choice-preserved
loop-choice-preserved c =
    let added = c.in_ok-add_choice.ensures.added in
    record {
      count = c.in_ok-add_choice.ensures.count ∙ c.loop-choice.invariant.count;
      of = added.of;
      pin_groups = added.pin_groups c.args.rows.now c.at.ensures.choice c.loop-choice.invariant.pin_groups;
    }

pub choices_by_group-requires-clause-groups : goal.choices_by_group-requires-clause-groups
choices_by_group-requires-clause-groups c = omega (arith, c.len-groups.ensures.len, c.loop-choice.invariant.of.are.count)

pub choices_by_group-requires-clause-owners : goal.choices_by_group-requires-clause-owners
choices_by_group-requires-clause-owners c = ap length c.as_slice.ensures.value ∙ c.loop-choice.invariant.of.are.owners_each

pub returns-clause-pin_groups : goal.returns-clause-pin_groups
returns-clause-pin_groups c =
    let xs = c.args.rows.now in
    let u = c.loop-choice.pin_groups in
    let n : c.loop-choice.choice ≡ length xs = omega (arith, c.loop-choice-test.false, c.loop-choice.auto.choice-end, c.len-choice-end.ensures) in
    let pins = subst (λ k. AreUsesTo c.args.lib.now xs k 0 u) n c.loop-choice.invariant.pin_groups in
    let by_group = c.in_ok-by_group.by_group in
    let count : c.len-groups.result ≡ u.members.count = omega (arith, c.len-groups.ensures.len, c.loop-choice.invariant.of.are.count) in
    let these : AreUses c.args.lib.now xs (with_looks u by_group) = record {
      pins = uses_looked u by_group c.args.lib.now xs (length xs) 0 pins;
      by_group = subst₂ (λ os m. AreOwnersListed u.members.classes os m by_group.starts.items by_group.numbers.items) c.as_slice.ensures.value count c.in_ok-by_group.ensures;
    } in
    subst (λ l. AreUses c.args.lib.now xs (with_looks u l)) (sym c.replace.ensures.after) these
