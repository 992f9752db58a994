use Rattle.std.proofs.Common.{◌≡◌, ◌∷◌, ◌++◌, [], Some, length, slice_get, sym, subst, subst₂, arith}
use Rattle.lw_choices.specs.GroupChoices.{AreOwnersListed}
use Rattle.lw_choices.proofs.Lists.{get_last}
use Rattle.lw_choices.proofs.Members.{AreOwnersTo, listed_more, listed_none, listed_started}
use Rattle.lw_choices.proofs.group_choices.choices_by_group.Goals as goal

pub loop-group-init : goal.loop-group-init
loop-group-init c =
    let groups = c.args.members.now.classes in
    let owners = c.args.owners.now in
    subst₂ (λ ss ns. AreOwnersTo groups owners 0 ss ns) (sym c.in_ok-starts.ensures.items) (sym c.in_ok-numbers.ensures.items) (listed_none groups owners)

pub loop-group-preserved : goal.loop-group-preserved
loop-group-preserved c =
    let groups = c.args.members.now.classes in
    let owners = c.args.owners.now in
    let k = c.loop-group.group in
    let starts = c.loop-group.starts.items in
    let numbers = c.loop-group.numbers.items in
    let begin : c.len.result ≡ length numbers = omega (arith, c.len.ensures) in
    let started = listed_started groups owners k starts numbers c.len.result begin c.loop-group.invariant in
    let started' = subst (λ ss. AreOwnersListed groups owners k ss numbers) (sym c.in_ok-push.ensures.items) started in
    let last = subst₂ (λ j b. slice_get (starts ++ c.len.result ∷ []) j ≡ Some b) c.loop-group.invariant.2.one_each begin (get_last starts c.len.result) in
    let here = subst (λ ss. slice_get ss k ≡ Some (length numbers)) (sym c.in_ok-push.ensures.items) last in
    listed_more groups owners k c.push.new.self.items numbers c.list_group.new.to.items started' here c.in_ok-list_group.ensures

pub returns : goal.returns
returns c =
    let groups = c.args.members.now.classes in
    let owners = c.args.owners.now in
    let k = c.loop-group.group in
    let numbers = c.loop-group.numbers.items in
    let same : k ≡ c.args.groups = omega (arith, c.loop-group-test.false, c.loop-group.auto.group-end) in
    let begin : c.len-2.result ≡ length numbers = omega (arith, c.len-2.ensures) in
    let started = listed_started groups owners k c.loop-group.starts.items numbers c.len-2.result begin c.loop-group.invariant in
    subst₂ (λ n ss. AreOwnersListed groups owners n ss numbers) same (sym c.in_ok-push-2.ensures.items) started
