use Rattle.std.proofs.Common.{◌≡◌, List, length, sym, ap, subst, ◌∙◌}
use Rattle.lw_bounds.specs.Places.{list_at, AreRulesOf, AreWithin}
use Rattle.lw_bounds.proofs.SideRows.{rules_within, not_empty}
use Rattle.lw_bounds.proofs.lowering.lower_where.Goals as goal

pub lower-requires : goal.lower-requires
lower-requires c =
    let group = c.args.group.now in
    let parts = c.args.plan.parts.now in
    let rules = c.deref.result.now in
    let are : AreRulesOf parts group.left group.right rules = subst (AreRulesOf parts group.left group.right) (sym c.deref.ensures.value) c.requires.group.2 in
    let xs = list_at c.args.one group.left in
    let ys = list_at c.args.other group.right in
    let some : length xs ≡ 0 → ⊥ = λ e. not_empty c.list_at-xs.result.now c.is_empty.result c.if-is_empty.false c.is_empty.ensures (ap length c.list_at-xs.ensures ∙ e) in
    let some_other : length ys ≡ 0 → ⊥ = λ e. not_empty c.list_at-ys.result.now c.is_empty-2.result c.if-is_empty-2.false c.is_empty-2.ensures (ap length c.list_at-ys.ensures ∙ e) in
    let within : AreWithin xs ys c.args.least.now rules = rules_within parts c.args.one c.args.other c.requires.numbers.closed c.requires.views.one c.requires.views.other group.left group.right rules c.args.least.now c.requires.numbers.one_each are some some_other in
    record { within = subst (λ (xs : List _). AreWithin xs c.list_at-ys.result.now c.args.least.now rules) (sym c.list_at-xs.ensures) (subst (λ (ys : List _). AreWithin xs ys c.args.least.now rules) (sym c.list_at-ys.ensures) within) }
