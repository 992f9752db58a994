use Rattle.std.proofs.Common.{ℕ, ◌<◌, ◌≤◌, ◌≡◌, ◌⊎◌, Some, slice_get, slice_index, slice_index_or, sym, subst, ◌∙◌, inl, inr, arith}
use Rattle.std.proofs.lemmas.Option.{slice_get-get_or, same_Some}
use native.Mathlib.Nat.{eq-or-lt_of_le}
use Rattle.lw_bounds.specs.declared.parts.Rule.{Rule}
use Rattle.lw_bounds.specs.Places.{given}
use Rattle.lw_bounds.proofs.Lessening.{HaveFallen, fallen_more}
use Rattle.lw_bounds.proofs.lowering.lower.Goals as goal

pub loop-number-preserved : goal.loop-number-preserved
loop-number-preserved c = record {
  no_more = λ k. omega (arith, c.lower_number.ensures.lessened.no_more k, c.loop-number.invariant.no_more k);
  lowered = λ i q lt at. by_place i q at (eq-or-lt_of_le {n = i} {m = c.loop-number.number} (omega arith));
  fallen = subst (HaveFallen c.args.least.now c.lower_number.new.numbers) (sym c.either-fell.ensures) (fallen_more c.args.least.now c.loop-number.least c.lower_number.new.numbers c.lower_number.result c.loop-number.fell c.lower_number.ensures.lessened.falls c.lower_number.ensures.lessened.same c.loop-number.invariant.fallen);
}
  where
    here : slice_index c.lower_number.new.numbers (slice_index_or c.args.rules.now c.loop-number.number (record { part = 0; left = 0; right = 0; left_shift = 0; right_shift = 0 })).part ≤ given c.args.xs.now c.args.ys.now (slice_index_or c.args.rules.now c.loop-number.number (record { part = 0; left = 0; right = 0; left_shift = 0; right_shift = 0 }))
    here =
        let none : Rule = record { part = 0; left = 0; right = 0; left_shift = 0; right_shift = 0 } in
        let rule = slice_index_or c.args.rules.now c.loop-number.number none in
        let below = c.given_below-given.ensures in
        let low = c.lower_number.ensures.low in
        let no_more = c.lower_number.ensures.lessened.no_more rule.part in
        omega (arith, below, low, no_more)

    by_place : (i : ℕ) (q : Rule) → slice_get c.args.rules.now i ≡ Some q → (i ≡ c.loop-number.number) ⊎ (i < c.loop-number.number) → slice_index c.lower_number.new.numbers q.part ≤ given c.args.xs.now c.args.ys.now q
    by_place i q at (inl same) =
        let none : Rule = record { part = 0; left = 0; right = 0; left_shift = 0; right_shift = 0 } in
        let rule = slice_index_or c.args.rules.now c.loop-number.number none in
        let there = subst (λ (j : ℕ). slice_get c.args.rules.now j ≡ Some q) same at in
        let is : rule ≡ q = same_Some rule q (sym (slice_get-get_or c.args.rules.now c.loop-number.number none c.loop-number-test.true) ∙ there) in
        subst (λ (r : Rule). slice_index c.lower_number.new.numbers r.part ≤ given c.args.xs.now c.args.ys.now r) is here
    by_place i q at (inr less) =
        let before = c.loop-number.invariant.lowered i q less at in
        omega (arith, before, c.lower_number.ensures.lessened.no_more q.part)
