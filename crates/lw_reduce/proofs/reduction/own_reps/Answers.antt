use Rattle.std.proofs.Common.{ℕ, ◌≡◌, ◌+◌, ◌-◌, ◌*◌, ◌<◌, ◌≤◌, ◌⊎◌, inl, inr, List, [], ◌∷◌, ◌++◌, length, get_or, slice_index, ap, ◌∙◌, length-append, arith}
use Rattle.std.proofs.lemmas.Bool.{cases_lt}
use Rattle.std.proofs.lemmas.List.{get_or_append_left, get_or-append_right}
use Rattle.lw_reduce.proofs.reduction.own_reps.Goals as goal

-- one more base form is its own representative
own_more : (old new : List ℕ) (n rep : ℕ) → length old ≡ n → ((b : ℕ) → b < n → slice_index old b ≡ 2 * b) → rep ≡ n * 2 → new ≡ old ++ rep ∷ [] → (b : ℕ) → b < n + 1 → slice_index new b ≡ 2 * b
own_more old new n rep size own is grown b lt = ap (λ l. slice_index l b) grown ∙ at (cases_lt b n)
  where
    at : (b < n) ⊎ (n ≤ b) → slice_index (old ++ rep ∷ []) b ≡ 2 * b
    at (inl below) = get_or_append_left old (rep ∷ []) 0 b (omega (arith, below, size)) ∙ own b below
    at (inr above) =
        let here : b - n ≡ 0 = omega (arith, above, lt) in
        get_or-append_right old (rep ∷ []) n b 0 size above ∙ (ap (λ k. get_or (rep ∷ []) k 0) here ∙ omega (arith, is, above, lt))

pub loop-base-preserved : goal.loop-base-preserved
loop-base-preserved c = record {
  count = ap length c.in_ok-push.ensures.items ∙ (length-append c.loop-base.reps.items (c.loop-base.base * 2 ∷ []) ∙ ap (λ n. n + 1) c.loop-base.invariant.count);
  own = own_more c.loop-base.reps.items c.push.new.self.items c.loop-base.base (c.loop-base.base * 2) c.loop-base.invariant.count c.loop-base.invariant.own (omega arith) c.in_ok-push.ensures.items;
}
