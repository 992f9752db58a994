-- Flags of classes that are needed.
use Rattle.std.proofs.Common.{ℕ, ◌+◌, ◌<◌, ◌≡◌, ◌⊎◌, inl, inr, Bool, true, false, List, [], ◌∷◌, ◌++◌, length, take, get_or, Contains, slice_index_or, slice_set, ap, sym, ◌∙◌, subst}
use Rattle.std.proofs.lemmas.Bool.{cases_eq}
use Rattle.std.proofs.lemmas.List.{length-set, get_or-set_same, get_or-set_other, map_push, take_more}
use Rattle.std.proofs.lemmas.List.Elements.{Contains-push, Contains-push_cases, Contains-append_left}
use Rattle.lw_pool.specs.declared.id.ClassId.{ClassId}
use Rattle.lw_needed.specs.Needed.{IsNoted, HasAlso}
use Rattle.lw_pool.specs.Numbers.{numbers}

also_push : (old now : List Bool) (cs : List ClassId) (c : ClassId) → c.0 < length now → HasAlso old cs now → HasAlso old (cs ++ c ∷ []) (slice_set now c.0 true)
also_push old now cs c below has = record {
  one_each = length-set now c.0 true ∙ has.one_each;
  are = λ b. (to b (cases_eq b c.0), from b (cases_eq b c.0));
}
  where
    same : numbers (cs ++ c ∷ []) ≡ numbers cs ++ c.0 ∷ []
    same = map_push (λ (x : ClassId). x.0) cs c

    to : (b : ℕ) → (b ≡ c.0) ⊎ (b ≡ c.0 → ⊥) → IsNoted (slice_set now c.0 true) b → IsNoted old b ⊎ Contains (numbers (cs ++ c ∷ [])) b
    to b (inl e) s = inr (subst (λ ns. Contains ns b) (sym same) (subst (λ n. Contains (numbers cs ++ c.0 ∷ []) n) (sym e) (Contains-push (numbers cs) c.0)))
    to b (inr other) s = by_case ((has.are b).0 (sym (get_or-set_other now c.0 b true false other) ∙ s))
      where
        by_case : IsNoted old b ⊎ Contains (numbers cs) b → IsNoted old b ⊎ Contains (numbers (cs ++ c ∷ [])) b
        by_case (inl e) = inl e
        by_case (inr k) = inr (subst (λ ns. Contains ns b) (sym same) (Contains-append_left (numbers cs) (c.0 ∷ []) b k))

    from : (b : ℕ) → (b ≡ c.0) ⊎ (b ≡ c.0 → ⊥) → IsNoted old b ⊎ Contains (numbers (cs ++ c ∷ [])) b → IsNoted (slice_set now c.0 true) b
    from b (inl e) s = ap (λ n. slice_index_or (slice_set now c.0 true) n false) e ∙ get_or-set_same now c.0 true false below
    from b (inr other) (inl e) = get_or-set_other now c.0 b true false other ∙ (has.are b).1 (inl e)
    from b (inr other) (inr k) = by_case (Contains-push_cases (numbers cs) c.0 b (subst (λ ns. Contains ns b) same k))
      where
        by_case : Contains (numbers cs) b ⊎ (c.0 ≡ b) → IsNoted (slice_set now c.0 true) b
        by_case (inl k) = get_or-set_other now c.0 b true false other ∙ (has.are b).1 (inr k)
        by_case (inr e) = absurd (other (sym e))

-- one more of some classes is noted
pub also_more : (old now : List Bool) (cs : List ClassId) (i : ℕ) (d : ClassId) → i < length cs → (get_or cs i d).0 < length now → HasAlso old (take i cs) now → HasAlso old (take (i + 1) cs) (slice_set now (get_or cs i d).0 true)
also_more old now cs i d lt below has =
    subst (λ (xs : List ClassId). HasAlso old xs (slice_set now (get_or cs i d).0 true)) (sym (take_more cs i d lt)) (also_push old now (take i cs) (get_or cs i d) below has)

-- what was noted still is
pub still_noted : {old new : List Bool} {classes : List ClassId} → HasAlso old classes new → (c : ℕ) → IsNoted old c → IsNoted new c
still_noted has c e = (has.are c).1 (inl e)
