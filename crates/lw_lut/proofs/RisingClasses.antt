-- Sorted classes, each once.
use Rattle.std.proofs.Common.{◌≡◌, ◌+◌, ◌<◌, ◌≤◌, ◌⊎◌, ◌↔◌, inl, inr, ℕ, List, [], ◌∷◌, ◌++◌, length, take, Contains, Some, slice_get, get_or, sym, ap, ◌∙◌, subst, arith, length-append}
use Rattle.std.proofs.lemmas.Bool.{cases_eq}
use Rattle.std.proofs.lemmas.List.{take_more, take_all, length-take, get_or-take}
use Rattle.std.proofs.lemmas.List.Elements.{Contains-push, Contains-push_cases, Contains-append_left}
use Rattle.std.proofs.lemmas.List.Sorted.{Contains-permutation, IsPermutation-sym, length_permutation}
use Rattle.std.proofs.lemmas.Option.{same_Some, slice_get_within, slice_get-get_or}
use Rattle.std.specs.List.Sorted.{IsPermutation, IsNonDecreasingBy}
use Rattle.lw_facts.proofs.Lists.{at_contained, get_last_cases}
use Rattle.lw_pool.specs.declared.id.ClassId.{ClassId}
use Rattle.lw_lut.specs.Tables.{AreRisingClasses, IsAdded}
use Rattle.lw_graph.proofs.Shared.{same_class}

pub record AreGathered (seen gathered : List ClassId) : Type 0 where
  pub rising : AreRisingClasses gathered
  pub from : (c : ClassId) → Contains gathered c → Contains seen c
  pub to : (c : ClassId) → Contains seen c → Contains gathered c
  pub few : length gathered ≤ length seen

pub gathered_more : (seen gathered new : List ClassId) (c : ClassId) → ((x : ClassId) → Contains seen x → x.0 ≤ c.0) → IsAdded gathered c new → AreGathered seen gathered → AreGathered (seen ++ c ∷ []) new
gathered_more seen gathered new c below (inl (there, same)) are = subst (λ xs. AreGathered (seen ++ c ∷ []) xs) (sym same) (record {
  rising = are.rising;
  from = λ x k. Contains-append_left seen (c ∷ []) x (are.from x k);
  to = λ x k. elim (Contains-push_cases seen c x k) [ inl h ↦ are.to x h | inr e ↦ subst (λ (z : ClassId). Contains gathered z) e there ];
  few = let l = length-append seen (c ∷ []) in let f = are.few in omega (arith, l, f);
})
gathered_more seen gathered new c below (inr (not, same)) are = subst (λ xs. AreGathered (seen ++ c ∷ []) xs) (sym same) (record {
  rising = λ i j x y e f lt. rising i j x y lt (get_last_cases gathered c i x e) (get_last_cases gathered c j y f);
  from = λ x k. elim (Contains-push_cases gathered c x k) [ inl h ↦ Contains-append_left seen (c ∷ []) x (are.from x h) | inr e ↦ subst (λ (z : ClassId). Contains (seen ++ c ∷ []) z) e (Contains-push seen c) ];
  to = λ x k. elim (Contains-push_cases seen c x k) [ inl h ↦ Contains-append_left gathered (c ∷ []) x (are.to x h) | inr e ↦ subst (λ (z : ClassId). Contains (gathered ++ c ∷ []) z) e (Contains-push gathered c) ];
  few = let l = length-append seen (c ∷ []) in let m = length-append gathered (c ∷ []) in let f = are.few in omega (arith, l, m, f);
})
  where
    less : (x : ClassId) → Contains gathered x → x.0 < c.0
    less x k = elim (cases_eq x.0 c.0) [
      | inl e ↦ absurd (not (subst (λ (z : ClassId). Contains gathered z) (same_class x c e) k))
      | inr ne ↦ let le = below x (are.from x k) in omega (arith, le, ne)
    ]

    rising : (i j : ℕ) (x y : ClassId) → i < j → (slice_get gathered i ≡ Some x) ⊎ ((i ≡ length gathered) × (x ≡ c)) → (slice_get gathered j ≡ Some y) ⊎ ((j ≡ length gathered) × (y ≡ c)) → x.0 < y.0
    rising i j x y lt (inl e) (inl f) = are.rising i j x y e f lt
    rising i j x y lt (inl e) (inr (s, f)) = subst (λ (z : ClassId). x.0 < z.0) (sym f) (less x (at_contained gathered i x e))
    rising i j x y lt (inr (s, e)) (inl f) = let w = slice_get_within gathered j y f in absurd (omega (arith, w, s, lt))
    rising i j x y lt (inr (s, e)) (inr (t, f)) = absurd (omega (arith, s, t, lt))

-- what stands before a place of a sorted list is not above it
pub sorted_before : (xs : List ClassId) (k : ℕ) (d x : ClassId) → IsNonDecreasingBy (λ (c : ClassId). c.0) xs → k < length xs → Contains (take k xs) x → x.0 ≤ (get_or xs k d).0
sorted_before xs k d x up lt (i, below, e) =
    let size = length-take k xs in
    let low : i < k = omega (arith, below, size) in
    let at : get_or xs i x ≡ x = sym (get_or-take k xs i x low) ∙ e in
    let le = up i k x (omega (arith, low)) lt in
    let there : get_or xs k x ≡ get_or xs k d = same_Some (get_or xs k x) (get_or xs k d) (sym (slice_get-get_or xs k x lt) ∙ slice_get-get_or xs k d lt) in
    subst (λ (z : ClassId). x.0 ≤ z.0) there (subst (λ (z : ClassId). z.0 ≤ (get_or xs k x).0) at le)

pub gathered_step : (xs gathered new : List ClassId) (k : ℕ) (d : ClassId) → IsNonDecreasingBy (λ (c : ClassId). c.0) xs → k < length xs → IsAdded gathered (get_or xs k d) new → AreGathered (take k xs) gathered → AreGathered (take (k + 1) xs) new
gathered_step xs gathered new k d up lt added are =
    subst (λ seen. AreGathered seen new) (sym (take_more xs k d lt)) (gathered_more (take k xs) gathered new (get_or xs k d) (λ x h. sorted_before xs k d x up lt h) added are)

pub gathered_all : (classes sorted gathered : List ClassId) (k : ℕ) → IsPermutation classes sorted → length sorted ≤ k → AreGathered (take k sorted) gathered → AreRisingClasses gathered × ((c : ClassId) → Contains gathered c ↔ Contains classes c) × (length gathered ≤ length classes)
gathered_all classes sorted gathered k moved le are =
    let whole : take k sorted ≡ sorted = take_all k sorted le in
    let l = length_permutation classes sorted moved in
    let same : length (take k sorted) ≡ length sorted = ap length whole in
    let few = are.few in (
      are.rising,
      λ c. (λ h. Contains-permutation sorted classes c (IsPermutation-sym classes sorted moved) (subst (λ xs. Contains xs c) whole (are.from c h)), λ h. are.to c (subst (λ xs. Contains xs c) (sym whole) (Contains-permutation classes sorted c moved h))),
      omega (arith, few, l, same),
    )
