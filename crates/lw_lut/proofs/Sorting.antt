-- The classes that have a depth other than 0, in the order of their numbers and then by depth.
use Rattle.std.proofs.Common.{ℕ, zero, suc, ◌+◌, ◌^◌, ◌<◌, ◌≤◌, ◌≡◌, ◌⊎◌, inl, inr, List, [], ◌∷◌, ◌++◌, length, get_or, All, Contains, Option, Some, None, slice_index_or, refl, ap, sym, ◌∙◌, subst, arith}
use Rattle.std.specs.List.Sorted.{IsPermutation}
use Rattle.std.proofs.lemmas.Bool.{cases_eq}
use Rattle.std.proofs.lemmas.List.Elements.{Contains-push, Contains-push_cases, Contains-append_left}
use Rattle.std.proofs.lemmas.List.Sorted.{Contains-permutation, IsPermutation-sym}
use Rattle.std.proofs.lemmas.Option.{slice_get-get_or}
use Rattle.lw_facts.proofs.Lists.{some_within, at_contained}
use Rattle.lw_needed.specs.declared.places.Place.{Place}
use Rattle.lw_needed.proofs.Sorting.{AreInOrderBelow, in_order_none, in_order_push, in_order_skip}
use Rattle.lw_lut.specs.Choosing.{ArePlaces}

module _ (depths : List (Option ℕ)) where
  -- the places of the classes below a number
  pub record AreListedBelow (count : ℕ) (places : List Place) : Type 0 where
    pub order : AreInOrderBelow count places
    pub each : (p : Place) → Contains places p → (e : ℕ) × (slice_index_or depths p.class.0 None ≡ Some (suc e)) × (p.depth ≡ suc e)
    pub all : (c m : ℕ) → c < count → slice_index_or depths c None ≡ Some (suc m) → (p : Place) × Contains places p × (p.class.0 ≡ c)

  pub listed_none : AreListedBelow 0 []
  listed_none = record {
    order = in_order_none;
    each = λ p (k, lt, e). absurd (omega arith);
    all = λ c m lt e. absurd (omega arith);
  }

  -- the next class has a depth other than 0
  pub listed_push : (count : ℕ) (places : List Place) (p : Place) (m : ℕ) → p.class.0 ≡ count → slice_index_or depths count None ≡ Some (suc m) → p.depth ≡ suc m → AreListedBelow count places → AreListedBelow (count + 1) (places ++ p ∷ [])
  listed_push count places p m is mark height are = record {
    order = in_order_push count places p is are.order;
    each = λ q k. each_at q (Contains-push_cases places p q k);
    all = λ c n lt e. all_at c n lt e (cases_eq c count);
  }
    where
      here : (n : ℕ) × (slice_index_or depths p.class.0 None ≡ Some (suc n)) × (p.depth ≡ suc n)
      here = (m, ap (λ n. slice_index_or depths n None) is ∙ mark, height)

      each_at : (q : Place) → Contains places q ⊎ (p ≡ q) → (n : ℕ) × (slice_index_or depths q.class.0 None ≡ Some (suc n)) × (q.depth ≡ suc n)
      each_at q (inl k) = are.each q k
      each_at q (inr e) = subst (λ (z : Place). (n : ℕ) × (slice_index_or depths z.class.0 None ≡ Some (suc n)) × (z.depth ≡ suc n)) e here

      all_at : (c n : ℕ) → c < count + 1 → slice_index_or depths c None ≡ Some (suc n) → (c ≡ count) ⊎ (c ≡ count → ⊥) → (q : Place) × Contains (places ++ p ∷ []) q × (q.class.0 ≡ c)
      all_at c n lt e (inl s) = (p, Contains-push places p, is ∙ sym s)
      all_at c n lt e (inr other) =
          let (q, k, s) = are.all c n (omega (arith, lt, other)) e in
          (q, Contains-append_left places (p ∷ []) q k, s)

  -- the next class has none, or 0
  pub listed_skip : (count : ℕ) (places : List Place) → ((m : ℕ) → slice_index_or depths count None ≡ Some (suc m) → ⊥) → AreListedBelow count places → AreListedBelow (count + 1) places
  listed_skip count places none are = record {
    order = in_order_skip count places are.order;
    each = are.each;
    all = λ c m lt e. all_at c m lt e (cases_eq c count);
  }
    where
      all_at : (c n : ℕ) → c < count + 1 → slice_index_or depths c None ≡ Some (suc n) → (c ≡ count) ⊎ (c ≡ count → ⊥) → (q : Place) × Contains places q × (q.class.0 ≡ c)
      all_at c n lt e (inl s) = absurd (none n (ap (λ k. slice_index_or depths k None) (sym s) ∙ e))
      all_at c n lt e (inr other) = are.all c n (omega (arith, lt, other)) e

  -- the classes have small numbers
  pub listed_small : (places : List Place) → length depths < 2 ^ 32 → ArePlaces depths places → All (λ (p : Place). p.class.0 < 2 ^ 32) places
  listed_small places few are i d lt =
      let p = get_or places i d in
      let (e, at, s) = are.each p (at_contained places i p (slice_get-get_or places i d lt)) in
      let low = some_within depths p.class.0 (suc e) at in
      omega (arith, low, few)

  -- the same places in another order
  pub listed_moved : (places rows : List Place) → IsPermutation places rows → ArePlaces depths places → ArePlaces depths rows
  listed_moved places rows moved are = record {
    each = λ p k. are.each p (Contains-permutation rows places p (IsPermutation-sym places rows moved) k);
    all = λ c m e. let (p, k, s) = are.all c m e in (p, Contains-permutation places rows p moved k, s);
  }

pub positive : (d : ℕ) → 0 < d → (e : ℕ) × (d ≡ suc e)
positive zero lt = absurd (omega arith)
positive (suc e) lt = (e, refl)
