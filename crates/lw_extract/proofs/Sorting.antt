-- The classes with marks that are no input's, in the order of their numbers and then by height.
use Rattle.std.proofs.Common.{ℕ, ◌+◌, ◌-◌, ◌^◌, ◌<◌, ◌≤◌, ◌≡◌, ◌⊎◌, inl, inr, List, [], ◌∷◌, ◌++◌, length, take, reverse, get_or, All, Contains, Option, Some, None, slice_index_or, ap, sym, ◌∙◌, subst, arith}
use Rattle.std.specs.List.Sorted.{IsPermutation}
use Rattle.std.proofs.lemmas.Bool.{cases_eq}
use Rattle.std.proofs.lemmas.List.Elements.{Contains-push, Contains-push_cases, Contains-append_left}
use Rattle.std.proofs.lemmas.List.Sorted.{Contains-permutation, IsPermutation-sym}
use Rattle.std.proofs.lemmas.Option.{slice_get-get_or}
use Rattle.lw_facts.proofs.Lists.{get_reverse, contains_take_reverse, some_within, at_contained}
use Rattle.lw_pool.specs.declared.id.NetId.{NetId}
use Rattle.lw_needed.specs.declared.places.Place.{Place}
use Rattle.lw_needed.specs.Places.{IsPlaceBefore, AreInDepthOrder}
use Rattle.lw_needed.proofs.Sorting.{AreInOrderBelow, in_order_push, in_order_skip}
use Rattle.lw_cost.specs.declared.mark.Mark.{Mark}
use Rattle.lw_extract.specs.Orders.{ArePlaces, AreMarked}

module _ (nets : List (Option NetId)) (marks : List (Option Mark)) where
  -- the places of the classes below a number
  pub record AreMarkedBelow (count : ℕ) (places : List Place) : Type 0 where
    pub order : AreInOrderBelow count places
    pub each : (p : Place) → Contains places p → (m : Mark) × (slice_index_or marks p.class.0 None ≡ Some m) × (p.depth ≡ m.height) × (slice_index_or nets p.class.0 None ≡ None)
    pub all : (c : ℕ) (m : Mark) → c < count → slice_index_or marks c None ≡ Some m → slice_index_or nets c None ≡ None → (p : Place) × Contains places p × (p.class.0 ≡ c)

  -- the next class has a mark and is no input's
  pub marked_push : (count : ℕ) (places : List Place) (p : Place) (m : Mark) → p.class.0 ≡ count → slice_index_or marks count None ≡ Some m → p.depth ≡ m.height → slice_index_or nets count None ≡ None → AreMarkedBelow count places → AreMarkedBelow (count + 1) (places ++ p ∷ [])
  marked_push count places p m is mark height net are = record {
    order = in_order_push count places p is are.order;
    each = λ q k. each_at q (Contains-push_cases places p q k);
    all = λ c n lt e f. all_at c n lt e f (cases_eq c count);
  }
    where
      here : (n : Mark) × (slice_index_or marks p.class.0 None ≡ Some n) × (p.depth ≡ n.height) × (slice_index_or nets p.class.0 None ≡ None)
      here = (m, ap (λ n. slice_index_or marks n None) is ∙ mark, height, ap (λ n. slice_index_or nets n None) is ∙ net)

      each_at : (q : Place) → Contains places q ⊎ (p ≡ q) → (n : Mark) × (slice_index_or marks q.class.0 None ≡ Some n) × (q.depth ≡ n.height) × (slice_index_or nets q.class.0 None ≡ None)
      each_at q (inl k) = are.each q k
      each_at q (inr e) = subst (λ (z : Place). (n : Mark) × (slice_index_or marks z.class.0 None ≡ Some n) × (z.depth ≡ n.height) × (slice_index_or nets z.class.0 None ≡ None)) e here

      all_at : (c : ℕ) (n : Mark) → c < count + 1 → slice_index_or marks c None ≡ Some n → slice_index_or nets c None ≡ None → (c ≡ count) ⊎ (c ≡ count → ⊥) → (q : Place) × Contains (places ++ p ∷ []) q × (q.class.0 ≡ c)
      all_at c n lt e f (inl s) = (p, Contains-push places p, is ∙ sym s)
      all_at c n lt e f (inr other) =
          let (q, k, s) = are.all c n (omega (arith, lt, other)) e f in
          (q, Contains-append_left places (p ∷ []) q k, s)

  -- the next class has no mark or is an input's
  pub marked_skip : (count : ℕ) (places : List Place) → ((m : Mark) → slice_index_or marks count None ≡ Some m → slice_index_or nets count None ≡ None → ⊥) → AreMarkedBelow count places → AreMarkedBelow (count + 1) places
  marked_skip count places none are = record {
    order = in_order_skip count places are.order;
    each = are.each;
    all = λ c m lt e f. all_at c m lt e f (cases_eq c count);
  }
    where
      all_at : (c : ℕ) (n : Mark) → c < count + 1 → slice_index_or marks c None ≡ Some n → slice_index_or nets c None ≡ None → (c ≡ count) ⊎ (c ≡ count → ⊥) → (q : Place) × Contains places q × (q.class.0 ≡ c)
      all_at c n lt e f (inl s) = absurd (none n (ap (λ k. slice_index_or marks k None) (sym s) ∙ e) (ap (λ k. slice_index_or nets k None) (sym s) ∙ f))
      all_at c n lt e f (inr other) = are.all c n (omega (arith, lt, other)) e f

  pub marked_all : (count : ℕ) (places : List Place) → length marks ≤ count → AreMarkedBelow count places → AreMarked nets marks places
  marked_all count places all are = record {
    are = record {
      each = are.each;
      all = λ c m e f. let in' = some_within marks c m e in are.all c m (omega (arith, in', all)) e f;
    };
    rising = are.order.rising;
  }

  -- the classes have small numbers
  pub marked_small : (places : List Place) → length marks < 2 ^ 32 → ArePlaces nets marks places → All (λ (p : Place). p.class.0 < 2 ^ 32) places
  marked_small places few are i d lt =
      let p = get_or places i d in
      let (m, at, high, net) = are.each p (at_contained places i p (slice_get-get_or places i d lt)) in
      let low = some_within marks p.class.0 m at in
      omega (arith, low, few)

  -- the same places in another order
  pub marked_moved : (places rows : List Place) → IsPermutation places rows → ArePlaces nets marks places → ArePlaces nets marks rows
  marked_moved places rows moved are = record {
    each = λ p k. are.each p (Contains-permutation rows places p (IsPermutation-sym places rows moved) k);
    all = λ c m e f. let (p, k, s) = are.all c m e f in (p, Contains-permutation places rows p moved k, s);
  }

pub before_seen : (places : List Place) → AreInDepthOrder places → (k : ℕ) (d q : Place) → k < length places → Contains (take k (reverse places)) q → IsPlaceBefore (get_or (reverse places) k d) q
before_seen places sorted k d q lt seen =
    let (i, low, in', at) = contains_take_reverse places k q seen in
    sorted (length places - 1 - k) (length places - 1 - i) (get_or (reverse places) k d) q (get_reverse places k d lt) at (omega arith)

pub seen_place : (places : List Place) (k : ℕ) (q : Place) → Contains (take k (reverse places)) q → Contains places q
seen_place places k q seen = let (i, low, in', at) = contains_take_reverse places k q seen in at_contained places (length places - 1 - i) q at

pub back_place : (places : List Place) (k : ℕ) (d : Place) → k < length places → Contains places (get_or (reverse places) k d)
back_place places k d lt = at_contained places (length places - 1 - k) (get_or (reverse places) k d) (get_reverse places k d lt)
