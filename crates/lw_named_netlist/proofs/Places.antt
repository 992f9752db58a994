-- Gates at places, and the order of what they are.
use Rattle.std.proofs.Common.{◌≡◌, ℕ, zero, suc, ◌+◌, ◌<◌, ◌==◌, Bool, true, false, cond, List, [], ◌∷◌, ◌++◌, length, map, filter, get_or, All, refl, sym, ap, ap₂, subst, ◌∙◌, arith}
use Rattle.std.proofs.lemmas.List.{map-append, get_or-map, length-map}
use Rattle.std.proofs.lemmas.List.FromFn.{length-range_with_len, get_or-range_with_len}
use Rattle.std.proofs.lemmas.List.Sorted.{IsPermutation-map, All-permutation, length_permutation}
use Rattle.std.specs.List.{flat_map, range_with_len}
use Rattle.std.specs.List.Sorted.{IsPermutation, IsNonDecreasingBy}
use Rattle.std.proofs.Math.Numerals.{add-one}
use Rattle.lw_dag.specs.Ordering.{AreKeys, by_key, greatest}
use Rattle.lw_named_netlist.specs.declared.draft.DraftGate.{DraftGate}
use Rattle.lw_named_netlist.specs.Closing.{by_depth}
use Rattle.lw_named_netlist.specs.Ordering.{TellDepths}
use Rattle.lw_named_netlist.specs.Placing.{gate_at, gates_at}
use Rattle.lw_named_netlist.proofs.Starting.{bare_gate}

range_shift : {X : Type 0} (f : ℕ → X) (a n : ℕ) → map f (range_with_len (a + 1) n) ≡ map (λ k. f (suc k)) (range_with_len a n)
range_shift f a zero = refl
range_shift f a (suc n) = ap₂ (λ x xs. x ∷ xs) (ap f (add-one a)) (range_shift f (a + 1) n)

-- a list is what stands at its places
all_read : {X : Type 0} (xs : List X) (d : X) → map (λ k. get_or xs k d) (range_with_len 0 (length xs)) ≡ xs
all_read [] d = refl
all_read (x ∷ xs) d = ap (λ l. x ∷ l) (range_shift (λ k. get_or (x ∷ xs) k d) 0 (length xs) ∙ all_read xs d)

module _ {X : Type 0} (f : ℕ → X) (key : X → ℕ) where
  map_at : (d : ℕ) (ks : List ℕ) → map f (filter (λ k. key (f k) == d) ks) ≡ filter (λ x. key x == d) (map f ks)
  map_at d [] = refl
  map_at d (k ∷ ks) = by_test (key (f k) == d) (map_at d ks)
    where
      by_test : (b : Bool) → map f (filter (λ j. key (f j) == d) ks) ≡ filter (λ x. key x == d) (map f ks) → map f (cond b (k ∷ filter (λ j. key (f j) == d) ks) (filter (λ j. key (f j) == d) ks)) ≡ cond b (f k ∷ filter (λ x. key x == d) (map f ks)) (filter (λ x. key x == d) (map f ks))
      by_test true e = ap (λ l. f k ∷ l) e
      by_test false e = e

  map_range : (low m : ℕ) (ks : List ℕ) → map f (flat_map (λ d. filter (λ k. key (f k) == d) ks) (range_with_len low m)) ≡ flat_map (λ d. filter (λ x. key x == d) (map f ks)) (range_with_len low m)
  map_range low zero ks = refl
  map_range low (suc m) ks =
      map-append f (filter (λ k. key (f k) == low) ks) (flat_map (λ d. filter (λ k. key (f k) == d) ks) (range_with_len (low + 1) m))
      ∙ ap₂ (λ a b. a ++ b) (map_at low ks) (map_range (low + 1) m ks)

  map_map : (ks : List ℕ) → map key (map f ks) ≡ map (λ k. key (f k)) ks
  map_map [] = refl
  map_map (k ∷ ks) = ap (λ l. key (f k) ∷ l) (map_map ks)

  sorted_images : (ks order : List ℕ) → order ≡ by_key (λ k. key (f k)) ks → map f order ≡ by_key key (map f ks)
  sorted_images ks order e =
      ap (map f) e
      ∙ (map_range 1 (greatest (map (λ k. key (f k)) ks)) ks
      ∙ ap (λ ns. flat_map (λ d. filter (λ x. key x == d) (map f ks)) (range_with_len 1 (greatest ns))) (sym (map_map ks)))

  rising_images : (ks : List ℕ) → IsNonDecreasingBy (λ k. key (f k)) ks → IsNonDecreasingBy key (map f ks)
  rising_images ks up i j d le lt =
      let inside : j < length ks = omega (arith, length-map ks f) in
      omega (arith, ap key (get_or-map f ks i 0 d (omega arith)), ap key (get_or-map f ks j 0 d inside), up i j 0 le inside)

-- gates that stand at all places, in some order
module _ (gates : List DraftGate) (all places : List ℕ) (ranged : all ≡ range_with_len 0 (length gates)) (moved : IsPermutation all places) where
  abbrev pub depth_at_place : (List ℕ → ℕ) → ℕ → ℕ
  depth_at_place depth p = depth (gate_at gates p).out

  images : map (gate_at gates) all ≡ gates
  images = ap (map (gate_at gates)) ranged ∙ all_read gates bare_gate

  pub order_moved : IsPermutation gates (gates_at gates places)
  order_moved = subst (λ l. IsPermutation l (gates_at gates places)) images (IsPermutation-map (gate_at gates) all places moved)

  pub places_many : length places ≡ length gates
  places_many = omega (arith, length_permutation all places moved, ap length ranged, length-range_with_len 0 (length gates))

  pub places_within : All (λ p. p < length gates) places
  places_within =
      All-permutation (λ p. p < length gates) all places moved (subst (All (λ p. p < length gates)) (sym ranged) (λ k d lt.
      let inside : k < length gates = omega (arith, length-range_with_len 0 (length gates)) in
      omega (arith, get_or-range_with_len 0 (length gates) k d inside)))

  module _ (slice : List ℕ) (depth : List ℕ → ℕ) (tell : TellDepths slice gates depth) where
    pub keys_tell : AreKeys slice all (depth_at_place depth)
    keys_tell =
        subst (λ l. AreKeys slice l (depth_at_place depth)) (sym ranged) (λ k d lt.
        let inside : k < length gates = omega (arith, length-range_with_len 0 (length gates)) in
        let here : get_or (range_with_len 0 (length gates)) k d ≡ k = omega (arith, get_or-range_with_len 0 (length gates) k d inside) in
        tell k bare_gate inside ∙ ap (depth_at_place depth) (sym here))

    pub order_rising : ((key : ℕ → ℕ) → AreKeys slice all key → IsNonDecreasingBy key places) → IsNonDecreasingBy (λ (gate : DraftGate). depth gate.out) (gates_at gates places)
    order_rising up = rising_images (gate_at gates) (λ (gate : DraftGate). depth gate.out) places (up (depth_at_place depth) keys_tell)

    pub order_sorted : ((key : ℕ → ℕ) → AreKeys slice all key → places ≡ by_key key all) → gates_at gates places ≡ by_depth depth gates
    order_sorted sorted =
        sorted_images (gate_at gates) (λ (gate : DraftGate). depth gate.out) all places (sorted (depth_at_place depth) keys_tell)
        ∙ ap (by_depth depth) images
