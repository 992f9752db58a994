-- Nodes by height, and where each stands.
use Rattle.std.proofs.Common.{◌≡◌, ◌≢◌, ℕ, zero, suc, ◌+◌, ◌-◌, ◌<◌, ◌≤◌, ◌==◌, ◌⊎◌, inl, inr, All, Contains, length, take, drop, get_or, List, [], ◌∷◌, ◌++◌, slice_index_or, slice_set, ap, sym, ◌∙◌, subst, arith}
use Rattle.std.proofs.lemmas.List.{get_or_default, get_or-drop, get_or-take, get_or-set_same, get_or-set_other, length-drop, length-take-le}
use Rattle.std.proofs.lemmas.List.FromFn.{length-range_with_len, get_or-range_with_len}
use Rattle.std.proofs.lemmas.List.Sorted.{All-permutation, Contains-permutation, length_permutation}
use Rattle.std.proofs.lemmas.Map.Keys.{IsDistinct-from_apart, IsDistinct-IsPermutation, apart_from_distinct}
use Rattle.std.specs.List.{IsDistinct, range_with_len}
use Rattle.std.specs.List.Sorted.{IsPermutation}
use Rattle.std.proofs.lemmas.Bool.{eqb-false}
use Rattle.lw_facts.proofs.Tests.{eq_lower}
use Rattle.lw_facts.proofs.Numbers.{eq_turned}
use Rattle.lw_trade.specs.Placed.{ArePlaces}

range_suc : (a n : ℕ) → range_with_len a (suc n) ≡ range_with_len a n ++ (a + n) ∷ []
range_suc a zero = let e : ◌≡◌ {A = ℕ} a (a + 0) = omega arith in ap (λ k. k ∷ []) e
range_suc a (suc n) = let e : ◌≡◌ {A = ℕ} (a + 1 + n) (a + suc n) = omega arith in ap (λ l. a ∷ l) (range_suc (a + 1) n ∙ ap (λ k. range_with_len (a + 1) n ++ k ∷ []) e)

pub range_more : (a n : ℕ) → range_with_len a (n + 1) ≡ range_with_len a n ++ (a + n) ∷ []
range_more a n = let e : ◌≡◌ {A = ℕ} (n + 1) (suc n) = omega arith in ap (range_with_len a) e ∙ range_suc a n

pub range_distinct : (n : ℕ) → IsDistinct (λ a b. a == b) (range_with_len 0 n)
range_distinct n = IsDistinct-from_apart (λ a b. a == b) (range_with_len 0 n) (λ i j d lt in'.
    let long = length-range_with_len 0 n in
    let a = get_or-range_with_len 0 n i d (omega (arith, lt, in', long)) in
    let b = get_or-range_with_len 0 n j d (omega (arith, in', long)) in
    eq_lower (get_or (range_with_len 0 n) i d) (get_or (range_with_len 0 n) j d) (omega (arith, a, b, lt)))

module _ (n : ℕ) (order : List ℕ) (moved : IsPermutation (range_with_len 0 n) order) where
  pub order_length : length order ≡ n
  order_length =
      let a = length_permutation (range_with_len 0 n) order moved in
      let b = length-range_with_len 0 n in
      omega (arith, a, b)

  pub order_low : All (λ j. j < n) order
  order_low = All-permutation (λ j. j < n) (range_with_len 0 n) order moved (λ k d lt.
      let long = length-range_with_len 0 n in
      let e = get_or-range_with_len 0 n k d (omega (arith, lt, long)) in
      omega (arith, e, lt, long))

  pub low_at : (k : ℕ) → k < length order → slice_index_or order k 0 < n
  low_at k lt = order_low k 0 lt

  pub order_has : (j : ℕ) → j < n → Contains order j
  order_has j lt =
      let long = length-range_with_len 0 n in
      let e = get_or-range_with_len 0 n j j lt in
      Contains-permutation (range_with_len 0 n) order j moved (j, omega (arith, lt, long), omega (arith, e))

  order_apart : (i j : ℕ) → i < j → j < length order → slice_index_or order i 0 ≢ slice_index_or order j 0
  order_apart i j lt in' =
      eqb-false (slice_index_or order i 0) (slice_index_or order j 0) (apart_from_distinct (λ a b. a == b) order i j 0 (IsDistinct-IsPermutation (λ a b. a == b) eq_turned (range_with_len 0 n) order moved (range_distinct n)) lt in')

  -- one more is placed
  pub place_at : (places : List ℕ) (p : ℕ) → length places ≡ n → p < length order → ((k : ℕ) → k < p → slice_index_or places (slice_index_or order k 0) 0 ≡ k) → (k : ℕ) → k < p + 1 → (k < p) ⊎ (p ≤ k) → slice_index_or (slice_set places (slice_index_or order p 0) p) (slice_index_or order k 0) 0 ≡ k
  place_at places p long in' at k lt (inl less) =
      get_or-set_other places (slice_index_or order p 0) (slice_index_or order k 0) p 0 (order_apart k p less in') ∙ at k less
  place_at places p long in' at k lt (inr ge) =
      let same : p ≡ k = omega (arith, lt, ge) in
      let low = low_at p in' in
      subst (λ x. slice_index_or (slice_set places (slice_index_or order p 0) p) (slice_index_or order x 0) 0 ≡ x) same (get_or-set_same places (slice_index_or order p 0) p 0 (omega (arith, low, long)))

  pub place_low : (places : List ℕ) (q p : ℕ) → length places ≡ n → q < n → p < n → ((i : ℕ) → i < n → slice_index_or places i 0 < n) → (i : ℕ) → i < n → (i < q) ⊎ (q ≤ i) → (q < i) ⊎ (i ≤ q) → slice_index_or (slice_set places q p) i 0 < n
  place_low places q p long lq lp low i lt (inl less) y = let e = get_or-set_other places q i p 0 (λ f. absurd (omega (arith, f, less))) in let b = low i lt in omega (arith, e, b)
  place_low places q p long lq lp low i lt (inr ge) (inl more) = let e = get_or-set_other places q i p 0 (λ f. absurd (omega (arith, f, more))) in let b = low i lt in omega (arith, e, b)
  place_low places q p long lq lp low i lt (inr ge) (inr le) =
      let same : q ≡ i = omega (arith, ge, le) in
      subst (λ x. slice_index_or (slice_set places q p) x 0 < n) same (let e = get_or-set_same places q p 0 (omega (arith, lq, long)) in omega (arith, e, lp))

-- a node stands where its place says
pub stands_there : (order places : List ℕ) (n : ℕ) → IsPermutation (range_with_len 0 n) order → ArePlaces order places → (j : ℕ) → j < n → (slice_index_or places j 0 < n) × (slice_index_or order (slice_index_or places j 0) 0 ≡ j)
stands_there order places n moved are j lt =
    let (k, in', e) = order_has n order moved j lt in
    let here : slice_index_or order k 0 ≡ j = get_or_default order k 0 j in' ∙ e in
    let p : slice_index_or places j 0 ≡ k = sym (ap (λ x. slice_index_or places x 0) here) ∙ are.at k in' in
    let long = order_length n order moved in
    (omega (arith, p, in', long), ap (λ x. slice_index_or order x 0) p ∙ here)

-- what is behind the inputs
pub slice_length : (m n : ℕ) (all heights : List ℕ) → length all ≡ m + n → heights ≡ all → length (take (length heights - m) (drop m heights)) ≡ n
slice_length m n all heights long same =
    let e = ap length same in
    let d = length-drop m heights in
    length-take-le (length heights - m) (drop m heights) (omega (arith, d)) ∙ omega (arith, e, long)

pub slice_at : (m n : ℕ) (all heights : List ℕ) → length all ≡ m + n → heights ≡ all → (k d : ℕ) → k < n → slice_index_or (take (length heights - m) (drop m heights)) k d ≡ slice_index_or all (m + k) 0
slice_at m n all heights long same k d lt =
    let e = ap length same in
    get_or-take (length heights - m) (drop m heights) k d (omega (arith, e, long, lt)) ∙ (get_or-drop m heights k d ∙ (ap (λ l. get_or l (m + k) d) same ∙ get_or_default all (m + k) d 0 (omega (arith, long, lt))))
