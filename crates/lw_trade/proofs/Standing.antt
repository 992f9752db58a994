-- Nodes that stand by height: each net stands before the nodes that hang on it.
use Rattle.std.proofs.Common.{◌≡◌, ℕ, ◌+◌, ◌-◌, ◌<◌, ◌≤◌, ◌⊎◌, inl, inr, cond, nat_lt, true, false, length, List, [], ◌∷◌, zero, suc, slice_index_or, ap, ◌∙◌, arith}
use Rattle.std.proofs.lemmas.Bool.Decides.{nat_tests}
use Rattle.std.proofs.lemmas.Bool.{cases_lt}
use Rattle.lw_dag.specs.Graphs.{IsGraph, fanins_at, height_at, tallest}
use Rattle.lw_trade.specs.Placed.{ArePlaces, HaveHeights, IsByHeight, placed_net}
use Rattle.lw_trade.proofs.Places.{order_length, stands_there}

pub placed_input : (m : ℕ) (places : List ℕ) (net : ℕ) → net < m → placed_net m places net ≡ net
placed_input m places net lt = let e : nat_lt net m ≡ true = grind (arith, nat_tests) in ap (λ b. cond b net (m + slice_index_or places (net - m) 0)) e

pub placed_node : (m : ℕ) (places : List ℕ) (j : ℕ) → placed_net m places (m + j) ≡ m + slice_index_or places j 0
placed_node m places j =
    let e : nat_lt (m + j) m ≡ false = grind (arith, nat_tests) in
    let f : ◌≡◌ {A = ℕ} (m + j - m) j = omega arith in
    ap (λ b. cond b (m + j) (m + slice_index_or places (m + j - m) 0)) e ∙ ap (λ k. m + slice_index_or places k 0) f

tallest_above : (heights signals : List ℕ) (k d : ℕ) → k < length signals → height_at heights (slice_index_or signals k d) ≤ tallest heights signals
tallest_above heights [] k d lt = absurd (omega arith)
tallest_above heights (s ∷ signals) zero d lt = omega arith
tallest_above heights (s ∷ signals) (suc k) d lt = let ih = tallest_above heights signals k d (omega (arith, lt)) in omega (arith, ih)

module _ (m : ℕ) (graph : List (List ℕ)) (order places : List ℕ) (is_graph : IsGraph m graph) (high : HaveHeights m graph) (by : IsByHeight m graph order) (placed : ArePlaces order places) where
  -- a lower node stands before
  lower_before : (i j : ℕ) → i < length graph → j < length graph → height_at by.heights (m + i) < height_at by.heights (m + j) → slice_index_or places i 0 < slice_index_or places j 0
  lower_before i j li lj less = by_place (cases_lt (slice_index_or places i 0) (slice_index_or places j 0))
    where
      by_place : (slice_index_or places i 0 < slice_index_or places j 0) ⊎ (slice_index_or places j 0 ≤ slice_index_or places i 0) → slice_index_or places i 0 < slice_index_or places j 0
      by_place (inl lt) = lt
      by_place (inr ge) =
          let (a, e) = stands_there order places (length graph) by.moved placed i li in
          let (b, f) = stands_there order places (length graph) by.moved placed j lj in
          let long = order_length (length graph) order by.moved in
          let up = by.rising (slice_index_or places j 0) (slice_index_or places i 0) 0 ge (omega (arith, a, long)) in
          let x = ap (λ k. height_at by.heights (m + k)) e in
          let y = ap (λ k. height_at by.heights (m + k)) f in
          absurd (omega (arith, up, x, y, less))

  pub pins_before_gate : (j : ℕ) → j < length graph → (k d : ℕ) → k < length (fanins_at graph j) → placed_net m places (slice_index_or (fanins_at graph j) k d) < m + slice_index_or places j 0
  pins_before_gate j lj k d lt = by_input (slice_index_or (fanins_at graph j) k d) (is_graph j k d lt) (tallest_above by.heights (fanins_at graph j) k d lt) (cases_lt (slice_index_or (fanins_at graph j) k d) m)
    where
      by_input : (net : ℕ) → net < m + length graph → height_at by.heights net ≤ tallest by.heights (fanins_at graph j) → (net < m) ⊎ (m ≤ net) → placed_net m places net < m + slice_index_or places j 0
      by_input net low below (inl input) = let e = placed_input m places net input in omega (arith, e, input)
      by_input net low below (inr ge) =
          let i : net ≡ m + (net - m) = omega (arith, ge) in
          let e = ap (placed_net m places) i ∙ placed_node m places (net - m) in
          let own = (by.are.known.placed j lj (high by.heights by.are j lj)).height in
          let same = ap (height_at by.heights) i in
          let before = lower_before (net - m) j (omega (arith, low, ge)) lj (omega (arith, own, same, below)) in
          omega (arith, e, before)
