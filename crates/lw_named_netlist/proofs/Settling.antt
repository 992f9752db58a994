-- Depths and starts that are found along with heights.
use Rattle.std.proofs.Common.{◌≡◌, ◌≢◌, ℕ, zero, suc, ◌+◌, ◌<◌, ◌≤◌, ◌⊎◌, inl, inr, max, cond, nat_lt, Bool, true, false, List, [], ◌∷◌, length, replicate, get_or, set, take, All, Contains, refl, sym, ap, ap₂, subst, ◌∙◌, arith, length-set, get_or-set_same, get_or-set_other}
use Rattle.std.proofs.lemmas.List.{length-replicate, get_or_default, get_or-take, length-take-le, take_more}
use Rattle.std.proofs.lemmas.List.Elements.{All-contains, All-head, Contains-push_cases}
use Rattle.std.proofs.lemmas.Bool.{cases_eq}
use Rattle.std.specs.List.{range_with_len}
use Rattle.std.proofs.lemmas.List.FromFn.{length-range_with_len}
use Rattle.lw_dag.specs.Graphs.{AreKnown, IsOrdered, height_at, fanins_at, tallest}
use Rattle.lw_dag.proofs.Rising.{contains_none, zero_at}
use Rattle.lw_named_netlist.specs.Numbered.{AreSettled, IsSettled, deepest, depth_at, first_start, own_start, start_at, step_of}

none_other : (at s : ℕ) (needs : List ℕ) → (Contains (s ∷ needs) at → ⊥) → s ≢ at
none_other at s needs out same = out (zero, omega arith, same)

none_further : (at s : ℕ) (needs : List ℕ) → (Contains (s ∷ needs) at → ⊥) → Contains needs at → ⊥
none_further at s needs out (k, lt, e) = out (suc k, omega arith, e)

-- what is set at none of the names
deepest-set : (depths : List ℕ) (at v : ℕ) (needs : List ℕ) → (Contains needs at → ⊥) → deepest (set depths at v) needs ≡ deepest depths needs
deepest-set depths at v [] out = refl
deepest-set depths at v (s ∷ needs) out =
    ap₂ max (get_or-set_other depths at s v 0 (none_other at s needs out)) (deepest-set depths at v needs (none_further at s needs out))

first_start-set : (starts : List ℕ) (at v own : ℕ) (needs : List ℕ) → (Contains needs at → ⊥) → first_start (set starts at v) own needs ≡ first_start starts own needs
first_start-set starts at v own [] out = refl
first_start-set starts at v own (s ∷ needs) out = get_or-set_other starts at s v 0 (none_other at s needs out)

own_start-set : (gates j : ℕ) (starts : List ℕ) (at v own : ℕ) (needs : List ℕ) → (Contains needs at → ⊥) → own_start gates j (set starts at v) own needs ≡ own_start gates j starts own needs
own_start-set gates j starts at v own needs out = ap (λ n. cond (nat_lt j gates) own n) (first_start-set starts at v own needs out)

-- no name is deeper than it is high
pub deepest_low : (heights depths needs : List ℕ) → ((s : ℕ) → depth_at depths s ≤ height_at heights s) → deepest depths needs ≤ tallest heights needs
deepest_low heights depths [] low = omega arith
deepest_low heights depths (s ∷ needs) low = omega (arith, low s, deepest_low heights depths needs low)

step_small : (gates j : ℕ) → step_of gates j ≤ 1
step_small gates j = by_test (nat_lt j gates)
  where
    by_test : (b : Bool) → cond b 1 0 ≤ 1
    by_test true = omega arith
    by_test false = omega arith

take_more_contains : (k at : ℕ) (xs : List ℕ) (x : ℕ) → k ≤ at → at ≤ length xs → Contains (take k xs) x → Contains (take at xs) x
take_more_contains k at xs x le within (i, lt, e) =
    let before : i < k = omega (arith, length-take-le k xs (omega arith)) in
    (i, omega (arith, length-take-le at xs within), get_or-take at xs i x (omega arith) ∙ (sym (get_or-take k xs i x before) ∙ e))

module _ (inputs : ℕ) (graph : List (List ℕ)) (heights order : List ℕ) (at j : ℕ) (ordered : IsOrdered inputs graph heights order) (in_order : at < length order) (here : j ≡ get_or order at 0) where
  is_at : Contains order j
  is_at = (at, in_order, get_or_default order at j 0 in_order ∙ sym here)

  pub placed_node : j < length graph
  placed_node = All-contains (λ i. i < length graph) order j ordered.nodes is_at

  placed_some : 0 < height_at heights (inputs + j)
  placed_some = All-contains (λ i. 0 < height_at heights (inputs + i)) order j ordered.known is_at

-- what a node hangs on is lower than it
pub placed_low : (inputs : ℕ) (graph : List (List ℕ)) (heights order : List ℕ) (at j : ℕ) → AreKnown inputs graph heights → (ordered : IsOrdered inputs graph heights order) → (in_order : at < length order) → (here : j ≡ get_or order at 0) → All (λ h. h ≤ 1 + length graph) heights → tallest heights (fanins_at graph j) ≤ length graph
placed_low inputs graph heights order at j known ordered in_order here low =
    let node = placed_node inputs graph heights order at j ordered in_order here in
    let high = low (inputs + j) 0 (omega (arith, known.one_each, node)) in
    omega (arith, (known.placed j node (placed_some inputs graph heights order at j ordered in_order here)).height, high)

-- one more node is done, behind what it hangs on
module _ (inputs gates : ℕ) (graph : List (List ℕ)) (heights order : List ℕ) (at : ℕ) (depths starts : List ℕ) (j depth start : ℕ) (known : AreKnown inputs graph heights) (ordered : IsOrdered inputs graph heights order) (in_order : at < length order) (here : j ≡ get_or order at 0) (needs : All (λ s. s < inputs + length graph) (fanins_at graph j)) (settled : AreSettled inputs gates graph heights (take at order) depths starts) (deep : depth ≡ step_of gates j + deepest depths (fanins_at graph j)) (from : start ≡ own_start gates j starts (inputs + j) (fanins_at graph j)) where
  abbrev own : ℕ
  own = inputs + j

  node : j < length graph
  node = placed_node inputs graph heights order at j ordered in_order here

  some : 0 < height_at heights own
  some = placed_some inputs graph heights order at j ordered in_order here

  -- nothing that is done hangs on the node, nor does it hang on itself
  fresh : Contains (take at order) j → ⊥
  fresh among = ordered.once at in_order (subst (Contains (take at order)) here among)

  own_out : Contains (fanins_at graph j) own → ⊥
  own_out among = fresh (ordered.behind at j in_order (subst (λ n. Contains (fanins_at graph n) own) here among))

  done_out : (i : ℕ) → Contains (take at order) i → Contains (fanins_at graph i) own → ⊥
  done_out i (k, lt, e) among =
      let before : k < at = omega (arith, length-take-le at order (omega arith)) in
      let is : get_or order k 0 ≡ i = sym (get_or-take at order k 0 before) ∙ (get_or_default (take at order) k 0 i lt ∙ e) in
      fresh (take_more_contains k at order j (omega arith) (omega arith) (ordered.behind k j (omega arith) (subst (λ n. Contains (fanins_at graph n) own) (sym is) among)))

  kept : (i : ℕ) → Contains (take at order) i → IsSettled gates i (inputs + i) (set depths own depth) (set starts own start) (fanins_at graph i)
  kept i done =
      let old = settled.settled i done in
      let other : inputs + i ≢ own = λ e. fresh (let same : i ≡ j = omega arith in subst (Contains (take at order)) same done) in
      let out = done_out i done in
      record {
        depth = get_or-set_other depths own (inputs + i) depth 0 other ∙ (old.depth ∙ ap (λ n. step_of gates i + n) (sym (deepest-set depths own depth (fanins_at graph i) out)));
        start = get_or-set_other starts own (inputs + i) start 0 other ∙ (old.start ∙ sym (own_start-set gates i starts own start (inputs + i) (fanins_at graph i) out));
      }

  now : IsSettled gates j own (set depths own depth) (set starts own start) (fanins_at graph j)
  now = record {
    depth = get_or-set_same depths own depth 0 (omega (arith, node, settled.depths_each)) ∙ (deep ∙ ap (λ n. step_of gates j + n) (sym (deepest-set depths own depth (fanins_at graph j) own_out)));
    start = get_or-set_same starts own start 0 (omega (arith, node, settled.starts_each)) ∙ (from ∙ sym (own_start-set gates j starts own start own (fanins_at graph j) own_out));
  }

  at_node : (i : ℕ) → Contains (take (at + 1) order) i → IsSettled gates i (inputs + i) (set depths own depth) (set starts own start) (fanins_at graph i)
  at_node i among = by_place (Contains-push_cases (take at order) (get_or order at 0) i (subst (λ l. Contains l i) (take_more order at 0 in_order) among))
    where
      by_place : Contains (take at order) i ⊎ (get_or order at 0 ≡ i) → IsSettled gates i (inputs + i) (set depths own depth) (set starts own start) (fanins_at graph i)
      by_place (inl done) = kept i done
      by_place (inr same) = subst (λ n. IsSettled gates n (inputs + n) (set depths own depth) (set starts own start) (fanins_at graph n)) (here ∙ same) now

  low : (s : ℕ) → (s ≡ own) ⊎ (s ≡ own → ⊥) → depth_at (set depths own depth) s ≤ height_at heights s
  low s (inl same) =
      omega (arith, ap (depth_at (set depths own depth)) same ∙ get_or-set_same depths own depth 0 (omega (arith, node, settled.depths_each)), ap (height_at heights) same, (known.placed j node some).height, deep, step_small gates j, deepest_low heights depths (fanins_at graph j) settled.shallow)
  low s (inr other) = omega (arith, get_or-set_other depths own s depth 0 other, settled.shallow s)

  first_within : (ns : List ℕ) → All (λ s. s < inputs + length graph) ns → first_start starts own ns < inputs + length graph
  first_within [] inside = omega (arith, node)
  first_within (s ∷ ns) inside = settled.within s (All-head (λ t. t < inputs + length graph) s ns inside)

  start_within : start < inputs + length graph
  start_within = by_test (nat_lt j gates) from
    where
      by_test : (b : Bool) → start ≡ cond b own (first_start starts own (fanins_at graph j)) → start < inputs + length graph
      by_test true is = omega (arith, is, node)
      by_test false is = omega (arith, is, first_within (fanins_at graph j) needs)

  set_within : (s : ℕ) → s < inputs + length graph → (s ≡ own) ⊎ (s ≡ own → ⊥) → start_at (set starts own start) s < inputs + length graph
  set_within s lt (inl same) = omega (arith, ap (start_at (set starts own start)) same ∙ get_or-set_same starts own start 0 (omega (arith, settled.starts_each)), start_within)
  set_within s lt (inr other) = omega (arith, get_or-set_other starts own s start 0 other, settled.within s lt)

  pub settled_placed : AreSettled inputs gates graph heights (take (at + 1) order) (set depths own depth) (set starts own start)
  settled_placed = record {
    depths_each = length-set depths own depth ∙ settled.depths_each;
    starts_each = length-set starts own start ∙ settled.starts_each;
    at_inputs = λ s lt. (get_or-set_other depths own s depth 0 (λ e. omega arith) ∙ (settled.at_inputs s lt).0, get_or-set_other starts own s start 0 (λ e. omega arith) ∙ (settled.at_inputs s lt).1);
    settled = at_node;
    shallow = λ s. low s (cases_eq s own);
    within = λ s lt. set_within s lt (cases_eq s own);
  }

-- where nothing is known but the inputs
place_at : (low m k : ℕ) → k < m → get_or (range_with_len low m) k 0 ≡ low + k
place_at low zero k lt = absurd (omega arith)
place_at low (suc m) zero lt = omega arith
place_at low (suc m) (suc k) lt = omega (arith, place_at (low + 1) m k (omega arith))

pub settled_starts : (inputs gates : ℕ) (graph : List (List ℕ)) (heights : List ℕ) → AreSettled inputs gates graph heights [] (replicate (inputs + length graph) 0) (range_with_len 0 (inputs + length graph))
settled_starts inputs gates graph heights = record {
  depths_each = length-replicate (inputs + length graph) 0;
  starts_each = length-range_with_len 0 (inputs + length graph);
  at_inputs = λ s lt. (zero_at (inputs + length graph) s, omega (arith, place_at 0 (inputs + length graph) s (omega arith)));
  settled = λ j none. absurd (contains_none j none);
  shallow = λ s. omega (arith, zero_at (inputs + length graph) s);
  within = λ s lt. omega (arith, place_at 0 (inputs + length graph) s (omega arith));
}
