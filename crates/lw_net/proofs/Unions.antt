-- A network with the nodes of another one behind its own is a network.
use Rattle.std.proofs.Common.{ℕ, zero, suc, ◌+◌, ◌-◌, ◌<◌, ◌≤◌, ◌≡◌, ◌⊎◌, inl, inr, Bool, true, false, cond, nat_lt, List, [], ◌∷◌, ◌++◌, length, map, take, drop, Some, slice_get, slice_index_or, All, refl, ap, ap₂, sym, ◌∙◌, subst, arith}
use Rattle.std.proofs.lemmas.Bool.{ltb-true, ltb-false}
use Rattle.std.proofs.lemmas.List.{length-append, length-drop, length-map, take_all}
use Rattle.std.proofs.lemmas.List.Elements.{All-map, All-weaker}
use Rattle.std.proofs.lemmas.Option.{slice_get_within}
use Rattle.lw_laws.proofs.Numbers.{slice_get_map_back}
use Rattle.lw_pool.specs.declared.id.NetId.{NetId}
use Rattle.lw_pool.specs.Numbers.{most_signals}
use Rattle.lw_net.specs.declared.node.Node.{Node}
use Rattle.lw_net.specs.Networks.{IsNetwork, IsNodeAt, NetworkParts}
use Rattle.lw_net.specs.Unions.{CanBeJoined, joined_to, placed_net, placed_node}

-- an element of two lists stands in the one, or in the other behind it
append_cases : {X : Type 0} (xs ys : List X) (j : ℕ) (x : X) → slice_get (xs ++ ys) j ≡ Some x → (slice_get xs j ≡ Some x) ⊎ ((k : ℕ) × (slice_get ys k ≡ Some x) × (j ≡ length xs + k))
append_cases [] ys j x e = inr (j, e, omega arith)
append_cases (y ∷ xs) ys zero x e = inl e
append_cases (y ∷ xs) ys (suc j) x e = by (append_cases xs ys j x e)
  where
    by : (slice_get xs j ≡ Some x) ⊎ ((k : ℕ) × (slice_get ys k ≡ Some x) × (j ≡ length xs + k)) → (slice_get xs j ≡ Some x) ⊎ ((k : ℕ) × (slice_get ys k ≡ Some x) × (suc j ≡ length (y ∷ xs) + k))
    by (inl p) = inl p
    by (inr (k, p, q)) = inr (k, p, omega (arith, q))

-- the part of a list behind its first elements
pub rest_of : (m n : ℕ) (xs ys : List (List ℕ)) → m ≡ n → xs ≡ ys → take (length xs - m) (drop m xs) ≡ drop n ys
rest_of m n xs ys p q =
    let len = length-drop m xs in
    take_all (length xs - m) (drop m xs) (omega (arith, len)) ∙ ap₂ drop p q

pub same_nodes : (i j a b : ℕ) (places : List ℕ) (ns ms : List Node) → i ≡ j → a ≡ b → ns ≡ ms → map (placed_node i a places) ns ≡ map (placed_node j b places) ms
same_nodes i j a b places ns ms p q r = cc

module _ (one other : NetworkParts) (places : List ℕ) (kept : IsNetwork one) (also : IsNetwork other) (can : CanBeJoined one other places) where
  abbrev place : NetId → NetId
  place net = placed_net other.inputs (length one.names) places net

  -- a net before node k of the other stands before its node
  place_before : (k : ℕ) (net : NetId) → net.0 < other.inputs + k → (place net).0 < one.inputs + (length one.nodes + k)
  place_before k net lt = by (nat_lt net.0 other.inputs) refl
    where
      by : (b : Bool) → nat_lt net.0 other.inputs ≡ b → cond b (slice_index_or places net.0 0) (length one.names + (net.0 - other.inputs)) < one.inputs + (length one.nodes + k)
      by true e =
          let low = ltb-true net.0 other.inputs e in
          let each = can.placed.one_each in
          let in' = can.placed.within net.0 0 (omega (arith, low, each)) in
          omega (arith, in')
      by false e =
          let high = ltb-false net.0 other.inputs e in
          let named = kept.named in
          omega (arith, high, named, lt)

  place_of_node : (k : ℕ) (net : NetId) → net.0 ≡ other.inputs + k → (place net).0 ≡ one.inputs + (length one.nodes + k)
  place_of_node k net is = by (nat_lt net.0 other.inputs) refl
    where
      by : (b : Bool) → nat_lt net.0 other.inputs ≡ b → cond b (slice_index_or places net.0 0) (length one.names + (net.0 - other.inputs)) ≡ one.inputs + (length one.nodes + k)
      by true e = let low = ltb-true net.0 other.inputs e in absurd (omega (arith, low, is))
      by false e =
          let named = kept.named in
          omega (arith, named, is)

  node_stays : (k : ℕ) (node : Node) → IsNodeAt other.inputs k node → IsNodeAt one.inputs (length one.nodes + k) (placed_node other.inputs (length one.names) places node)
  node_stays k node is = record {
    drives = place_of_node k node.out is.drives;
    before = All-map (λ (net : NetId). net.0 < one.inputs + (length one.nodes + k)) place node.fanins (All-weaker (λ (net : NetId). net.0 < other.inputs + k) (λ (net : NetId). (place net).0 < one.inputs + (length one.nodes + k)) (place_before k) node.fanins is.before);
    columns = subst (λ n. All (λ (row : List ℕ). length row ≡ n) node.rows) (sym (length-map node.fanins place)) is.columns;
  }

  node_at : (j : ℕ) (node : Node) → slice_get (joined_to one other places).nodes j ≡ Some node → IsNodeAt one.inputs j node
  node_at j node e = by (append_cases one.nodes (map (placed_node other.inputs (length one.names) places) other.nodes) j node e)
    where
      by : (slice_get one.nodes j ≡ Some node) ⊎ ((k : ℕ) × (slice_get (map (placed_node other.inputs (length one.names) places) other.nodes) k ≡ Some node) × (j ≡ length one.nodes + k)) → IsNodeAt one.inputs j node
      by (inl p) = kept.nodes j node p
      by (inr (k, p, q)) =
          let (first, at, same) = slice_get_map_back (placed_node other.inputs (length one.names) places) other.nodes k node p in
          subst (λ i. IsNodeAt one.inputs i node) (sym q) (subst (IsNodeAt one.inputs (length one.nodes + k)) same (node_stays k first (also.nodes k first at)))

  names_count : length (joined_to one other places).names ≡ length one.names + length other.nodes
  names_count =
      let p = length-append one.names (drop other.inputs other.names) in
      let q = length-drop other.inputs other.names in
      let named = also.named in
      omega (arith, p, q, named)

  nodes_count : length (joined_to one other places).nodes ≡ length one.nodes + length other.nodes
  nodes_count =
      let p = length-append one.nodes (map (placed_node other.inputs (length one.names) places) other.nodes) in
      let q = length-map other.nodes (placed_node other.inputs (length one.names) places) in
      omega (arith, p, q)

  pub joined_is_network : IsNetwork (joined_to one other places)
  joined_is_network = record {
    named = let p = names_count in let q = nodes_count in let named = kept.named in omega (arith, p, q, named);
    few = let p = names_count in let room = can.room in omega (arith, p, room);
    nodes = node_at;
    outputs = All-weaker (λ (net : NetId). net.0 < length one.names) (λ (net : NetId). net.0 < length (joined_to one other places).names) (λ net lt. let p = names_count in omega (arith, p, lt)) one.outputs kept.outputs;
  }
