-- The order by depth, by numbers and by names.
use Rattle.std.proofs.Common.{◌≡◌, ℕ, zero, suc, ◌+◌, ◌<◌, ◌==◌, Bool, true, false, cond, List, [], ◌∷◌, ◌++◌, length, map, filter, refl, sym, ap, ap₂, ◌∙◌, arith}
use Rattle.std.proofs.lemmas.List.{get_or-map, length-map, map-append}
use Rattle.std.specs.List.{flat_map, range_with_len}
use Rattle.std.specs.List.Sorted.{IsNonDecreasingBy}
use Rattle.lw_net.specs.declared.draft.Draft.{Draft}
use Rattle.lw_net.specs.declared.draft.DraftNode.{DraftNode}
use Rattle.lw_net.specs.declared.written.NumberedNode.{NumberedNode}
use Rattle.lw_net.specs.Closing.{IsClosed, by_depth, greatest, network_in}
use Rattle.lw_net.specs.Networks.{NetworkParts}
use Rattle.lw_dag.specs.Ordering.{AreKeys, by_key}
use Rattle.lw_net.specs.Ordering.{AreRight, TellDepths}
use Rattle.lw_net.specs.Written.{name_at, named_node, named_nodes}

module _ (names : List (List ℕ)) (depth : List ℕ → ℕ) where
  abbrev pub by_name : ℕ → ℕ
  by_name n = depth (name_at names n)

  abbrev pub at_out : NumberedNode → ℕ
  at_out node = by_name node.out

  pub tell_numbered : (depths : List ℕ) (nodes : List NumberedNode) → TellDepths depths (named_nodes names nodes) depth → AreKeys depths nodes at_out
  tell_numbered depths nodes tell = λ k d lt.
      tell k (named_node names d) (omega (arith, length-map nodes (named_node names)))
      ∙ ap (λ (node : DraftNode). depth node.out) (get_or-map (named_node names) nodes k d (named_node names d) lt)

  filter_named : (d : ℕ) (nodes : List NumberedNode) → named_nodes names (filter (λ (node : NumberedNode). by_name node.out == d) nodes) ≡ filter (λ (node : DraftNode). depth node.out == d) (named_nodes names nodes)
  filter_named d [] = refl
  filter_named d (node ∷ nodes) = by_test (by_name node.out == d) (filter_named d nodes)
    where
      by_test : (b : Bool) → named_nodes names (filter (λ (n : NumberedNode). by_name n.out == d) nodes) ≡ filter (λ (n : DraftNode). depth n.out == d) (named_nodes names nodes) → named_nodes names (cond b (node ∷ filter (λ (n : NumberedNode). by_name n.out == d) nodes) (filter (λ (n : NumberedNode). by_name n.out == d) nodes)) ≡ cond b (named_node names node ∷ filter (λ (n : DraftNode). depth n.out == d) (named_nodes names nodes)) (filter (λ (n : DraftNode). depth n.out == d) (named_nodes names nodes))
      by_test true e = ap (λ l. named_node names node ∷ l) e
      by_test false e = e

  named_range : (nodes : List NumberedNode) (low m : ℕ) → named_nodes names (flat_map (λ d. filter (λ (node : NumberedNode). by_name node.out == d) nodes) (range_with_len low m)) ≡ flat_map (λ d. filter (λ (node : DraftNode). depth node.out == d) (named_nodes names nodes)) (range_with_len low m)
  named_range nodes low zero = refl
  named_range nodes low (suc m) =
      map-append (named_node names) (filter (λ (node : NumberedNode). by_name node.out == low) nodes) (flat_map (λ d. filter (λ (node : NumberedNode). by_name node.out == d) nodes) (range_with_len (low + 1) m))
      ∙ ap₂ (λ a b. a ++ b) (filter_named low nodes) (named_range nodes (low + 1) m)

  depths_named : (nodes : List NumberedNode) → map (λ (node : NumberedNode). by_name node.out) nodes ≡ map (λ (node : DraftNode). depth node.out) (named_nodes names nodes)
  depths_named [] = refl
  depths_named (node ∷ nodes) = ap (λ l. by_name node.out ∷ l) (depths_named nodes)

  pub named_by_key : (nodes : List NumberedNode) → named_nodes names (by_key at_out nodes) ≡ by_depth depth (named_nodes names nodes)
  named_by_key nodes =
      named_range nodes 1 (greatest (map (λ (node : NumberedNode). by_name node.out) nodes))
      ∙ ap (λ l. flat_map (λ d. filter (λ (node : DraftNode). depth node.out == d) (named_nodes names nodes)) (range_with_len 1 (greatest l))) (depths_named nodes)

  pub rising_named : (order : List NumberedNode) → IsNonDecreasingBy (λ (node : NumberedNode). by_name node.out) order → IsNonDecreasingBy (λ (node : DraftNode). depth node.out) (named_nodes names order)
  rising_named order up i j d le lt =
      let bare : NumberedNode = record { out = 0; fanins = []; rows = []; on = true } in
      let in_order : j < length order = omega (arith, length-map order (named_node names)) in
      let first = ap (λ (node : DraftNode). depth node.out) (get_or-map (named_node names) order i bare d (omega arith)) in
      let second = ap (λ (node : DraftNode). depth node.out) (get_or-map (named_node names) order j bare d in_order) in
      omega (arith, first, second, up i j bare le in_order)

-- the network of the nodes in order
pub closed_by : (draft : Draft) (depths : List ℕ) (names : List (List ℕ)) (nodes order : List NumberedNode) (net : NetworkParts) → draft.nodes ≡ named_nodes names nodes → (right : AreRight draft depths) → order ≡ by_key (at_out names right.depth) nodes → net ≡ network_in draft (named_nodes names order) → IsClosed draft net
closed_by draft depths names nodes order net is right ordered made = record {
  defined = right.defined;
  no_cycle = right.no_cycle;
  depth = right.depth;
  depths = right.right;
  network = made ∙ ap (network_in draft) (ap (named_nodes names) ordered ∙ (named_by_key names right.depth nodes ∙ ap (by_depth right.depth) (sym is)));
}
