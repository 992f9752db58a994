-- What a draft is closed to, from the definition alone.
use Rattle.std.proofs.Common.{◌≡◌, ℕ, ◌≤◌, List, [], ◌∷◌, ◌++◌, map, get_or, Contains, All, refl, sym, ap, ap₂, subst, ◌∙◌, arith}
use Rattle.std.proofs.Math.Seq.{take-append_seam}
use Rattle.std.proofs.lemmas.List.{get_or-map, length-map}
use Rattle.std.proofs.lemmas.List.Elements.{All-map, recursion_from_All}
use Rattle.std.proofs.lemmas.List.Sorted.{IsPermutation-append_right, IsPermutation-map, Contains-permutation}
use Rattle.std.specs.List.{AllByRecursion, flat_map, IsDistinct}
use Rattle.std.specs.Str.{bytes_eq}
use Rattle.std.specs.List.Sorted.{IsPermutation, IsNonDecreasingBy}
use Rattle.lw_net.specs.declared.draft.Draft.{Draft}
use Rattle.lw_net.specs.declared.draft.DraftNode.{DraftNode}
use Rattle.lw_net.specs.Closing.{IsDraft, IsClosed, signals_of, out_of, fanins_of, by_depth, greatest, net_in, network_in}
use Rattle.lw_net.specs.Networks.{NetworkParts, IsNetwork, input_names, output_names, name_in}
use Rattle.lw_net.specs.Ordering.{AreRight}
use Rattle.lw_dag.proofs.Numbering.{name_again, none_unknown, none_split}
use Rattle.lw_net.proofs.Buckets.{moved, rising, within_greatest}
use Rattle.lw_net.proofs.Assembled.{ordered_network, ordered_distinct}

module _ (draft : Draft) (net : NetworkParts) (is : IsDraft draft) (c : IsClosed draft net) where
  abbrev depth_of : DraftNode → ℕ
  depth_of node = c.depth node.out

  abbrev order : List DraftNode
  order = by_depth c.depth draft.nodes

  deep : All (λ (node : DraftNode). 1 ≤ depth_of node) draft.nodes
  deep k d lt = omega (arith, c.depths.nodes k d lt)

  right : AreRight draft (map depth_of draft.nodes)
  right = record {
    defined = c.defined;
    no_cycle = c.no_cycle;
    depth = c.depth;
    right = c.depths;
    told = λ k d lt. get_or-map depth_of draft.nodes k d 0 lt;
    one_each = sym (length-map draft.nodes depth_of);
    least = All-map (λ n. 1 ≤ n) depth_of draft.nodes deep;
  }

  order_moved : IsPermutation draft.nodes order
  order_moved = moved depth_of 1 (greatest (map depth_of draft.nodes)) draft.nodes (within_greatest depth_of draft.nodes (recursion_from_All (λ (node : DraftNode). 1 ≤ depth_of node) draft.nodes deep))

  order_rises : IsNonDecreasingBy (λ (node : DraftNode). right.depth node.out) order
  unfolding right
  order_rises = rising depth_of 1 (greatest (map depth_of draft.nodes)) draft.nodes

  abbrev names : List (List ℕ)
  names = draft.inputs ++ map out_of order

  pub closed_kept : IsNetwork net
  closed_kept = subst IsNetwork (sym c.network) (ordered_network draft (map depth_of draft.nodes) order is right order_moved order_rises)

  pub closed_distinct : IsDistinct bytes_eq net.names
  closed_distinct = subst (λ (m : NetworkParts). IsDistinct bytes_eq m.names) (sym c.network) (ordered_distinct draft (map depth_of draft.nodes) order is right order_moved order_rises)

  pub closed_inputs : input_names net ≡ draft.inputs
  closed_inputs = ap input_names c.network ∙ take-append_seam draft.inputs (map out_of order)

  same_names : (outputs : List (List ℕ)) → AllByRecursion (Contains names) outputs → map (λ n. get_or names n []) (map (λ name. (net_in names name).0) outputs) ≡ outputs
  same_names [] all = refl
  same_names (name ∷ outputs) all =
      ap₂ (λ n ns. n ∷ ns) (name_again names name [] (ordered_distinct draft (map depth_of draft.nodes) order is right order_moved order_rises) all.0) (same_names outputs all.1)

  again : (outputs : List (List ℕ)) → map (name_in (network_in draft order)) (map (net_in names) outputs) ≡ map (λ n. get_or names n []) (map (λ name. (net_in names name).0) outputs)
  again [] = refl
  again (name ∷ outputs) = ap (λ ns. get_or names (net_in names name).0 [] ∷ ns) (again outputs)

  pub closed_outputs : output_names net ≡ draft.outputs
  closed_outputs =
      ap output_names c.network
      ∙ (again draft.outputs
      ∙ same_names draft.outputs (recursion_from_All (Contains names) draft.outputs (λ k d lt.
      Contains-permutation (signals_of draft) names (get_or draft.outputs k d) (IsPermutation-append_right draft.inputs (map out_of draft.nodes) (map out_of order) (IsPermutation-map out_of draft.nodes order order_moved))
      (none_unknown (signals_of draft) draft.outputs (none_split (signals_of draft) (flat_map fanins_of draft.nodes) draft.outputs c.defined).1 k d lt))))
