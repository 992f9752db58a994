-- What is known of a network that was drawn.
use Rattle.std.proofs.Common.{◌≡◌, ℕ, ◌≤◌, List, ◌++◌, length, map, sym, ap, subst, ◌∙◌, arith}
use Rattle.std.specs.List.{IsDistinct}
use Rattle.std.specs.Str.{bytes_eq}
use Rattle.std.proofs.lemmas.List.{length-map}
use Rattle.std.proofs.lemmas.List.Elements.{recursion_from_All}
use Rattle.std.proofs.lemmas.List.FromFn.{length-map-range_with_len}
use Rattle.std.proofs.lemmas.List.Sorted.{length_permutation}
use Rattle.lw_net.specs.declared.draft.Draft.{Draft}
use Rattle.lw_net.specs.declared.draft.DraftNode.{DraftNode}
use Rattle.lw_net.specs.Closing.{IsClosed, by_depth, closed_node, greatest, out_of}
use Rattle.lw_net.specs.Networks.{NetworkParts, IsNetwork, input_names, output_names}
use Rattle.lw_net.proofs.Buckets.{moved, within_greatest}
use Rattle.lw_net.proofs.Closed.{closed_kept, closed_distinct, closed_inputs, closed_outputs}
use Rattle.lw_big.specs.Generated.{most_nodes, signal_names, drawn_node, drawn_nodes, drawn_draft, IsGenerated}
use Rattle.lw_big.proofs.Drafts.{drawn_is_draft}
use Rattle.lw_big.proofs.SignalNames.{length-signal_names, names_differ}

-- a network has the nodes of its draft
closed_nodes : (draft : Draft) (net : NetworkParts) → IsClosed draft net → length net.nodes ≡ length draft.nodes
closed_nodes draft net closed =
    ap (λ (m : NetworkParts). length m.nodes) closed.network
    ∙ (length-map order (closed_node names)
    ∙ length_permutation draft.nodes order (moved depth_of 1 (greatest (map depth_of draft.nodes)) draft.nodes (within_greatest depth_of draft.nodes
    (recursion_from_All (λ (node : DraftNode). 1 ≤ depth_of node) draft.nodes (λ k d lt. omega (arith, closed.depths.nodes k d lt))))))
  where
    depth_of : DraftNode → ℕ
    depth_of node = closed.depth node.out

    order : List DraftNode
    order = by_depth closed.depth draft.nodes

    names : List (List ℕ)
    names = draft.inputs ++ map out_of order

module _ (seed n : ℕ) (net : NetworkParts) (few : n ≤ most_nodes) (is : IsGenerated seed n net) where
  pub generated_kept : IsNetwork net
  generated_kept = closed_kept (drawn_draft seed n) net (drawn_is_draft seed n few) is

  pub generated_names : IsDistinct bytes_eq net.names
  generated_names = closed_distinct (drawn_draft seed n) net (drawn_is_draft seed n few) is

  pub generated_inputs : input_names net ≡ signal_names 0 16
  unfolding drawn_draft
  generated_inputs = closed_inputs (drawn_draft seed n) net (drawn_is_draft seed n few) is

  pub generated_inputs_differ : IsDistinct bytes_eq (input_names net)
  generated_inputs_differ = subst (IsDistinct bytes_eq) (sym generated_inputs) (names_differ 0 16 (omega arith))

  pub generated_outputs_differ : IsDistinct bytes_eq (output_names net)
  generated_outputs_differ =
      subst (IsDistinct bytes_eq) (sym (closed_outputs (drawn_draft seed n) net (drawn_is_draft seed n few) is)) (drawn_is_draft seed n few).outputs

  pub generated_input_count : net.inputs ≡ 16
  unfolding drawn_draft
  generated_input_count = ap (λ (m : NetworkParts). m.inputs) is.network ∙ length-signal_names 0 16

  pub generated_node_count : length net.nodes ≡ n
  unfolding drawn_draft drawn_nodes
  generated_node_count = closed_nodes (drawn_draft seed n) net is ∙ length-map-range_with_len (drawn_node seed) 0 n
