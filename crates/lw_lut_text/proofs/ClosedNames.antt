-- A draft whose names differ and the network that it is closed to: the nets of names, and the nodes at their places.
use Rattle.std.proofs.Common.{◌⊎◌, inl, inr, ◌-◌, ◌≡◌, ◌+◌, ◌<◌, ◌≤◌, ◌==◌, ◌&&◌, ℕ, zero, suc, max, Bool, false, List, [], ◌∷◌, ◌++◌, length, map, codes, Some, Contains, All, slice_get, slice_index_or, if◌then◌else◌, refl, sym, ap, ap₂, ◌∙◌, subst, arith, length-append}
use Rattle.std.specs.List.{IsDistinct, list_any, flat_map}
use Rattle.std.specs.List.Sorted.{IsPermutation, IsNonDecreasingBy}
use Rattle.std.specs.Str.{bytes_eq}
use Rattle.std.proofs.lemmas.List.{length-map}
use Rattle.std.proofs.lemmas.List.Elements.{recursion_from_All, All-contains, All-from_recursion, All-map, Contains-append_left, Contains-append_right}
use Rattle.std.proofs.Math.Seq.{take-append_seam}
use Rattle.std.proofs.lemmas.Bool.{cases_lt}
use Rattle.lw_dag.proofs.Sorting.{greatest-above}
use Rattle.std.proofs.lemmas.List.Sorted.{IsPermutation-append_right, IsPermutation-map, IsPermutation-sym, Contains-permutation}
use Rattle.std.proofs.lemmas.Option.{get_or_from_slice_get, slice_get-get_or, slice_get_within}
use Rattle.lw_facts.proofs.Lists.{contained_in_map, get_left, contained_at, at_contained}
use Rattle.lw_dag.specs.Ordering.{greatest}
use Rattle.lw_dag.proofs.Numbering.{number_at, number_below, name_again, none_unknown, none_split, distinct_moved}
use Rattle.lw_laws.specs.Networks.{AreValues, IsInOrder, agrees, row_value}
use Rattle.lw_laws.specs.Networks as laws
use Rattle.lw_laws.proofs.Lists.{contains_all, slice_get_some}
use Rattle.lw_laws.proofs.Numbers.{slice_get_map, slice_get_map_back}
use Rattle.lw_net.specs.declared.draft.Draft.{Draft}
use Rattle.lw_net.specs.declared.draft.DraftNode.{DraftNode}
use Rattle.lw_net.specs.declared.node.Node.{Node}
use Rattle.lw_net.specs.Closing.{IsClosed, signals_of, out_of, fanins_of, by_depth, closed_node, net_in, network_in, number_in}
use Rattle.lw_pool.specs.declared.id.NetId.{NetId}
use Rattle.lw_net.specs.Networks.{NetworkParts, IsNodeAt, input_names, name_in, output_names}
use Rattle.lw_lut_text.specs.Meaning.{IsNetworkOfAnySize}
use Rattle.lw_net.specs.Plain.{plain, plain_node}
use Rattle.lw_net.specs.Signs.{asked}
use Rattle.lw_net.proofs.Buckets.{moved, rising, within_greatest}
use Rattle.lw_lut_text.specs.Said.{AreTableDepths, deepest, is_wire}
use Rattle.lw_lut_text.proofs.NetNames.{right_entry}
use Rattle.lw_lut_text.proofs.TableValues.{said_value, said_wire}
use Rattle.lw_pool.specs.Numbers.{net_number}

module _ (draft : Draft) (distinct : IsDistinct bytes_eq (signals_of draft)) (net : NetworkParts) (closed : IsClosed draft net) where
  abbrev depth_of : DraftNode → ℕ
  depth_of node = closed.depth node.out

  abbrev pub order : List DraftNode
  order = by_depth closed.depth draft.nodes

  deep : All (λ (node : DraftNode). 1 ≤ depth_of node) draft.nodes
  deep k d lt = omega (arith, closed.depths.nodes k d lt)

  order_moved : IsPermutation draft.nodes order
  order_moved = moved depth_of 1 (greatest (map depth_of draft.nodes)) draft.nodes (within_greatest depth_of draft.nodes (recursion_from_All (λ (node : DraftNode). 1 ≤ depth_of node) draft.nodes deep))

  abbrev pub names : List (List ℕ)
  names = draft.inputs ++ map out_of order

  names_moved : IsPermutation (signals_of draft) names
  names_moved = IsPermutation-append_right draft.inputs (map out_of draft.nodes) (map out_of order) (IsPermutation-map out_of draft.nodes order order_moved)

  names_distinct : IsDistinct bytes_eq names
  names_distinct = distinct_moved (signals_of draft) names names_moved distinct

  -- the number of a name
  abbrev pub net_of : List ℕ → ℕ
  net_of name = number_in names name

  number_from : (k : ℕ) (name : List ℕ) → slice_get names k ≡ Some name → net_of name ≡ k
  number_from k name at = ap (number_in names) (sym (get_or_from_slice_get names k name [] at)) ∙ number_at names k [] names_distinct (slice_get_within names k name at)

  pub input_net : (i : ℕ) (name : List ℕ) → slice_get draft.inputs i ≡ Some name → net_of name ≡ i
  input_net i name at = number_from i name (get_left draft.inputs (map out_of order) i name at)

  pub node_net : (j : ℕ) (node : DraftNode) → slice_get order j ≡ Some node → net_of node.out ≡ length draft.inputs + j
  node_net j node at = number_from (length draft.inputs + j) node.out (right_entry draft.inputs (map out_of order) j ∙ slice_get_map out_of order j node at)

  pub in_order : (node : DraftNode) → Contains draft.nodes node → (j : ℕ) × (slice_get order j ≡ Some node)
  in_order node among = contained_at order node (Contains-permutation draft.nodes order node order_moved among)

  -- each node of the network is one of the draft's
  pub node_from : (node : Node) → Contains net.nodes node → (from : DraftNode) × Contains draft.nodes from × (closed_node names from ≡ node)
  node_from node among =
      let (from, k, e) = contained_in_map (closed_node names) order node (subst (λ (m : NetworkParts). Contains m.nodes node) closed.network among) in
      (from, Contains-permutation order draft.nodes from (IsPermutation-sym draft.nodes order order_moved) k, e)

  pub net_below : (name : List ℕ) → Contains (signals_of draft) name → net_of name < length draft.inputs + length order
  net_below name among =
      let lt = number_below names name names_distinct (Contains-permutation (signals_of draft) names name names_moved among) in
      let a = length-append draft.inputs (map out_of order) in
      let b = length-map order out_of in
      omega (arith, lt, a, b)

  pub output_known : (k : ℕ) (output : List ℕ) → slice_get draft.outputs k ≡ Some output → Contains (signals_of draft) output
  output_known k output at =
      let all = (none_split (signals_of draft) (flat_map fanins_of draft.nodes) draft.outputs closed.defined).1 in
      subst (λ name. Contains (signals_of draft) name) (get_or_from_slice_get draft.outputs k output [] at) (none_unknown (signals_of draft) draft.outputs all k [] (slice_get_within draft.outputs k output at))

  fanin_known : (node : DraftNode) (name : List ℕ) → Contains draft.nodes node → Contains node.fanins name → Contains (signals_of draft) name
  fanin_known node name among c =
      let all = (none_split (signals_of draft) (flat_map fanins_of draft.nodes) draft.outputs closed.defined).0 in
      All-contains (Contains (signals_of draft)) (flat_map fanins_of draft.nodes) name (none_unknown (signals_of draft) (flat_map fanins_of draft.nodes) all) (in_flat draft.nodes node name among c)
    where
      in_flat : (nodes : List DraftNode) (node : DraftNode) (name : List ℕ) → Contains nodes node → Contains node.fanins name → Contains (flat_map fanins_of nodes) name
      in_flat [] node name (k, lt, e) c = absurd (omega (arith, lt))
      in_flat (first ∷ nodes) node name (zero, lt, e) c = Contains-append_left first.fanins (flat_map fanins_of nodes) name (subst (λ (d : DraftNode). Contains d.fanins name) (sym e) c)
      in_flat (first ∷ nodes) node name (suc k, lt, e) c = Contains-append_right first.fanins (flat_map fanins_of nodes) name (in_flat nodes node name (k, omega (arith, lt), e) c)

  -- A fan-in stands before its node.

  order_rises : IsNonDecreasingBy depth_of order
  order_rises = rising depth_of 1 (greatest (map depth_of draft.nodes)) draft.nodes

  fanin_before : (j : ℕ) (node : DraftNode) (name : List ℕ) → slice_get order j ≡ Some node → Contains draft.nodes node → Contains node.fanins name → net_of name < length draft.inputs + j
  fanin_before j node name at among c =
      let known = fanin_known node name among c in
      let (k, here) = contained_at names name (Contains-permutation (signals_of draft) names name names_moved known) in
      let number = number_from k name here in
      let own : closed.depth node.out ≡ 1 + greatest (map closed.depth node.fanins) = All-contains (λ (d : DraftNode). closed.depth d.out ≡ 1 + greatest (map closed.depth d.fanins)) draft.nodes node closed.depths.nodes among in
      let low : closed.depth name ≤ greatest (map closed.depth node.fanins) = All-contains (λ f. closed.depth f ≤ greatest (map closed.depth node.fanins)) node.fanins name (greatest-above closed.depth node.fanins) c in
      by_part k here number (omega (arith, own, low)) (cases_lt k (length draft.inputs))
    where
      by_place : (q : ℕ) → slice_get (map out_of order) q ≡ Some name → closed.depth name < closed.depth node.out → (q < j) ⊎ (j ≤ q) → q < j
      by_place q here lt (inl before) = before
      by_place q here lt (inr behind) =
          let (other, there, out) = slice_get_map_back out_of order q name here in
          let rise = order_rises j q node behind (slice_get_within order q other there) in
          let a = ap depth_of (get_or_from_slice_get order j node node at) in
          let b = ap depth_of (get_or_from_slice_get order q other node there) ∙ ap closed.depth out in
          absurd (omega (arith, rise, a, b, lt))

      by_part : (k : ℕ) → slice_get names k ≡ Some name → net_of name ≡ k → closed.depth name < closed.depth node.out → (k < length draft.inputs) ⊎ (length draft.inputs ≤ k) → net_of name < length draft.inputs + j
      by_part k here number lt (inl input) = omega (arith, number, input)
      by_part k here number lt (inr from) =
          let place : k ≡ length draft.inputs + (k - length draft.inputs) = omega (arith, from) in
          let there : slice_get (map out_of order) (k - length draft.inputs) ≡ Some name = sym (right_entry draft.inputs (map out_of order) (k - length draft.inputs)) ∙ (ap (slice_get names) (sym place) ∙ here) in
          let before = by_place (k - length draft.inputs) there lt (cases_lt (k - length draft.inputs) j) in
          omega (arith, number, place, before)

  abbrev made : NetworkParts
  made = network_in draft order

  in_order_made : IsInOrder (plain made)
  in_order_made = record {
    before = λ j s node at c.
        let (closed_one, here, is) = slice_get_map_back plain_node (map (closed_node names) order) j node at in
        let (from, there, same) = slice_get_map_back (closed_node names) order j closed_one here in
        let (net', k, number) = contained_in_map net_number closed_one.fanins s (subst (λ (m : laws.Node). Contains m.fanins s) (sym is) c) in
        let (name, own, e) = contained_in_map (net_in names) from.fanins net' (subst (λ (m : Node). Contains m.fanins net') (sym same) k) in
        let among = Contains-permutation order draft.nodes from (IsPermutation-sym draft.nodes order order_moved) (at_contained order j from there) in
        let lt = fanin_before j from name there among own in
        let value : net_of name ≡ s = ap net_number e ∙ number in
        omega (arith, lt, value);
  }

  pub closed_in_order : IsInOrder (plain net)
  closed_in_order = subst (λ (m : NetworkParts). IsInOrder (plain m)) (sym closed.network) in_order_made

  -- the net of an output
  pub output_net : (k : ℕ) (output : List ℕ) → slice_get draft.outputs k ≡ Some output → slice_get net.outputs k ≡ Some (net_in names output)
  output_net k output at = ap (λ (m : NetworkParts). slice_get m.outputs k) closed.network ∙ slice_get_map (net_in names) draft.outputs k output at

  -- What the network keeps.

  pub closed_inputs : input_names net ≡ draft.inputs
  closed_inputs = ap input_names closed.network ∙ take-append_seam draft.inputs (map out_of order)

  named_again : (outputs : List (List ℕ)) → ((name : List ℕ) → Contains outputs name → Contains names name) → map (name_in made) (map (net_in names) outputs) ≡ outputs
  named_again [] known = refl
  named_again (name ∷ outputs) known = ap₂ (λ n ns. n ∷ ns) (name_again names name [] names_distinct (known name (zero, omega arith, refl))) (named_again outputs (λ other (k, lt, e). known other (suc k, omega (arith, lt), e)))

  output_among : (name : List ℕ) → Contains draft.outputs name → Contains names name
  output_among name c = let (k, at) = contained_at draft.outputs name c in Contains-permutation (signals_of draft) names name names_moved (output_known k name at)

  pub closed_outputs : output_names net ≡ draft.outputs
  closed_outputs = ap output_names closed.network ∙ named_again draft.outputs output_among

  pub closed_kept : All (λ (node : DraftNode). All (λ (row : List ℕ). length row ≡ length node.fanins) node.rows) draft.nodes → IsNetworkOfAnySize net
  closed_kept columns = subst IsNetworkOfAnySize (sym closed.network) (record {
    named =
        let a = length-append draft.inputs (map out_of order) in
        let b = length-map order out_of in
        let c = length-map order (closed_node names) in
        omega (arith, a, b, c);
    distinct = names_distinct;
    nodes = λ j node at.
        let (from, there, same) = slice_get_map_back (closed_node names) order j node at in
        subst (IsNodeAt (length draft.inputs) j) same (node_kept j from there);
    outputs = All-map (λ (s : NetId). s.0 < length names) (net_in names) draft.outputs (All-from_recursion (λ name. net_of name < length names) draft.outputs (contains_all (λ name. net_of name < length names) draft.outputs (λ name c. number_below names name names_distinct (output_among name c))));
  })
    where
      node_kept : (j : ℕ) (from : DraftNode) → slice_get order j ≡ Some from → IsNodeAt (length draft.inputs) j (closed_node names from)
      node_kept j from there =
          let among = Contains-permutation order draft.nodes from (IsPermutation-sym draft.nodes order order_moved) (at_contained order j from there) in
          let own = All-contains (λ (node : DraftNode). All (λ (row : List ℕ). length row ≡ length node.fanins) node.rows) draft.nodes from columns among in
          record {
            drives = node_net j from there;
            before = All-map (λ (s : NetId). s.0 < length draft.inputs + j) (net_in names) from.fanins (All-from_recursion (λ name. net_of name < length draft.inputs + j) from.fanins (contains_all (λ name. net_of name < length draft.inputs + j) from.fanins (λ name c. fanin_before j from name there among c)));
            columns = λ k d lt. own k d lt ∙ sym (length-map from.fanins (net_in names));
          }

  -- Values.

  module _ (x : ℕ → Bool) (values : List Bool) (right : AreValues (plain net) x values) where
    abbrev pub value_of : List ℕ → Bool
    value_of name = slice_index_or values (net_of name) false

    here : AreValues (plain made) x values
    here = subst (λ (m : NetworkParts). AreValues (plain m) x values) closed.network right

    pub input_value : (i : ℕ) (name : List ℕ) → slice_get draft.inputs i ≡ Some name → value_of name ≡ x i
    input_value i name at =
        ap (λ k. slice_index_or values k false) (input_net i name at) ∙ get_or_from_slice_get values i (x i) false (here.inputs i (slice_get_within draft.inputs i name at))

    fanin_values : (fs : List (List ℕ)) → map (λ k. slice_index_or values k false) (map net_number (map (net_in names) fs)) ≡ map value_of fs
    fanin_values [] = refl
    fanin_values (f ∷ fs) = ap (λ vs. value_of f ∷ vs) (fanin_values fs)

    pub node_value_is : (node : DraftNode) → Contains draft.nodes node → value_of node.out ≡ said_value value_of node
    node_value_is node among =
        let (j, at) = in_order node among in
        let own = here.nodes j (plain_node (closed_node names node)) (slice_get_map plain_node (map (closed_node names) order) j (closed_node names node) (slice_get_map (closed_node names) order j node at)) in
        ap (λ k. slice_index_or values k false) (node_net j node at)
        ∙ (get_or_from_slice_get values (length draft.inputs + j) _ false own
        ∙ ap (λ vs. agrees node.on (list_any (row_value vs) (map (map asked) node.rows))) (fanin_values node.fanins))

    pub signal_value : (name : List ℕ) → Contains (signals_of draft) name → slice_get values (net_of name) ≡ Some (value_of name)
    signal_value name among =
        let lt = net_below name among in
        let a = here.one_each in
        let b = length-map (map (closed_node names) order) plain_node in
        let c = length-map order (closed_node names) in
        slice_get-get_or values (net_of name) false (omega (arith, lt, a, b, c))

  -- Depths.

  -- the node of a wire is a wire's
  wire_is : (node : DraftNode) → is_wire (closed_node names node) ≡ said_wire node
  wire_is node = ap (λ k. (k == 1) && (node.on && (length node.rows == 1) && bytes_eq (slice_index_or node.rows 0 []) (codes "1"))) (length-map node.fanins (net_in names))

  module _ (depths : List ℕ) (right : AreTableDepths net depths) where
    abbrev pub depth_at : List ℕ → ℕ
    depth_at name = slice_index_or depths (net_of name) 0

    there : AreTableDepths made depths
    there = subst (λ (m : NetworkParts). AreTableDepths m depths) closed.network right

    pub input_depth : (i : ℕ) (name : List ℕ) → slice_get draft.inputs i ≡ Some name → depth_at name ≡ 0
    input_depth i name at =
        ap (λ k. slice_index_or depths k 0) (input_net i name at) ∙ get_or_from_slice_get depths i 0 0 (there.inputs i (slice_get_within draft.inputs i name at))

    deepest_is : (fs : List (List ℕ)) → deepest depths (map (net_in names) fs) ≡ greatest (map depth_at fs)
    deepest_is [] = refl
    deepest_is (f ∷ fs) = ap (max (depth_at f)) (deepest_is fs)

    pub node_depth_is : (node : DraftNode) → Contains draft.nodes node → depth_at node.out ≡ (if said_wire node then 0 else 1) + greatest (map depth_at node.fanins)
    node_depth_is node among =
        let (j, at) = in_order node among in
        let own = there.nodes j (closed_node names node) (slice_get_map (closed_node names) order j node at) in
        ap (λ k. slice_index_or depths k 0) (node_net j node at)
        ∙ (get_or_from_slice_get depths (length draft.inputs + j) _ 0 own
        ∙ ap₂ (λ b d. (if b then 0 else 1) + d) (wire_is node) (deepest_is node.fanins))

    pub signal_depth : (name : List ℕ) → Contains (signals_of draft) name → slice_get depths (net_of name) ≡ Some (depth_at name)
    signal_depth name among =
        let lt = net_below name among in
        let a = there.one_each in
        let c = length-map order (closed_node names) in
        slice_get-get_or depths (net_of name) 0 (omega (arith, lt, a, c))

  -- depths of names that are right for the nodes are depths of the nets
  module _ (depth : List ℕ → ℕ) (at_inputs : (name : List ℕ) → Contains draft.inputs name → depth name ≡ 0) (at_nodes : (node : DraftNode) → Contains draft.nodes node → depth node.out ≡ (if said_wire node then 0 else 1) + greatest (map depth node.fanins)) where
    abbrev listed : List ℕ
    listed = map depth names

    known_depth : (name : List ℕ) → Contains (signals_of draft) name → slice_index_or listed (net_of name) 0 ≡ depth name
    known_depth name among =
        let (k, here) = contained_at names name (Contains-permutation (signals_of draft) names name names_moved among) in
        ap (λ i. slice_index_or listed i 0) (number_from k name here) ∙ get_or_from_slice_get listed k (depth name) 0 (slice_get_map depth names k name here)

    deepest_listed : (fs : List (List ℕ)) → ((f : List ℕ) → Contains fs f → Contains (signals_of draft) f) → deepest listed (map (net_in names) fs) ≡ greatest (map depth fs)
    deepest_listed [] known = refl
    deepest_listed (f ∷ fs) known = ap₂ max (known_depth f (known f (zero, omega arith, refl))) (deepest_listed fs (λ name (k, lt, e). known name (suc k, omega (arith, lt), e)))

    depths_made : AreTableDepths made listed
    depths_made = record {
      one_each =
          let a = length-map names depth in
          let b = length-append draft.inputs (map out_of order) in
          let c = length-map order out_of in
          let d = length-map order (closed_node names) in
          omega (arith, a, b, c, d);
      inputs = λ i lt.
          let (name, here) = slice_get_some draft.inputs i lt in
          slice_get_map depth names i name (get_left draft.inputs (map out_of order) i name here) ∙ ap Some (at_inputs name (at_contained draft.inputs i name here));
      nodes = λ j node at.
          let (from, there, same) = slice_get_map_back (closed_node names) order j node at in
          let among = Contains-permutation order draft.nodes from (IsPermutation-sym draft.nodes order order_moved) (at_contained order j from there) in
          slice_get_map depth names (length draft.inputs + j) from.out (right_entry draft.inputs (map out_of order) j ∙ slice_get_map out_of order j from there)
          ∙ (ap Some (at_nodes from among)
          ∙ (ap Some (sym (ap₂ (λ b d. (if b then 0 else 1) + d) (wire_is from) (deepest_listed from.fanins (λ f c. fanin_known from f among c))))
          ∙ ap (λ (m : Node). Some ((if is_wire m then 0 else 1) + deepest listed m.fanins)) same));
    }

    pub some_depths : (ds : List ℕ) × AreTableDepths net ds
    some_depths = (listed, subst (λ (m : NetworkParts). AreTableDepths m listed) (sym closed.network) depths_made)
