-- A network whose nodes stand by depth.
use Rattle.std.proofs.Common.{◌≡◌, ℕ, suc, ◌+◌, ◌-◌, ◌<◌, ◌≤◌, ◌⊎◌, inl, inr, max, slice_get, Some, ap₂, List, [], ◌∷◌, length, map, get_or, None, Contains, All, refl, sym, ap, subst, ◌∙◌, arith, length-append}
use Rattle.std.proofs.lemmas.List.{get_or_default, get_or-map, length-map, get_or-append_right, get_or_append_left}
use Rattle.std.proofs.lemmas.List.Elements.{All-map, All-weaker}
use Rattle.std.proofs.lemmas.List.Sorted.{IsPermutation-append_right, IsPermutation-map, length_permutation, Contains-permutation, All-permutation}
use Rattle.std.proofs.lemmas.Option.{slice_get_within, get_or_from_slice_get, slice_get-get_or}
use Rattle.std.proofs.lemmas.Bool.{cases_lt}
use Rattle.std.specs.List.{IsDistinct, flat_map}
use Rattle.std.specs.List.Sorted.{IsPermutation, IsNonDecreasingBy}
use Rattle.std.specs.Str.{bytes_eq}
use Rattle.std.proofs.Math.Nat.{add-sub_cancel_left}
use Rattle.lw_facts.proofs.Lists.{IsImage, image_at}
use Rattle.lw_pool.specs.declared.id.NetId.{NetId}
use Rattle.lw_net.specs.declared.draft.Draft.{Draft}
use Rattle.lw_net.specs.declared.draft.DraftNode.{DraftNode}
use Rattle.lw_net.specs.declared.node.Node.{Node}
use Rattle.lw_net.specs.Closing.{IsDraft, signals_of, out_of, fanins_of, number_in, net_in, undefined_in, closed_node, network_in, greatest}
use Rattle.lw_net.specs.Networks.{NetworkParts, IsNetwork, IsNodeAt}
use Rattle.lw_net.specs.Plain.{plain_node, HasRisingDepths}
use Rattle.lw_laws.specs.Networks as laws
use Rattle.lw_laws.specs.Networks.{greatest_depth}
use Rattle.lw_net.specs.Ordering.{AreRight, TellDepths}
use Rattle.lw_dag.proofs.Sorting.{greatest-above}
use Rattle.lw_dag.proofs.Numbering.{number_at, number_of, number_below, name_again, none_unknown, none_split, distinct_moved}
use Rattle.lw_dag.proofs.Named.{fanins_known}
use Rattle.lw_net.proofs.Paths.{bare}
use Rattle.lw_pool.specs.Numbers.{net_number, most_signals}

-- each fan-in of each node is a signal
abbrev HasSignals : List (List ℕ) → DraftNode → Type 0
HasSignals signals node = All (Contains signals) node.fanins

module _ (draft : Draft) (depths : List ℕ) (order : List DraftNode) (is : IsDraft draft) (right : AreRight draft depths) (moved : IsPermutation draft.nodes order) (up : IsNonDecreasingBy (λ (node : DraftNode). right.depth node.out) order) where
  abbrev pub ordered : Draft
  ordered = record { model = draft.model; inputs = draft.inputs; outputs = draft.outputs; nodes = order }

  abbrev names : List (List ℕ)
  names = signals_of ordered

  abbrev m : ℕ
  m = length draft.inputs

  names_moved : IsPermutation (signals_of draft) names
  names_moved = IsPermutation-append_right draft.inputs (map out_of draft.nodes) (map out_of order) (IsPermutation-map out_of draft.nodes order moved)

  pub ordered_distinct : IsDistinct bytes_eq names
  ordered_distinct = distinct_moved (signals_of draft) names names_moved is.signals

  pub ordered_few : length names ≤ most_signals
  ordered_few = omega (arith, length_permutation (signals_of draft) names names_moved, is.few)

  many : length names ≡ m + length order
  many = length-append draft.inputs (map out_of order) ∙ ap (λ n. m + n) (length-map order out_of)

  split : (undefined_in (signals_of draft) (flat_map fanins_of draft.nodes) ≡ None) × (undefined_in (signals_of draft) draft.outputs ≡ None)
  split = none_split (signals_of draft) (flat_map fanins_of draft.nodes) draft.outputs right.defined

  all_signals : All (HasSignals names) order
  all_signals = All-permutation (HasSignals names) draft.nodes order moved (λ j d lt.
      subst (HasSignals names) (get_or_default draft.nodes j bare d lt)
      (All-weaker (Contains (signals_of draft)) (Contains names) (λ f among. Contains-permutation (signals_of draft) names f names_moved among) (get_or draft.nodes j bare).fanins (fanins_known out_of fanins_of bare refl (signals_of draft) draft.nodes split.0 j)))

  abbrev IsDeep : DraftNode → Type 0
  IsDeep node = right.depth node.out ≡ 1 + greatest (map right.depth node.fanins)

  all_deep : All IsDeep order
  all_deep = All-permutation IsDeep draft.nodes order moved right.right.nodes

  abbrev HasColumns : DraftNode → Type 0
  HasColumns node = All (λ (row : List ℕ). length row ≡ length node.fanins) node.rows

  all_columns : All HasColumns order
  all_columns = All-permutation HasColumns draft.nodes order moved is.columns

  out_at : (j : ℕ) → j < length order → get_or names (m + j) [] ≡ (get_or order j bare).out
  out_at j lt = get_or-append_right draft.inputs (map out_of order) m (m + j) [] refl (omega arith) ∙ (ap (λ k. get_or (map out_of order) k []) (add-sub_cancel_left m j) ∙ get_or-map out_of order j bare [] lt)

  number_out : (j : ℕ) → j < length order → number_in names (get_or order j bare).out ≡ m + j
  number_out j lt = ap (number_in names) (sym (out_at j lt)) ∙ number_at names (m + j) [] ordered_distinct (omega (arith, many))

  -- a fan-in stands before its node
  fanin_before : (j : ℕ) → j < length order → (f : List ℕ) → Contains names f → right.depth f < right.depth (get_or order j bare).out → number_in names f < m + j
  fanin_before j lt f (k, in_names, e) lower = by_input (cases_lt k m)
    where
      number : number_in names f ≡ k
      number = number_of names f ordered_distinct (k, in_names, e)

      by_node : (q : ℕ) → k ≡ m + q → q < length order → (q < j) ⊎ (j ≤ q) → number_in names f < m + j
      by_node q at inside (inl before) = omega (arith, number, at)
      by_node q at inside (inr behind) =
          let name : f ≡ (get_or order q bare).out = sym e ∙ (get_or_default names k f [] in_names ∙ (ap (λ n. get_or names n []) at ∙ out_at q inside)) in
          absurd (omega (arith, lower, ap right.depth name, up j q bare behind inside))

      by_input : (k < m) ⊎ (m ≤ k) → number_in names f < m + j
      by_input (inl input) = omega (arith, number)
      by_input (inr node) = by_node (k - m) (omega arith) (omega (arith, many)) (cases_lt (k - m) j)

  node_at : (j : ℕ) → j < length order → IsNodeAt m j (closed_node names (get_or order j bare))
  node_at j lt = record {
    drives = number_out j lt;
    before = All-map (λ (net : NetId). net.0 < m + j) (net_in names) node.fanins (λ k d in_fanins.
        let f = get_or node.fanins k d in
        fanin_before j lt f (all_signals j bare lt k d in_fanins) (omega (arith, all_deep j bare lt, greatest-above right.depth node.fanins k d in_fanins)));
    columns = λ k d in_rows. all_columns j bare lt k d in_rows ∙ sym (length-map node.fanins (net_in names));
  }
    where
      node : DraftNode
      node = get_or order j bare

  pub ordered_network : IsNetwork (network_in ordered order)
  ordered_network = record {
    named = many ∙ ap (λ n. m + n) (sym (length-map order (closed_node names)));
    few = ordered_few;
    nodes = λ j node at. at_image j node (image_at (closed_node names) order j node at);
    outputs = All-map (λ (net : NetId). net.0 < length names) (net_in names) draft.outputs
        (All-weaker (Contains (signals_of draft)) (λ name. number_in names name < length names) (λ name among. number_below names name ordered_distinct (Contains-permutation (signals_of draft) names name names_moved among)) draft.outputs (none_unknown (signals_of draft) draft.outputs split.1));
  }
    where
      at_image : (j : ℕ) (node : Node) → IsImage (closed_node names) order j node → IsNodeAt m j node
      at_image j node i =
          let lt = slice_get_within order j i.from i.at in
          let same : closed_node names (get_or order j bare) ≡ node = ap (closed_node names) (get_or_from_slice_get order j i.from bare i.at) ∙ i.is in
          subst (IsNodeAt m j) same (node_at j lt)

-- the same, for nodes that are this order
module _ (draft : Draft) (depths given : List ℕ) (order nodes : List DraftNode) (is : IsDraft draft) (right : AreRight draft depths) (passed : given ≡ depths) (moved : IsPermutation draft.nodes order) (up : (depth : List ℕ → ℕ) → TellDepths given draft.nodes depth → IsNonDecreasingBy (λ (node : DraftNode). depth node.out) order) (same : nodes ≡ order) where
  abbrev with_nodes : List DraftNode → Draft
  with_nodes ns = record { model = draft.model; inputs = draft.inputs; outputs = draft.outputs; nodes = ns }

  rising : IsNonDecreasingBy (λ (node : DraftNode). right.depth node.out) order
  rising = up right.depth (subst (λ l. TellDepths l draft.nodes right.depth) (sym passed) right.told)

  pub of_order_distinct : IsDistinct bytes_eq (signals_of (with_nodes nodes))
  of_order_distinct = subst (λ ns. IsDistinct bytes_eq (signals_of (with_nodes ns))) (sym same) (ordered_distinct draft depths order is right moved rising)

  pub of_order_few : length (signals_of (with_nodes nodes)) ≤ most_signals
  of_order_few = subst (λ ns. length (signals_of (with_nodes ns)) ≤ most_signals) (sym same) (ordered_few draft depths order is right moved rising)

  pub of_order_kept : IsNetwork (network_in (with_nodes nodes) nodes)
  of_order_kept = subst (λ ns. IsNetwork (network_in (with_nodes ns) ns)) (sym same) (ordered_network draft depths order is right moved rising)

-- the depths of the nets, by place
module _ (draft : Draft) (depths : List ℕ) (order : List DraftNode) (is : IsDraft draft) (right : AreRight draft depths) (moved : IsPermutation draft.nodes order) (up : IsNonDecreasingBy (λ (node : DraftNode). right.depth node.out) order) where
  abbrev all : List (List ℕ)
  all = signals_of (ordered draft depths order is right moved up)

  abbrev by_place : List ℕ
  by_place = map right.depth all

  abbrev first : ℕ
  first = length draft.inputs

  many_all : length all ≡ first + length order
  many_all = length-append draft.inputs (map out_of order) ∙ ap (λ n. first + n) (length-map order out_of)

  depth_at : (k : ℕ) → k < length all → get_or by_place k 0 ≡ right.depth (get_or all k [])
  depth_at k lt = get_or-map right.depth all k [] 0 lt

  at_input : (k : ℕ) → k < first → get_or by_place k 0 ≡ 0
  at_input k lt = depth_at k (omega (arith, many_all)) ∙ (ap right.depth (get_or_append_left draft.inputs (map out_of order) [] k lt) ∙ right.right.inputs k [] lt)

  at_node : (j : ℕ) → j < length order → get_or by_place (first + j) 0 ≡ right.depth (get_or order j bare).out
  at_node j lt = depth_at (first + j) (omega (arith, many_all)) ∙ ap right.depth (out_at draft depths order is right moved up j lt)

  greatest_by_place : (names : List (List ℕ)) → All (Contains all) names → greatest_depth by_place (map net_number (map (net_in all) names)) ≡ greatest (map right.depth names)
  greatest_by_place [] among = refl
  greatest_by_place (f ∷ names) among =
      let distinct = ordered_distinct draft depths order is right moved up in
      let here : Contains all f = among 0 [] (omega arith) in
      let own : get_or by_place (number_in all f) 0 ≡ right.depth f = depth_at (number_in all f) (number_below all f distinct here) ∙ ap right.depth (name_again all f [] distinct here) in
      ap₂ max own (greatest_by_place names (λ k d lt. among (suc k) d (omega arith)))

  rises : (i j : ℕ) → i ≤ j → j < length all → get_or by_place i 0 ≤ get_or by_place j 0
  rises i j le lt = by_input (cases_lt i first)
    where
      shifted : (k : ℕ) → first ≤ k → get_or by_place k 0 ≡ get_or by_place (first + (k - first)) 0
      shifted k from = let e : k ≡ first + (k - first) = omega arith in ap (λ n. get_or by_place n 0) e

      by_input : (i < first) ⊎ (first ≤ i) → get_or by_place i 0 ≤ get_or by_place j 0
      by_input (inl input) = omega (arith, at_input i input)
      by_input (inr from) =
          let in_order : j - first < length order = omega (arith, many_all) in
          omega (arith, shifted i from, shifted j (omega arith), at_node (i - first) (omega arith), at_node (j - first) in_order, up (i - first) (j - first) bare (omega arith) in_order)

  pub ordered_rises : HasRisingDepths (network_in (ordered draft depths order is right moved up) order)
  ordered_rises = record {
    depths = by_place;
    are = record {
      one_each = length-map all right.depth ∙ (many_all ∙ ap (λ n. first + n) (sym (length-map (map (closed_node all) order) plain_node ∙ length-map order (closed_node all))));
      inputs = λ i lt. slice_get-get_or by_place i 0 (omega (arith, many_all, length-map all right.depth)) ∙ ap (λ n. Some n) (at_input i lt);
      nodes = λ j node at. at_plain j node (image_at plain_node (map (closed_node all) order) j node at);
    };
    rising = λ i j d le lt. let in_all : j < length all = omega (arith, length-map all right.depth) in subst (λ n. n ≤ get_or by_place j d) (get_or_default by_place i 0 d (omega arith)) (subst (λ n. get_or by_place i 0 ≤ n) (get_or_default by_place j 0 d lt) (rises i j le in_all));
  }
    where
      at_closed : (j : ℕ) (node : Node) → IsImage (closed_node all) order j node → slice_get by_place (first + j) ≡ Some (1 + greatest_depth by_place (plain_node node).fanins)
      at_closed j node i =
          let lt = slice_get_within order j i.from i.at in
          let own : get_or order j bare ≡ i.from = get_or_from_slice_get order j i.from bare i.at in
          let deep = all_deep draft depths order is right moved up j bare lt in
          let signals = all_signals draft depths order is right moved up j bare lt in
          slice_get-get_or by_place (first + j) 0 (omega (arith, many_all, length-map all right.depth))
          ∙ ap (λ n. Some n) (at_node j lt ∙ (deep ∙ (ap (λ n. 1 + n) (sym (greatest_by_place (get_or order j bare).fanins signals)) ∙ ap (λ (n : Node). 1 + greatest_depth by_place (plain_node n).fanins) (ap (closed_node all) own ∙ i.is))))

      at_plain : (j : ℕ) (node : laws.Node) → IsImage plain_node (map (closed_node all) order) j node → slice_get by_place (first + j) ≡ Some (1 + greatest_depth by_place node.fanins)
      at_plain j node i = at_closed j i.from (image_at (closed_node all) order j i.from i.at) ∙ ap (λ (n : laws.Node). Some (1 + greatest_depth by_place n.fanins)) i.is

pub of_order_rises : (draft : Draft) (depths given : List ℕ) (order nodes : List DraftNode) (is : IsDraft draft) (right : AreRight draft depths) (passed : given ≡ depths) (moved : IsPermutation draft.nodes order) (up : (depth : List ℕ → ℕ) → TellDepths given draft.nodes depth → IsNonDecreasingBy (λ (node : DraftNode). depth node.out) order) (same : nodes ≡ order) (net : NetworkParts) → net ≡ network_in (with_nodes draft depths given order nodes is right passed moved up same nodes) nodes → HasRisingDepths net
of_order_rises draft depths given order nodes is right passed moved up same net made =
    subst HasRisingDepths (sym (made ∙ ap (λ ns. network_in (with_nodes draft depths given order nodes is right passed moved up same ns) ns) same)) (ordered_rises draft depths order is right moved (up right.depth (subst (λ l. TellDepths l draft.nodes right.depth) (sym passed) right.told)))
