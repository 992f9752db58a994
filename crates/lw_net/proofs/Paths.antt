-- A draft, and the same by numbers.
use Rattle.std.proofs.Common.{◌≡◌, ℕ, suc, ◌+◌, ◌-◌, ◌<◌, ◌≤◌, ◌⊎◌, inl, inr, true, List, [], ◌∷◌, length, map, take, drop, get_or, slice_get, Some, None, Contains, All, refl, sym, ap, subst, ◌∙◌, arith}
use Rattle.std.proofs.lemmas.List.{get_or_default, get_or-map, length-map, get_or_append_left, get_or-drop, length-drop, take_rest}
use Rattle.std.proofs.lemmas.Option.{slice_get-get_or, get_or_from_slice_get, slice_get_within}
use Rattle.std.proofs.lemmas.Bool.{cases_lt}
use Rattle.std.specs.List.{flat_map, IsDistinct}
use Rattle.std.specs.Str.{bytes_eq}
use Rattle.lw_net.specs.declared.draft.Draft.{Draft}
use Rattle.lw_net.specs.declared.draft.DraftNode.{DraftNode}
use Rattle.lw_net.specs.declared.fault.NetFault.{NetFault}
use Rattle.lw_net.specs.declared.fault.NetFault.TheVariants.{Undefined, Cycle, Memory}
use Rattle.lw_net.proofs.Names.{undefined_first, undefined_later}
use Rattle.lw_net.specs.Closing.{HasFault, signals_of, out_of, fanins_of, number_in, undefined_in, first_undefined, Reaches, HasNoCycle, IsFirstOnCycle, AreSignalDepths, greatest}
use Rattle.lw_net.specs.Closing.Reaches.{by_fanin, by_path}
use Rattle.lw_dag.specs.Graphs.{IsGraph, fanins_at, height_at, tallest, AreKnown, AreHeights, Leads, IsFirst}
use Rattle.lw_net.specs.Numbered.{TellsUndefined, numbered}
use Rattle.lw_dag.specs.Graphs.Leads.{one_step, then_path}
use Rattle.lw_dag.proofs.Named as dag
use Rattle.lw_net.specs.Ordering.{AreRight}
use Rattle.lw_dag.proofs.Numbering.{number_at, number_below}

abbrev pub bare : DraftNode
bare = record { out = []; fanins = []; rows = []; on = true }

module _ (draft : Draft) (distinct : IsDistinct bytes_eq (signals_of draft)) (none : undefined_in (signals_of draft) (flat_map fanins_of draft.nodes) ≡ None) where
  abbrev signals : List (List ℕ)
  signals = signals_of draft

  abbrev nodes : List DraftNode
  nodes = draft.nodes

  abbrev m : ℕ
  m = length draft.inputs

  abbrev graph : List (List ℕ)
  graph = numbered signals nodes

  abbrev name_at : ℕ → List ℕ
  name_at s = get_or signals s []

  pub many_nodes : length graph ≡ length nodes
  many_nodes = dag.many_nodes out_of fanins_of bare refl draft.inputs nodes distinct none

  pub many : length signals ≡ m + length nodes
  many = dag.many out_of fanins_of bare refl draft.inputs nodes distinct none

  pub defined : (j : ℕ) → All (Contains signals) (get_or nodes j bare).fanins
  defined = dag.known_at out_of fanins_of bare refl draft.inputs nodes distinct none

  pub graph_at : (j : ℕ) → j < length nodes → fanins_at graph j ≡ map (number_in signals) (get_or nodes j bare).fanins
  graph_at = dag.graph_at out_of fanins_of bare refl draft.inputs nodes distinct none

  pub is_graph : IsGraph m graph
  is_graph = dag.is_graph out_of fanins_of bare refl draft.inputs nodes distinct none

  pub out_at : (j : ℕ) → j < length nodes → name_at (m + j) ≡ (get_or nodes j bare).out
  out_at = dag.out_at out_of fanins_of bare refl draft.inputs nodes distinct none

  pub number_out : (j : ℕ) → j < length nodes → number_in signals (get_or nodes j bare).out ≡ m + j
  number_out = dag.number_out out_of fanins_of bare refl draft.inputs nodes distinct none

  abbrev IsLed : List ℕ → List ℕ → Type 0
  IsLed from to = dag.IsLed out_of fanins_of bare refl draft.inputs nodes distinct none from to

  abbrev IsStep : List ℕ → List ℕ → Type 0
  IsStep from to = dag.IsStep out_of fanins_of bare refl draft.inputs nodes distinct none from to

  leads_reaches : (j s : ℕ) → Leads m graph j s → Reaches nodes (name_at (m + j)) (name_at s)
  leads_reaches j s (one_step among) =
      let f : IsStep (name_at (m + j)) (name_at s) = dag.step_at out_of fanins_of bare refl draft.inputs nodes distinct none j s among in
      by_fanin f.node f.among f.named f.on
  leads_reaches j s (then_path k among path) =
      let f : IsStep (name_at (m + j)) (name_at (m + k)) = dag.step_at out_of fanins_of bare refl draft.inputs nodes distinct none j (m + k) among in
      by_path f.node f.among f.named f.on (leads_reaches k s path)

  reaches_led : (from to : List ℕ) → Reaches nodes from to → IsLed from to
  reaches_led from to (by_fanin node among named on) =
      dag.led_step out_of fanins_of bare refl draft.inputs nodes distinct none from to (record { node = node; among = among; named = named; on = on })
  reaches_led from to (by_path {next = next} node among named on rest) =
      dag.led_path out_of fanins_of bare refl draft.inputs nodes distinct none from next to (record { node = node; among = among; named = named; on = on }) (reaches_led next to rest)

  pub first_on_cycle : (p : ℕ) (name : List ℕ) → p < length nodes → IsFirst m graph p → name ≡ (get_or nodes p bare).out → IsFirstOnCycle nodes name
  first_on_cycle p name within first is = record {
    place = p;
    within = within;
    named = slice_get-get_or (map out_of nodes) p [] (omega (arith, length-map nodes out_of)) ∙ ap (λ n. Some n) (get_or-map out_of nodes p bare [] within ∙ sym is);
    cycle = let same : name_at (m + p) ≡ name = out_at p within ∙ sym is in subst (λ n. Reaches nodes n n) same (leads_reaches p (m + p) first.cycle);
    first = λ j other lt at path. dag.none_led_before out_of fanins_of bare refl draft.inputs nodes distinct none p within first j other lt at (reaches_led other other path);
  }

  module _ (heights : List ℕ) (known : AreKnown m graph heights) (all : (j : ℕ) → m + j < length heights → 0 < height_at heights (m + j)) where
    in_heights : (j : ℕ) → j < length nodes → m + j < length heights
    in_heights j lt = omega (arith, known.one_each, many_nodes)

    pub no_cycle : HasNoCycle nodes
    no_cycle name path = dag.none_led out_of fanins_of bare refl draft.inputs nodes distinct none heights known all name (reaches_led name name path)

    abbrev pub depth : List ℕ → ℕ
    depth name = height_at heights (number_in signals name) - 1

    known_all : (s : ℕ) → s < length signals → 0 < height_at heights s
    known_all s lt = by_place (cases_lt s m)
      where
        by_place : (s < m) ⊎ (m ≤ s) → 0 < height_at heights s
        by_place (inl below) = omega (arith, known.given_ones s below)
        by_place (inr from) =
            let e : m + (s - m) ≡ s = omega arith in
            subst (λ n. 0 < height_at heights n) e (all (s - m) (omega (arith, known.one_each, many_nodes, many)))

    tallest_greatest : (names : List (List ℕ)) → All (Contains signals) names → tallest heights (map (number_in signals) names) ≡ 1 + greatest (map depth names)
    tallest_greatest [] among = refl
    tallest_greatest (name ∷ names) among =
        omega (arith, known_all (number_in signals name) (number_below signals name distinct (among 0 [] (omega arith))), tallest_greatest names (λ k d lt. among (suc k) d (omega arith)))

    height_of_node : (j : ℕ) → j < length nodes → height_at heights (m + j) ≡ 2 + greatest (map depth (get_or nodes j bare).fanins)
    height_of_node j lt =
        let p = known.placed j (omega (arith, many_nodes)) (all j (in_heights j lt)) in
        p.height ∙ (ap (λ ns. 1 + tallest heights ns) (graph_at j lt) ∙ (ap (λ t. 1 + t) (tallest_greatest (get_or nodes j bare).fanins (defined j)) ∙ omega arith))

    at_node : (j : ℕ) → j < length nodes → depth (get_or nodes j bare).out ≡ height_at heights (m + j) - 1
    at_node j lt = ap (λ s. height_at heights s - 1) (number_out j lt)

    depths : AreSignalDepths draft depth
    depths = record {
      inputs = λ k d lt. input_at k d lt;
      nodes = λ j d lt. subst (λ (n : DraftNode). depth n.out ≡ 1 + greatest (map depth n.fanins)) (get_or_default nodes j bare d lt) (omega (arith, at_node j lt, height_of_node j lt));
    }
      where
        input_at : (k : ℕ) (d : List ℕ) → k < length draft.inputs → depth (get_or draft.inputs k d) ≡ 0
        input_at k d lt =
            let number : number_in signals (get_or draft.inputs k d) ≡ k = ap (number_in signals) (sym (get_or_append_left draft.inputs (map out_of nodes) d k lt)) ∙ number_at signals k d distinct (omega (arith, many)) in
            omega (arith, ap (height_at heights) number, known.given_ones k lt)

    -- the nodes' heights, less 1
    pub right : (given : List ℕ) → first_undefined draft ≡ None → given ≡ map (λ h. h - 1) (drop m heights) → AreRight draft given
    right given whole is = record {
      defined = whole;
      no_cycle = no_cycle;
      depth = depth;
      right = depths;
      told = λ k d lt. told_at k lt ∙ ap (λ (n : DraftNode). depth n.out) (get_or_default nodes k bare d lt);
      one_each = omega (arith, many_given);
      least = λ k d lt. subst (λ n. 1 ≤ n) (get_or_default given k 0 d lt) (omega (arith, told_at k (omega (arith, many_given)), at_node k (omega (arith, many_given)), height_of_node k (omega (arith, many_given))));
    }
      where
        many_given : length given ≡ length nodes
        many_given = ap length is ∙ (length-map (drop m heights) (λ h. h - 1) ∙ (length-drop m heights ∙ omega (arith, known.one_each, many_nodes)))

        told_at : (k : ℕ) → k < length nodes → get_or given k 0 ≡ depth (get_or nodes k bare).out
        told_at k lt =
            ap (λ l. get_or l k 0) is
            ∙ (get_or-map (λ h. h - 1) (drop m heights) k 0 0 (omega (arith, length-drop m heights, known.one_each, many_nodes))
            ∙ (ap (λ h. h - 1) (get_or-drop m heights k 0) ∙ sym (at_node k lt)))

-- the first undefined name is a fan-in, or else an output
pub fault_in_fanins : (draft : Draft) (given : List (List ℕ)) (fault : NetFault) → given ≡ signals_of draft → TellsUndefined given (flat_map fanins_of draft.nodes) fault → HasFault draft fault
fault_in_fanins draft given (Undefined name) is e = undefined_first (signals_of draft) (flat_map fanins_of draft.nodes) draft.outputs (Undefined name) (subst (λ l. TellsUndefined l (flat_map fanins_of draft.nodes) (Undefined name)) is e)
fault_in_fanins draft given (Cycle name) is e = absurd e
fault_in_fanins draft given Memory is e = tt

pub fault_in_outputs : (draft : Draft) (given : List (List ℕ)) (fault : NetFault) → given ≡ signals_of draft → undefined_in given (flat_map fanins_of draft.nodes) ≡ None → TellsUndefined given draft.outputs fault → HasFault draft fault
fault_in_outputs draft given (Undefined name) is none e =
    undefined_later (signals_of draft) (flat_map fanins_of draft.nodes) draft.outputs (subst (λ l. undefined_in l (flat_map fanins_of draft.nodes) ≡ None) is none)
    ∙ subst (λ l. undefined_in l draft.outputs ≡ Some name) is e
fault_in_outputs draft given (Cycle name) is none e = absurd e
fault_in_outputs draft given Memory is none e = tt

pub nothing_undefined : (draft : Draft) (given : List (List ℕ)) → given ≡ signals_of draft → undefined_in given (flat_map fanins_of draft.nodes) ≡ None → undefined_in given draft.outputs ≡ None → first_undefined draft ≡ None
nothing_undefined draft given is none e =
    undefined_later (signals_of draft) (flat_map fanins_of draft.nodes) draft.outputs (subst (λ l. undefined_in l (flat_map fanins_of draft.nodes) ≡ None) is none)
    ∙ subst (λ l. undefined_in l draft.outputs ≡ None) is e

pub fault_first : (draft : Draft) (inputs : ℕ) (given : List (List ℕ)) (p : ℕ) (node : DraftNode) (name : List ℕ) → inputs ≡ length draft.inputs → given ≡ numbered (signals_of draft) draft.nodes → IsDistinct bytes_eq (signals_of draft) → undefined_in (signals_of draft) (flat_map fanins_of draft.nodes) ≡ None → first_undefined draft ≡ None → IsFirst inputs given p → slice_get draft.nodes p ≡ Some node → name ≡ node.out → (first_undefined draft ≡ None) × IsFirstOnCycle draft.nodes name
fault_first draft inputs given p node name many is distinct none whole first at named =
    let own : IsFirst (length draft.inputs) (numbered (signals_of draft) draft.nodes) p = subst (λ n. IsFirst n (numbered (signals_of draft) draft.nodes) p) many (subst (λ g. IsFirst inputs g p) is first) in
    (whole, first_on_cycle draft distinct none p name (slice_get_within draft.nodes p node at) own (named ∙ ap out_of (sym (get_or_from_slice_get draft.nodes p node bare at))))

pub right_depths : (draft : Draft) (inputs : ℕ) (given : List (List ℕ)) (heights depths' : List ℕ) → inputs ≡ length draft.inputs → given ≡ numbered (signals_of draft) draft.nodes → IsDistinct bytes_eq (signals_of draft) → undefined_in (signals_of draft) (flat_map fanins_of draft.nodes) ≡ None → first_undefined draft ≡ None → AreHeights inputs given heights → ((j : ℕ) → inputs + j < length heights → 0 < height_at heights (inputs + j)) → depths' ≡ map (λ h. h - 1) (take (length heights - inputs) (drop inputs heights)) → AreRight draft depths'
right_depths draft inputs given heights depths' many is distinct none whole heights_are all made =
    let known : AreKnown (length draft.inputs) (numbered (signals_of draft) draft.nodes) heights = subst (λ n. AreKnown n (numbered (signals_of draft) draft.nodes) heights) many (subst (λ g. AreKnown inputs g heights) is heights_are.known) in
    let all_known : (j : ℕ) → length draft.inputs + j < length heights → 0 < height_at heights (length draft.inputs + j) = subst (λ n. (j : ℕ) → n + j < length heights → 0 < height_at heights (n + j)) many all in
    right draft distinct none heights known all_known depths' whole
    (made ∙ (ap (map (λ h. h - 1)) (take_rest heights inputs) ∙ ap (λ n. map (λ h. h - 1) (drop n heights)) many))
