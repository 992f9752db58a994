-- Nodes by names, and the graph of their numbers: which paths the one and the other have.
use Rattle.std.proofs.Common.{◌≡◌, ℕ, zero, suc, ◌+◌, ◌<◌, ◌≤◌, ◌⊎◌, inl, inr, List, [], ◌∷◌, ◌++◌, length, map, get_or, slice_get, Some, None, Contains, All, refl, sym, ap, subst, ◌∙◌, arith, length-append}
use Rattle.std.proofs.lemmas.List.{get_or_default, get_or-map, length-map, get_or-append_right, get_or_past}
use Rattle.std.proofs.lemmas.List.Elements.{All-map, All-weaker, Contains-get_or}
use Rattle.std.proofs.lemmas.Option.{get_or_from_slice_get}
use Rattle.std.proofs.lemmas.Bool.{cases_lt}
use Rattle.std.specs.List.{flat_map, IsDistinct}
use Rattle.std.specs.Str.{bytes_eq}
use Rattle.std.proofs.Math.Nat.{add-sub_cancel_left}
use Rattle.lw_facts.proofs.Lists.{contains_map}
use Rattle.lw_dag.specs.Graphs.{AreKnown, IsFirst, IsGraph, Leads, fanins_at, height_at}
use Rattle.lw_dag.specs.Graphs.Leads.{one_step, then_path}
use Rattle.lw_dag.specs.Names.{number_in, unknown_in}
use Rattle.lw_dag.proofs.Numbering.{number_at, number_below, name_again, none_unknown, none_split}
use Rattle.lw_dag.proofs.Searching.{placed_no_cycle, in_graph}

-- a node drives a name, and has names as fan-ins
module _ {X : Type 0} (out : X → List ℕ) (fanins : X → List (List ℕ)) (bare : X) (bare_none : fanins bare ≡ []) where
  -- each node's fan-ins are known
  pub fanins_known : (signals : List (List ℕ)) (nodes : List X) → unknown_in signals (flat_map fanins nodes) ≡ None → (j : ℕ) → All (Contains signals) (fanins (get_or nodes j bare))
  fanins_known signals [] none j = subst (All (Contains signals)) (sym bare_none) (λ k d lt. absurd (omega arith))
  fanins_known signals (node ∷ nodes) none zero = none_unknown signals (fanins node) (none_split signals (fanins node) (flat_map fanins nodes) none).0
  fanins_known signals (node ∷ nodes) none (suc j) = fanins_known signals nodes (none_split signals (fanins node) (flat_map fanins nodes) none).1 j

  module _ (inputs : List (List ℕ)) (nodes : List X) (distinct : IsDistinct bytes_eq (inputs ++ map out nodes)) (none : unknown_in (inputs ++ map out nodes) (flat_map fanins nodes) ≡ None) where
    abbrev signals : List (List ℕ)
    signals = inputs ++ map out nodes

    abbrev m : ℕ
    m = length inputs

    abbrev node_at : ℕ → X
    node_at j = get_or nodes j bare

    abbrev numbers : X → List ℕ
    numbers node = map (number_in signals) (fanins node)

    abbrev graph : List (List ℕ)
    graph = map numbers nodes

    abbrev name_at : ℕ → List ℕ
    name_at s = get_or signals s []

    pub many_nodes : length graph ≡ length nodes
    many_nodes = length-map nodes numbers

    pub many : length signals ≡ m + length nodes
    many = length-append inputs (map out nodes) ∙ ap (λ n. m + n) (length-map nodes out)

    pub known_at : (j : ℕ) → All (Contains signals) (fanins (node_at j))
    known_at j = fanins_known signals nodes none j

    pub graph_at : (j : ℕ) → j < length nodes → fanins_at graph j ≡ numbers (node_at j)
    graph_at j lt = get_or-map numbers nodes j bare [] lt

    pub is_graph : IsGraph m graph
    is_graph j = by_place (cases_lt j (length nodes))
      where
        by_place : (j < length nodes) ⊎ (length nodes ≤ j) → All (λ s. s < m + length graph) (fanins_at graph j)
        by_place (inl lt) =
            subst (All (λ s. s < m + length graph)) (sym (graph_at j lt))
            (All-map (λ s. s < m + length graph) (number_in signals) (fanins (node_at j))
            (All-weaker (Contains signals) (λ f. number_in signals f < m + length graph) (λ f among. omega (arith, number_below signals f distinct among, many, many_nodes)) (fanins (node_at j)) (known_at j)))
        by_place (inr past) = subst (All (λ s. s < m + length graph)) (sym (get_or_past graph j [] (omega (arith, many_nodes)))) (λ k d lt. absurd (omega arith))

    pub out_at : (j : ℕ) → j < length nodes → name_at (m + j) ≡ out (node_at j)
    out_at j lt = get_or-append_right inputs (map out nodes) m (m + j) [] refl (omega arith) ∙ (ap (λ k. get_or (map out nodes) k []) (add-sub_cancel_left m j) ∙ get_or-map out nodes j bare [] lt)

    pub number_out : (j : ℕ) → j < length nodes → number_in signals (out (node_at j)) ≡ m + j
    number_out j lt = ap (number_in signals) (sym (out_at j lt)) ∙ number_at signals (m + j) [] distinct (omega (arith, many))

    -- a node and one of its fan-ins
    pub record IsStep (from to : List ℕ) : Type 0 where
      pub node : X
      pub among : Contains nodes node
      pub named : out node ≡ from
      pub on : Contains (fanins node) to

    pub step_at : (j s : ℕ) → Contains (fanins_at graph j) s → IsStep (name_at (m + j)) (name_at s)
    step_at j s among = record { node = node_at j; among = Contains-get_or nodes j bare within; named = sym (out_at j within); on = at (subst (λ ns. Contains ns s) (graph_at j within) among) }
      where
        within : j < length nodes
        within = omega (arith, in_graph graph j s among, many_nodes)

        at : Contains (numbers (node_at j)) s → Contains (fanins (node_at j)) (name_at s)
        at (k, lt, e) =
            let fs = fanins (node_at j) in
            let inside : k < length fs = subst (λ n. k < n) (length-map fs (number_in signals)) lt in
            let number : number_in signals (get_or fs k []) ≡ s = sym (get_or-map (number_in signals) fs k [] s inside) ∙ e in
            let name : name_at s ≡ get_or fs k [] = ap name_at (sym number) ∙ name_again signals (get_or fs k []) [] distinct (known_at j k [] inside) in
            subst (Contains fs) (sym name) (Contains-get_or fs k [] inside)

    -- a path by numbers from the node that drives the first name
    pub record IsLed (from to : List ℕ) : Type 0 where
      pub place : ℕ
      pub within : place < length nodes
      pub named : out (node_at place) ≡ from
      pub path : Leads m graph place (number_in signals to)

    step_number : (from to : List ℕ) → (s : IsStep from to) → Contains (fanins_at graph s.among.0) (number_in signals to)
    step_number from to s =
        let is : node_at s.among.0 ≡ s.node = get_or_default nodes s.among.0 bare s.node s.among.1 ∙ s.among.2 in
        subst (λ ns. Contains ns (number_in signals to)) (sym (graph_at s.among.0 s.among.1))
        (contains_map (number_in signals) (fanins (node_at s.among.0)) to (subst (λ n. Contains (fanins n) to) (sym is) s.on))

    step_named : (from to : List ℕ) → (s : IsStep from to) → out (node_at s.among.0) ≡ from
    step_named from to s = ap out (get_or_default nodes s.among.0 bare s.node s.among.1 ∙ s.among.2) ∙ s.named

    pub led_step : (from to : List ℕ) → IsStep from to → IsLed from to
    led_step from to s = record { place = s.among.0; within = s.among.1; named = step_named from to s; path = one_step (step_number from to s) }

    pub led_path : (from next to : List ℕ) → IsStep from next → IsLed next to → IsLed from to
    led_path from next to s r =
        let number : number_in signals next ≡ m + r.place = ap (number_in signals) (sym r.named) ∙ number_out r.place r.within in
        record { place = s.among.0; within = s.among.1; named = step_named from next s; path = then_path r.place (subst (Contains (fanins_at graph s.among.0)) number (step_number from next s)) r.path }

    -- a node that reaches itself
    led_again : (name : List ℕ) → (l : IsLed name name) → Leads m graph l.place (m + l.place)
    led_again name l = subst (Leads m graph l.place) (ap (number_in signals) (sym l.named) ∙ number_out l.place l.within) l.path

    -- before the first node on a cycle none reaches itself
    pub none_led_before : (p : ℕ) → p < length nodes → IsFirst m graph p → (j : ℕ) (other : List ℕ) → j < p → slice_get (map out nodes) j ≡ Some other → IsLed other other → ⊥
    none_led_before p within first j other lt at l =
        let inside : j < length nodes = omega arith in
        let own : out (node_at j) ≡ other = sym (get_or-map out nodes j bare [] inside) ∙ get_or_from_slice_get (map out nodes) j other [] at in
        let same : l.place ≡ j = omega (arith, sym (number_out l.place l.within) ∙ (ap (number_in signals) (l.named ∙ sym own) ∙ number_out j inside)) in
        first.first j lt (subst (λ k. Leads m graph k (m + k)) same (led_again other l))

    -- where each node has a height none reaches itself
    pub none_led : (heights : List ℕ) → AreKnown m graph heights → ((j : ℕ) → m + j < length heights → 0 < height_at heights (m + j)) → (name : List ℕ) → IsLed name name → ⊥
    none_led heights known all name l = placed_no_cycle m graph heights known l.place (all l.place (omega (arith, known.one_each, many_nodes, l.within))) (led_again name l)
