-- A draft, and the same by numbers.
use Rattle.std.proofs.Common.{◌≡◌, ℕ, ◌+◌, ◌<◌, ◌≤◌, List, [], length, map, get_or, Some, None, Contains, All, refl, sym, ap, subst, ◌∙◌, arith, ◌++◌}
use Rattle.std.proofs.lemmas.List.{get_or-map, length-map, get_or_read}
use Rattle.std.proofs.lemmas.Option.{slice_get-get_or}
use Rattle.std.specs.List.{flat_map, IsDistinct}
use Rattle.std.specs.Str.{bytes_eq}
use Rattle.lw_named_netlist.specs.declared.draft.GateDraft.{GateDraft}
use Rattle.lw_named_netlist.specs.declared.fault.NetlistFault.{NetlistFault}
use Rattle.lw_named_netlist.specs.declared.fault.NetlistFault.TheVariants.{Twice, Undriven, Cycle, Memory}
use Rattle.lw_named_netlist.specs.Closing.{HasFault, HasNoCycle, Hangs, IsFirstOnCycle, Link, Reaches, drivers, first_twice, first_undriven, links, name_of, needs_of, twice_after, undriven_in}
use Rattle.lw_named_netlist.specs.Closing.Reaches.{by_step, by_path}
use Rattle.lw_dag.specs.Graphs.{most_signals, AreKnown, IsFirst, IsGraph, Leads, height_at, fanins_at}
use Rattle.lw_dag.specs.Names.{number_in}
use Rattle.lw_named_netlist.specs.Numbered.{TellsTwice, TellsUndriven, numbered}
use Rattle.lw_dag.specs.Graphs.Leads.{one_step, then_path}
use Rattle.lw_named_netlist.specs.Ordering.{IsGraphOf}
use Rattle.lw_named_netlist.proofs.Names.{once_distinct, undriven_before}
use Rattle.lw_dag.proofs.Named as dag

abbrev pub bare : Link
bare = record { name = []; needs = [] }

module _ (draft : GateDraft) (distinct : IsDistinct bytes_eq (drivers draft)) (none : undriven_in (drivers draft) (flat_map needs_of (links draft)) ≡ None) where
  abbrev driven : List (List ℕ)
  driven = drivers draft

  abbrev ls : List Link
  ls = links draft

  abbrev m : ℕ
  m = length draft.inputs

  abbrev graph : List (List ℕ)
  graph = numbered driven ls

  abbrev name_at : ℕ → List ℕ
  name_at s = get_or driven s []

  pub many_links : length graph ≡ length ls
  many_links = dag.many_nodes name_of needs_of bare refl draft.inputs ls distinct none

  pub many : length driven ≡ m + length ls
  many = dag.many name_of needs_of bare refl draft.inputs ls distinct none

  pub driven_needs : (j : ℕ) → All (Contains driven) (get_or ls j bare).needs
  driven_needs = dag.known_at name_of needs_of bare refl draft.inputs ls distinct none

  pub graph_at : (j : ℕ) → j < length ls → fanins_at graph j ≡ map (number_in driven) (get_or ls j bare).needs
  graph_at = dag.graph_at name_of needs_of bare refl draft.inputs ls distinct none

  pub is_graph : IsGraph m graph
  is_graph = dag.is_graph name_of needs_of bare refl draft.inputs ls distinct none

  pub link_name_at : (j : ℕ) → j < length ls → name_at (m + j) ≡ (get_or ls j bare).name
  link_name_at = dag.out_at name_of needs_of bare refl draft.inputs ls distinct none

  pub number_link : (j : ℕ) → j < length ls → number_in driven (get_or ls j bare).name ≡ m + j
  number_link = dag.number_out name_of needs_of bare refl draft.inputs ls distinct none

  abbrev IsLed : List ℕ → List ℕ → Type 0
  IsLed from to = dag.IsLed name_of needs_of bare refl draft.inputs ls distinct none from to

  abbrev IsStep : List ℕ → List ℕ → Type 0
  IsStep from to = dag.IsStep name_of needs_of bare refl draft.inputs ls distinct none from to

  hangs_at : (j s : ℕ) → Contains (fanins_at graph j) s → Hangs ls (name_at (m + j)) (name_at s)
  hangs_at j s among =
      let f : IsStep (name_at (m + j)) (name_at s) = dag.step_at name_of needs_of bare refl draft.inputs ls distinct none j s among in
      record { link = f.node; among = f.among; named = f.named; on = f.on }

  leads_reaches : (j s : ℕ) → Leads m graph j s → Reaches ls (name_at (m + j)) (name_at s)
  leads_reaches j s (one_step among) = by_step (hangs_at j s among)
  leads_reaches j s (then_path k among path) = by_path (hangs_at j (m + k) among) (leads_reaches k s path)

  is_step : (from to : List ℕ) → Hangs ls from to → IsStep from to
  is_step from to h = record { node = h.link; among = h.among; named = h.named; on = h.on }

  reaches_led : (from to : List ℕ) → Reaches ls from to → IsLed from to
  reaches_led from to (by_step h) = dag.led_step name_of needs_of bare refl draft.inputs ls distinct none from to (is_step from to h)
  reaches_led from to (by_path {next = next} h rest) = dag.led_path name_of needs_of bare refl draft.inputs ls distinct none from next to (is_step from next h) (reaches_led next to rest)

  first_cycle : (p : ℕ) (name : List ℕ) → p < length ls → IsFirst m graph p → name ≡ name_at (m + p) → IsFirstOnCycle ls name
  first_cycle p name within first is = record {
    place = p;
    within = within;
    named = slice_get-get_or (map name_of ls) p [] (omega (arith, length-map ls name_of)) ∙ ap (λ n. Some n) (get_or-map name_of ls p bare [] within ∙ (sym (link_name_at p within) ∙ sym is));
    cycle = subst (λ n. Reaches ls n n) (sym is) (leads_reaches p (m + p) first.cycle);
    first = λ j other lt at path. dag.none_led_before name_of needs_of bare refl draft.inputs ls distinct none p within first j other lt at (reaches_led other other path);
  }

  pub no_cycle : (heights : List ℕ) → AreKnown m graph heights → ((j : ℕ) → m + j < length heights → 0 < height_at heights (m + j)) → HasNoCycle ls
  no_cycle heights known all name path = dag.none_led name_of needs_of bare refl draft.inputs ls distinct none heights known all name (reaches_led name name path)

-- the fault that is looked for first
pub twice_in_links : (draft : GateDraft) (names : List (List ℕ)) (fault : NetlistFault) → names ≡ drivers draft → TellsTwice names fault → HasFault draft fault
twice_in_links draft names (Twice name) is e = subst (λ l. twice_after [] l ≡ Some name) is e
twice_in_links draft names (Undriven name) is e = absurd e
twice_in_links draft names (Cycle name) is e = absurd e
twice_in_links draft names Memory is e = tt

-- a fault that is looked for after the first
pub fault_in_links : (draft : GateDraft) (given : List (List ℕ)) (fault : NetlistFault) → given ≡ drivers draft → first_twice draft ≡ None → TellsUndriven given (flat_map needs_of (links draft) ++ draft.outputs) fault → HasFault draft fault
fault_in_links draft given (Twice name) is once e = absurd e
fault_in_links draft given (Undriven name) is once e = (once, subst (λ l. undriven_in l (flat_map needs_of (links draft) ++ draft.outputs) ≡ Some name) is e)
fault_in_links draft given (Cycle name) is once e = absurd e
fault_in_links draft given Memory is once e = tt

-- what was made of a draft with neither of the first two faults
pub graph_made : (draft : GateDraft) (names given graph' : List (List ℕ)) → names ≡ drivers draft → given ≡ names → twice_after [] names ≡ None → length names ≤ most_signals → graph' ≡ numbered given (links draft) → undriven_in given (flat_map needs_of (links draft) ++ draft.outputs) ≡ None → IsGraphOf draft given graph'
graph_made draft names given graph' named is once few rows none =
    let keys : given ≡ drivers draft = is ∙ named in
    let all_driven : first_undriven draft ≡ None = subst (λ l. undriven_in l (flat_map needs_of (links draft) ++ draft.outputs) ≡ None) keys none in
    record {
      names = keys;
      rows = rows ∙ ap (λ l. numbered l (links draft)) keys;
      few = subst (λ l. length l ≤ most_signals) named few;
      once = subst (λ l. twice_after [] l ≡ None) named once;
      known = undriven_before (drivers draft) (flat_map needs_of (links draft)) draft.outputs all_driven;
      none = all_driven;
    }

-- the graph of a draft
module _ (draft : GateDraft) (given graph' : List (List ℕ)) (inputs : ℕ) (is : IsGraphOf draft given graph') (many_inputs : inputs ≡ length draft.inputs) where
  pub graph_is : IsGraph inputs graph'
  graph_is =
      subst (λ n. IsGraph n graph') (sym many_inputs)
      (subst (λ g. IsGraph (length draft.inputs) g) (sym is.rows) (is_graph draft (once_distinct (drivers draft) is.once) is.known))

  graph_many : inputs + length graph' ≡ length (drivers draft)
  graph_many =
      omega (arith, ap length is.rows, many_links draft (once_distinct (drivers draft) is.once) is.known, many draft (once_distinct (drivers draft) is.once) is.known, many_inputs)

  pub fault_cycle : (p : ℕ) (item name : List ℕ) → IsFirst inputs graph' p → item ≡ get_or given (inputs + p) item → name ≡ item → HasFault draft (Cycle name)
  fault_cycle p item name first read copied =
      let distinct = once_distinct (drivers draft) is.once in
      let own : IsFirst (length draft.inputs) (numbered (drivers draft) (links draft)) p = subst (λ n. IsFirst n (numbered (drivers draft) (links draft)) p) many_inputs (subst (λ g. IsFirst inputs g p) is.rows first) in
      let within : p < length (links draft) = omega (arith, own.within, many_links draft distinct is.known) in
      let inside : inputs + p < length given = omega (arith, first.within, graph_many, ap length is.names) in
      let here : name ≡ get_or (drivers draft) (length draft.inputs + p) [] = copied ∙ (get_or_read given (inputs + p) item inside read [] ∙ (ap (λ l. get_or l (inputs + p) []) is.names ∙ ap (λ n. get_or (drivers draft) (n + p) []) many_inputs)) in
      (is.once, is.none, first_cycle draft distinct is.known p name within own here)
