-- Depths of names, and where their nets start.
use Rattle.std.proofs.Common.{◌≡◌, ℕ, zero, suc, ◌+◌, ◌-◌, ◌<◌, ◌≤◌, ◌⊎◌, inl, inr, max, cond, List, [], ◌∷◌, ◌++◌, length, map, get_or, None, Contains, All, refl, sym, ap, ap₂, subst, ◌∙◌, arith, length-append}
use Rattle.std.proofs.lemmas.List.{get_or_default, get_or-map, length-map, get_or-append_right, get_or_append_left}
use Rattle.std.proofs.lemmas.List.Elements.{Contains-get_or}
use Rattle.std.proofs.lemmas.Bool.{cases_lt, le-ltb, lt-ltb}
use Rattle.std.specs.List.{flat_map, IsDistinct}
use Rattle.std.specs.Str.{bytes_eq}
use Rattle.std.proofs.Math.Nat.{add-sub_cancel_left}
use Rattle.lw_named_netlist.specs.declared.draft.DraftGate.{DraftGate}
use Rattle.lw_named_netlist.specs.declared.draft.GateDraft.{GateDraft}
use Rattle.lw_named_netlist.specs.declared.draft.Wire.{Wire}
use Rattle.lw_named_netlist.specs.Closing.{AreNameDepths, Link, drivers, gate_link, greatest, links, name_of, needs_of, out_of, undriven_in, wire_link}
use Rattle.lw_dag.specs.Graphs.{AreKnown, IsOrdered, height_at, fanins_at, tallest}
use Rattle.lw_dag.specs.Names.{number_in}
use Rattle.lw_named_netlist.specs.Numbered.{AreSettled, IsSettled, deepest, depth_at, first_start, numbered, start_at, step_of}
use Rattle.lw_named_netlist.specs.Ordering.{AreRight, IsGraphOf, IsStart, start_in}
use Rattle.lw_named_netlist.specs.Ordering.IsStart.{of_driver, of_wire}
use Rattle.lw_named_netlist.proofs.Names.{once_distinct}
use Rattle.lw_dag.proofs.Numbering.{number_at, number_below, name_again}
use Rattle.lw_named_netlist.proofs.Paths.{bare, many, many_links, graph_at, link_name_at, number_link, driven_needs, no_cycle}

abbrev pub bare_gate : DraftGate
bare_gate = record { cell = record { 0 = 0 }; pins = []; out = [] }

abbrev pub bare_wire : Wire
bare_wire = record { from = []; to = [] }

-- the links of gates, and behind them those of wires
pub links_many : (draft : GateDraft) → length (links draft) ≡ length draft.gates + length draft.wires
links_many draft = length-append (map gate_link draft.gates) (map wire_link draft.wires) ∙ ap₂ (λ a b. a + b) (length-map draft.gates gate_link) (length-map draft.wires wire_link)

pub link_of_gate : (draft : GateDraft) (j : ℕ) → j < length draft.gates → get_or (links draft) j bare ≡ gate_link (get_or draft.gates j bare_gate)
link_of_gate draft j lt =
    get_or_append_left (map gate_link draft.gates) (map wire_link draft.wires) bare j (subst (λ n. j < n) (sym (length-map draft.gates gate_link)) lt)
    ∙ get_or-map gate_link draft.gates j bare_gate bare lt

link_of_wire : (draft : GateDraft) (k : ℕ) → k < length draft.wires → get_or (links draft) (length draft.gates + k) bare ≡ wire_link (get_or draft.wires k bare_wire)
link_of_wire draft k lt =
    get_or-append_right (map gate_link draft.gates) (map wire_link draft.wires) (length draft.gates) (length draft.gates + k) bare (length-map draft.gates gate_link) (omega arith)
    ∙ (ap (λ n. get_or (map wire_link draft.wires) n bare) (add-sub_cancel_left (length draft.gates) k) ∙ get_or-map wire_link draft.wires k bare_wire bare lt)

module _ (draft : GateDraft) (distinct : IsDistinct bytes_eq (drivers draft)) (none : undriven_in (drivers draft) (flat_map needs_of (links draft)) ≡ None) (heights order depths starts : List ℕ) (known : AreKnown (length draft.inputs) (numbered (drivers draft) (links draft)) heights) (ordered : IsOrdered (length draft.inputs) (numbered (drivers draft) (links draft)) heights order) (settled : AreSettled (length draft.inputs) (length draft.gates) (numbered (drivers draft) (links draft)) heights order depths starts) (all : (j : ℕ) → length draft.inputs + j < length heights → 0 < height_at heights (length draft.inputs + j)) where
  abbrev driven : List (List ℕ)
  driven = drivers draft

  abbrev ls : List Link
  ls = links draft

  abbrev m : ℕ
  m = length draft.inputs

  abbrev g : ℕ
  g = length draft.gates

  abbrev graph : List (List ℕ)
  graph = numbered driven ls

  abbrev name_at : ℕ → List ℕ
  name_at s = get_or driven s []

  abbrev depth : List ℕ → ℕ
  depth name = depth_at depths (number_in driven name)

  rows : length graph ≡ length ls
  rows = many_links draft distinct none

  names : length driven ≡ m + length ls
  names = many draft distinct none

  some_height : (j : ℕ) → j < length ls → 0 < height_at heights (m + j)
  some_height j lt = all j (omega (arith, known.one_each, rows))

  settled_at : (j : ℕ) → j < length ls → IsSettled g j (m + j) depths starts (fanins_at graph j)
  settled_at j lt = let inside : j < length graph = omega (arith, rows) in settled.settled j (ordered.each j inside (some_height j lt))

  gate_row : (j : ℕ) → j < g → fanins_at graph j ≡ map (number_in driven) (get_or draft.gates j bare_gate).pins
  gate_row j lt = graph_at draft distinct none j (omega (arith, links_many draft)) ∙ ap (λ (l : Link). map (number_in driven) l.needs) (link_of_gate draft j lt)

  gate_number : (j : ℕ) → j < g → number_in driven (get_or draft.gates j bare_gate).out ≡ m + j
  gate_number j lt = ap (λ (l : Link). number_in driven l.name) (sym (link_of_gate draft j lt)) ∙ number_link draft distinct none j (omega (arith, links_many draft))

  wire_row : (k : ℕ) → k < length draft.wires → fanins_at graph (g + k) ≡ number_in driven (get_or draft.wires k bare_wire).from ∷ []
  wire_row k lt = graph_at draft distinct none (g + k) (omega (arith, links_many draft)) ∙ ap (λ (l : Link). map (number_in driven) l.needs) (link_of_wire draft k lt)

  wire_number : (k : ℕ) → k < length draft.wires → number_in driven (get_or draft.wires k bare_wire).to ≡ m + (g + k)
  wire_number k lt = ap (λ (l : Link). number_in driven l.name) (sym (link_of_wire draft k lt)) ∙ number_link draft distinct none (g + k) (omega (arith, links_many draft))

  wire_name : (k : ℕ) → k < length draft.wires → (get_or draft.wires k bare_wire).to ≡ name_at (m + (g + k))
  wire_name k lt = ap name_of (sym (link_of_wire draft k lt)) ∙ sym (link_name_at draft distinct none (g + k) (omega (arith, links_many draft)))

  input_number : (k : ℕ) (d : List ℕ) → k < m → number_in driven (get_or draft.inputs k d) ≡ k
  input_number k d lt = ap (number_in driven) (sym (get_or_append_left draft.inputs (map name_of ls) d k lt)) ∙ number_at driven k d distinct (omega (arith, names))

  greatest_depth : (ns : List (List ℕ)) → deepest depths (map (number_in driven) ns) ≡ greatest (map depth ns)
  greatest_depth [] = refl
  greatest_depth (n ∷ ns) = ap (max (depth n)) (greatest_depth ns)

  gate_depth : (j : ℕ) → j < g → depth_at depths (m + j) ≡ 1 + greatest (map depth (get_or draft.gates j bare_gate).pins)
  gate_depth j lt =
      let in_links : j < length ls = omega (arith, links_many draft) in
      let s = settled_at j in_links in
      let step : step_of g j ≡ 1 = ap (λ b. cond b 1 0) (lt-ltb j g lt) in
      s.depth ∙ ap₂ (λ a b. a + b) step (ap (deepest depths) (gate_row j lt) ∙ greatest_depth (get_or draft.gates j bare_gate).pins)

  wire_depth : (k : ℕ) → k < length draft.wires → depth_at depths (m + (g + k)) ≡ depth (get_or draft.wires k bare_wire).from
  wire_depth k lt =
      let in_links : g + k < length ls = omega (arith, links_many draft) in
      let s = settled_at (g + k) in_links in
      let step : step_of g (g + k) ≡ 0 = ap (λ b. cond b 1 0) (le-ltb (g + k) g (omega arith)) in
      let row : deepest depths (fanins_at graph (g + k)) ≡ max (depth (get_or draft.wires k bare_wire).from) 0 = ap (deepest depths) (wire_row k lt) in
      s.depth ∙ omega (arith, step, row)

  depths_are : AreNameDepths draft depth
  depths_are = record {
    inputs = λ k d lt. ap (depth_at depths) (input_number k d lt) ∙ (settled.at_inputs k lt).0;
    gates = λ j d lt. subst (λ (gate : DraftGate). depth gate.out ≡ 1 + greatest (map depth gate.pins)) (get_or_default draft.gates j bare_gate d lt) (ap (depth_at depths) (gate_number j lt) ∙ gate_depth j lt);
    wires = λ k d lt. subst (λ (wire : Wire). depth wire.to ≡ depth wire.from) (get_or_default draft.wires k bare_wire d lt) (ap (depth_at depths) (wire_number k lt) ∙ wire_depth k lt);
  }

  -- an input or a gate starts at itself
  gate_start : (j : ℕ) → j < g → start_at starts (m + j) ≡ m + j
  gate_start j lt =
      let s = settled_at j (omega (arith, links_many draft)) in
      s.start ∙ ap (λ b. cond b (m + j) (first_start starts (m + j) (fanins_at graph j))) (lt-ltb j g lt)

  own_start_at : (s : ℕ) → s < m + g → start_at starts s ≡ s
  own_start_at s lt = by_place (cases_lt s m)
    where
      by_place : (s < m) ⊎ (m ≤ s) → start_at starts s ≡ s
      by_place (inl below) = (settled.at_inputs s below).1
      by_place (inr from) = let e : m + (s - m) ≡ s = omega arith in subst (λ n. start_at starts n ≡ n) e (gate_start (s - m) (omega arith))

  abbrev firsts : List (List ℕ)
  firsts = draft.inputs ++ map out_of draft.gates

  many_firsts : length firsts ≡ m + g
  many_firsts = length-append draft.inputs (map out_of draft.gates) ∙ ap (λ n. m + n) (length-map draft.gates out_of)

  first_name : (s : ℕ) → s < m + g → get_or firsts s [] ≡ name_at s
  first_name s lt = by_place (cases_lt s m)
    where
      gate_name : (j : ℕ) → j < g → get_or firsts (m + j) [] ≡ name_at (m + j)
      gate_name j inside =
          get_or-append_right draft.inputs (map out_of draft.gates) m (m + j) [] refl (omega arith)
          ∙ (ap (λ k. get_or (map out_of draft.gates) k []) (add-sub_cancel_left m j)
          ∙ (get_or-map out_of draft.gates j bare_gate [] inside
          ∙ (ap name_of (sym (link_of_gate draft j inside)) ∙ sym (link_name_at draft distinct none j (omega (arith, links_many draft))))))

      by_place : (s < m) ⊎ (m ≤ s) → get_or firsts s [] ≡ name_at s
      by_place (inl below) = get_or_append_left draft.inputs (map out_of draft.gates) [] s below ∙ sym (get_or_append_left draft.inputs (map name_of ls) [] s below)
      by_place (inr from) = let e : m + (s - m) ≡ s = omega arith in subst (λ n. get_or firsts n [] ≡ name_at n) e (gate_name (s - m) (omega arith))

  own_name : (name : List ℕ) → Contains firsts name → start_in driven starts name ≡ name
  own_name name (k, lt, e) =
      let inside : k < m + g = omega (arith, many_firsts) in
      let here : name_at k ≡ name = sym (first_name k inside) ∙ (get_or_default firsts k [] name lt ∙ e) in
      let number : number_in driven name ≡ k = ap (number_in driven) (sym here) ∙ number_at driven k [] distinct (omega (arith, names, links_many draft)) in
      ap (λ s. name_at (start_at starts s)) number ∙ (ap name_at (own_start_at k inside) ∙ here)

  wire_start : (k : ℕ) → k < length draft.wires → start_at starts (m + (g + k)) ≡ start_at starts (number_in driven (get_or draft.wires k bare_wire).from)
  wire_start k lt =
      let s = settled_at (g + k) (omega (arith, links_many draft)) in
      s.start ∙ (ap (λ b. cond b (m + (g + k)) (first_start starts (m + (g + k)) (fanins_at graph (g + k)))) (le-ltb (g + k) g (omega arith)) ∙ ap (first_start starts (m + (g + k))) (wire_row k lt))

  wire_height : (k : ℕ) → k < length draft.wires → height_at heights (number_in driven (get_or draft.wires k bare_wire).from) < height_at heights (m + (g + k))
  wire_height k lt =
      let p = known.placed (g + k) (omega (arith, rows, links_many draft)) (some_height (g + k) (omega (arith, links_many draft))) in
      let row : tallest heights (fanins_at graph (g + k)) ≡ max (height_at heights (number_in driven (get_or draft.wires k bare_wire).from)) 1 = ap (tallest heights) (wire_row k lt) in
      omega (arith, p.height, row)

  wire_driven : (k : ℕ) → k < length draft.wires → Contains driven (get_or draft.wires k bare_wire).from
  wire_driven k lt =
      let needs = driven_needs draft distinct none (g + k) in
      subst (λ (l : Link). All (Contains driven) l.needs) (link_of_wire draft k lt) needs 0 [] (omega arith)

  abbrev Starts : ℕ → Type 0
  Starts s = IsStart draft (name_at s) (name_at (start_at starts s))

  first_starts : (s : ℕ) → s < m + g → Starts s
  first_starts s below =
      subst (λ n. IsStart draft (name_at s) (name_at n)) (sym (own_start_at s below))
      (of_driver (subst (Contains firsts) (first_name s below) (Contains-get_or firsts s [] (omega (arith, many_firsts)))))

  wire_starts : (k : ℕ) → k < length draft.wires → Starts (number_in driven (get_or draft.wires k bare_wire).from) → Starts (m + (g + k))
  wire_starts k inside here =
      let wire = get_or draft.wires k bare_wire in
      of_wire wire (Contains-get_or draft.wires k bare_wire inside) (wire_name k inside)
      (subst (λ n. IsStart draft n (name_at (start_at starts (m + (g + k))))) (name_again driven wire.from [] distinct (wire_driven k inside))
      (subst (λ s. IsStart draft (name_at (number_in driven wire.from)) (name_at s)) (sym (wire_start k inside)) here))

  later_starts : (fuel : ℕ) → ((s : ℕ) → s < length driven → height_at heights s ≤ fuel → Starts s) → (k : ℕ) → k < length draft.wires → height_at heights (m + (g + k)) ≤ suc fuel → Starts (m + (g + k))
  later_starts fuel earlier k inside few =
      let from = number_in driven (get_or draft.wires k bare_wire).from in
      wire_starts k inside (earlier from (number_below driven (get_or draft.wires k bare_wire).from distinct (wire_driven k inside)) (omega (arith, wire_height k inside)))

  by_place : (s : ℕ) → s < length driven → ((k : ℕ) → k < length draft.wires → s ≡ m + (g + k) → Starts s) → (s < m + g) ⊎ (m + g ≤ s) → Starts s
  by_place s lt wires (inl below) = first_starts s below
  by_place s lt wires (inr from) = wires (s - (m + g)) (omega (arith, names, links_many draft)) (omega arith)

  start_is : (fuel s : ℕ) → s < length driven → height_at heights s ≤ fuel → Starts s
  start_is zero s lt few = by_place s lt (λ k inside same. absurd (omega (arith, few, ap (height_at heights) same, wire_height k inside))) (cases_lt s (m + g))
  start_is (suc fuel) s lt few = by_place s lt (λ k inside same. subst Starts (sym same) (later_starts fuel (start_is fuel) k inside (subst (λ n. height_at heights n ≤ suc fuel) same few))) (cases_lt s (m + g))

  starts_all : (name : List ℕ) → Contains driven name → IsStart draft name (start_in driven starts name)
  starts_all name among =
      subst (λ n. IsStart draft n (start_in driven starts name)) (name_again driven name [] distinct among)
      (start_is (height_at heights (number_in driven name)) (number_in driven name) (number_below driven name distinct among) (omega arith))

  right_levels : AreRight draft depths starts
  right_levels = record {
    no_cycle = no_cycle draft distinct none heights known all;
    depth = depth;
    right = depths_are;
    depths_each = omega (arith, settled.depths_each, rows, names);
    told = λ k d lt. ap (depth_at depths) (sym (gate_number k lt)) ∙ ap (λ (gate : DraftGate). depth gate.out) (get_or_default draft.gates k bare_gate d lt);
    starts_each = omega (arith, settled.starts_each, rows, names);
    below = λ s d lt. let inside : s < m + length graph = omega (arith, settled.starts_each) in subst (λ n. n < length driven) (get_or_default starts s 0 d lt) (omega (arith, settled.within s inside, rows, names));
    own = own_name;
    starts_are = starts_all;
  }

-- the same, for a graph that was made
pub right_of : (draft : GateDraft) (given made : List (List ℕ)) (inputs gates : ℕ) (heights order depths starts : List ℕ) → IsGraphOf draft given made → inputs ≡ length draft.inputs → gates ≡ length draft.gates → AreKnown inputs made heights → IsOrdered inputs made heights order → AreSettled inputs gates made heights order depths starts → All (λ h. 0 < h) heights → AreRight draft depths starts
right_of draft given made inputs gates heights order depths starts is many_inputs many_gates known ordered settled all =
    let rows = numbered (drivers draft) (links draft) in
    let m = length draft.inputs in
    let known' : AreKnown m rows heights = subst (λ n. AreKnown n rows heights) many_inputs (subst (λ g. AreKnown inputs g heights) is.rows known) in
    let ordered' : IsOrdered m rows heights order = subst (λ n. IsOrdered n rows heights order) many_inputs (subst (λ g. IsOrdered inputs g heights order) is.rows ordered) in
    let settled' : AreSettled m (length draft.gates) rows heights order depths starts = subst (λ n. AreSettled n (length draft.gates) rows heights order depths starts) many_inputs (subst (λ n. AreSettled inputs n rows heights order depths starts) many_gates (subst (λ g. AreSettled inputs gates g heights order depths starts) is.rows settled)) in
    right_levels draft (once_distinct (drivers draft) is.once) is.known heights order depths starts known' ordered' settled' (λ j lt. all (m + j) 0 lt)
