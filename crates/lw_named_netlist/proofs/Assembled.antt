-- A netlist whose gates stand by depth.
use Rattle.std.proofs.Common.{◌≡◌, ℕ, ◌+◌, ◌-◌, ◌^◌, ◌<◌, ◌≤◌, ◌⊎◌, inl, inr, Some, List, [], ◌++◌, length, map, get_or, None, Contains, All, refl, sym, ap, subst, ◌∙◌, arith, length-append}
use Rattle.std.proofs.lemmas.List.{get_or_default, get_or-map, length-map, get_or-append_right, get_or_append_left}
use Rattle.std.proofs.lemmas.List.Elements.{All-map, All-weaker}
use Rattle.std.proofs.lemmas.List.Sorted.{IsPermutation-append_right, IsPermutation-map, length_permutation, Contains-permutation, All-permutation}
use Rattle.std.proofs.lemmas.Option.{slice_get_within, get_or_from_slice_get, slice_get-get_or}
use Rattle.std.proofs.lemmas.Bool.{cases_lt}
use Rattle.std.specs.List.{IsDistinct, flat_map}
use Rattle.std.specs.List.Sorted.{IsPermutation, IsNonDecreasingBy}
use Rattle.std.specs.Str.{bytes_eq}
use Rattle.std.proofs.Math.Nat.{add-sub_cancel_left}
use Rattle.lw_facts.proofs.Lists.{distinct_left, IsImage, image_at}
use Rattle.lw_pool.specs.declared.id.NetId.{NetId}
use Rattle.lw_genlib.specs.Cells.{CellParts}
use Rattle.lw_named_netlist.specs.declared.draft.DraftGate.{DraftGate}
use Rattle.lw_named_netlist.specs.declared.draft.GateDraft.{GateDraft}
use Rattle.lw_named_netlist.specs.declared.draft.Wire.{Wire}
use Rattle.lw_netlist.specs.declared.gate.Gate.{Gate}
use Rattle.lw_netlist.specs.declared.gate.Port.{Port}
use Rattle.lw_named_netlist.specs.Closing.{IsNetNamed, IsOfCell, closed_gate, drivers, first_undriven, greatest, links, needs_of, netlist_in, out_of, port_at, undriven_in}
use Rattle.lw_named_netlist.specs.Closing.IsNetNamed.{at_input, at_gate, at_wire}
use Rattle.lw_netlist.specs.Netlists.{IsGateAt, IsNetlist, most_nets}
use Rattle.lw_dag.specs.Names.{number_in}
use Rattle.lw_named_netlist.specs.Ordering.{AreRight, IsStart, net_by, start_in}
use Rattle.lw_named_netlist.specs.Ordering.IsStart.{of_driver, of_wire}
use Rattle.lw_netlist.specs.Plain.{HasCell, IsOver}
use Rattle.lw_named_netlist.proofs.Names.{drivers_are, to_of}
use Rattle.lw_dag.proofs.Sorting.{greatest-above}
use Rattle.lw_dag.proofs.Numbering.{number_at, number_of, number_below, none_unknown, none_split, distinct_moved}
use Rattle.lw_named_netlist.proofs.Paths.{driven_needs}
use Rattle.lw_named_netlist.proofs.Starting.{bare_gate, link_of_gate}

module _ (draft : GateDraft) (depths starts : List ℕ) (order : List DraftGate) (once : IsDistinct bytes_eq (drivers draft)) (few : length draft.inputs + length draft.gates < 2 ^ 32 - 1) (known : undriven_in (drivers draft) (flat_map needs_of (links draft)) ≡ None) (whole : first_undriven draft ≡ None) (right : AreRight draft depths starts) (moved : IsPermutation draft.gates order) (up : IsNonDecreasingBy (λ (gate : DraftGate). right.depth gate.out) order) where
  abbrev pub ordered : GateDraft
  ordered = record { model = draft.model; inputs = draft.inputs; outputs = draft.outputs; gates = order; wires = draft.wires }

  abbrev pub names : List (List ℕ)
  names = draft.inputs ++ map out_of order

  abbrev firsts : List (List ℕ)
  firsts = draft.inputs ++ map out_of draft.gates

  abbrev driven : List (List ℕ)
  driven = drivers draft

  abbrev m : ℕ
  m = length draft.inputs

  abbrev pub net_of : List ℕ → ℕ
  net_of = net_by driven starts names

  abbrev start : List ℕ → List ℕ
  start = start_in driven starts

  firsts_moved : IsPermutation firsts names
  firsts_moved = IsPermutation-append_right draft.inputs (map out_of draft.gates) (map out_of order) (IsPermutation-map out_of draft.gates order moved)

  pub ordered_distinct : IsDistinct bytes_eq names
  ordered_distinct = distinct_moved firsts names firsts_moved (distinct_left firsts (map to_of draft.wires) (subst (IsDistinct bytes_eq) (drivers_are draft) once))

  many : length names ≡ m + length order
  many = length-append draft.inputs (map out_of order) ∙ ap (λ n. m + n) (length-map order out_of)

  pub ordered_few : length names ≤ most_nets
  ordered_few = omega (arith, many, length_permutation draft.gates order moved)

  -- what a name starts at
  start_among : (name from : List ℕ) → IsStart draft name from → Contains names from
  start_among name from (of_driver among) = Contains-permutation firsts names from firsts_moved among
  start_among name from (of_wire wire among named rest) = start_among wire.from from rest

  pub starts_among : (name : List ℕ) → Contains driven name → Contains names (start name)
  starts_among name among = start_among name (start name) (right.starts_are name among)

  start_depth : (name from : List ℕ) → IsStart draft name from → right.depth name ≡ right.depth from
  start_depth name from (of_driver among) = refl
  start_depth name from (of_wire wire (k, lt, e) named rest) =
      ap right.depth (sym named) ∙ (subst (λ (w : Wire). right.depth w.to ≡ right.depth w.from) e (right.right.wires k wire lt) ∙ start_depth wire.from from rest)

  out_at : (j : ℕ) → j < length order → get_or names (m + j) [] ≡ (get_or order j bare_gate).out
  out_at j lt = get_or-append_right draft.inputs (map out_of order) m (m + j) [] refl (omega arith) ∙ (ap (λ k. get_or (map out_of order) k []) (add-sub_cancel_left m j) ∙ get_or-map out_of order j bare_gate [] lt)

  number_out : (j : ℕ) → j < length order → number_in names (get_or order j bare_gate).out ≡ m + j
  number_out j lt = ap (number_in names) (sym (out_at j lt)) ∙ number_at names (m + j) [] ordered_distinct (omega (arith, many))

  driver_net : (name : List ℕ) → Contains names name → IsNetNamed draft order name (number_in names name)
  driver_net name (k, lt, e) = by_place (cases_lt k m)
    where
      number : number_in names name ≡ k
      number = number_of names name ordered_distinct (k, lt, e)

      named : get_or names k [] ≡ name
      named = get_or_default names k [] name lt ∙ e

      by_place : (k < m) ⊎ (m ≤ k) → IsNetNamed draft order name (number_in names name)
      by_place (inl input) =
          subst (IsNetNamed draft order name) (sym number)
          (at_input k (slice_get-get_or draft.inputs k [] input ∙ ap (λ n. Some n) (sym (get_or_append_left draft.inputs (map out_of order) [] k input) ∙ named)))
      by_place (inr gate) =
          let same : m + (k - m) ≡ k = omega arith in
          let inside : k - m < length order = omega (arith, many) in
          subst (IsNetNamed draft order name) (same ∙ sym number)
          (at_gate (k - m) (slice_get-get_or (map out_of order) (k - m) [] (omega (arith, length-map order out_of)) ∙ ap (λ n. Some n) (get_or-map out_of order (k - m) bare_gate [] inside ∙ (sym (out_at (k - m) inside) ∙ (ap (λ n. get_or names n []) same ∙ named)))))

  start_net : (name from : List ℕ) → IsStart draft name from → IsNetNamed draft order name (number_in names from)
  start_net name from (of_driver among) = driver_net name (Contains-permutation firsts names name firsts_moved among)
  start_net name from (of_wire wire among named rest) = at_wire wire among named (start_net wire.from from rest)

  pub nets_are : (name : List ℕ) → Contains driven name → IsNetNamed draft order name (net_of name)
  nets_are name among = start_net name (start name) (right.starts_are name among)

  net_below : (name : List ℕ) → Contains driven name → net_of name < length names
  net_below name among = number_below names (start name) ordered_distinct (start_among name (start name) (right.starts_are name among))

  -- what a gate hangs on is driven
  abbrev HasPins : DraftGate → Type 0
  HasPins gate = All (Contains driven) gate.pins

  all_pins : All HasPins order
  all_pins = All-permutation HasPins draft.gates order moved (λ j d lt.
      subst HasPins (get_or_default draft.gates j bare_gate d lt) (subst (λ l. All (Contains driven) (needs_of l)) (link_of_gate draft j lt) (driven_needs draft once known j)))

  abbrev IsDeep : DraftGate → Type 0
  IsDeep gate = right.depth gate.out ≡ 1 + greatest (map right.depth gate.pins)

  all_deep : All IsDeep order
  all_deep = All-permutation IsDeep draft.gates order moved right.right.gates

  abbrev IsOwn : DraftGate → Type 0
  IsOwn gate = start gate.out ≡ gate.out

  all_own : All IsOwn order
  all_own = All-permutation IsOwn draft.gates order moved (λ j d lt.
      let inside : m + j < length firsts = omega (arith, lt, length-append draft.inputs (map out_of draft.gates), length-map draft.gates out_of) in
      let named : get_or firsts (m + j) (get_or draft.gates j d).out ≡ (get_or draft.gates j d).out = get_or-append_right draft.inputs (map out_of draft.gates) m (m + j) (get_or draft.gates j d).out refl (omega arith) ∙ (ap (λ k. get_or (map out_of draft.gates) k (get_or draft.gates j d).out) (add-sub_cancel_left m j) ∙ get_or-map out_of draft.gates j d (get_or draft.gates j d).out lt) in
      right.own (get_or draft.gates j d).out (m + j, inside, named))

  -- a net stands before the gates that are deeper
  before : (j : ℕ) → j < length order → (f : List ℕ) → Contains names f → right.depth f < right.depth (get_or order j bare_gate).out → number_in names f < m + j
  before j lt f (k, in_names, e) lower = by_input (cases_lt k m)
    where
      number : number_in names f ≡ k
      number = number_of names f ordered_distinct (k, in_names, e)

      by_gate : (q : ℕ) → k ≡ m + q → q < length order → (q < j) ⊎ (j ≤ q) → number_in names f < m + j
      by_gate q at inside (inl earlier) = omega (arith, number, at)
      by_gate q at inside (inr behind) =
          let name : f ≡ (get_or order q bare_gate).out = sym e ∙ (get_or_default names k f [] in_names ∙ (ap (λ n. get_or names n []) at ∙ out_at q inside)) in
          absurd (omega (arith, lower, ap right.depth name, up j q bare_gate behind inside))

      by_input : (k < m) ⊎ (m ≤ k) → number_in names f < m + j
      by_input (inl input) = omega (arith, number)
      by_input (inr gate) = by_gate (k - m) (omega arith) (omega (arith, many)) (cases_lt (k - m) j)

  is_gate_at : (j : ℕ) → j < length order → IsGateAt m j (closed_gate net_of (get_or order j bare_gate))
  is_gate_at j lt = record {
    drives = ap (number_in names) (all_own j bare_gate lt) ∙ number_out j lt;
    before = All-map (λ (n : NetId). n.0 < m + j) (λ pin. record { 0 = net_of pin }) gate.pins (λ k d in_pins.
        let f = get_or gate.pins k d in
        let is = right.starts_are f (all_pins j bare_gate lt k d in_pins) in
        before j lt (start f) (start_among f (start f) is) (omega (arith, start_depth f (start f) is, all_deep j bare_gate lt, greatest-above right.depth gate.pins k d in_pins)));
  }
    where
      gate : DraftGate
      gate = get_or order j bare_gate

  pub outputs_driven : All (Contains driven) draft.outputs
  outputs_driven = none_unknown driven draft.outputs (none_split driven (flat_map needs_of (links draft)) draft.outputs whole).1

  pub ordered_netlist : IsNetlist (netlist_in ordered order net_of)
  ordered_netlist = record {
    named = many ∙ ap (λ n. m + n) (sym (length-map order (closed_gate net_of)));
    few = ordered_few;
    gates = λ j gate at. by_image j gate (image_at (closed_gate net_of) order j gate at);
    outputs = All-map (λ (port : Port). port.net.0 < length names) (port_at net_of) draft.outputs
        (All-weaker (Contains driven) (λ name. net_of name < length names) net_below draft.outputs outputs_driven);
  }
    where
      by_image : (j : ℕ) (gate : Gate) → IsImage (closed_gate net_of) order j gate → IsGateAt m j gate
      by_image j gate i =
          let lt = slice_get_within order j i.from i.at in
          let same : closed_gate net_of (get_or order j bare_gate) ≡ gate = ap (closed_gate net_of) (get_or_from_slice_get order j i.from bare_gate i.at) ∙ i.is in
          subst (IsGateAt m j) same (is_gate_at j lt)

  pub ordered_over : (cells : List CellParts) → All (IsOfCell cells) draft.gates → IsOver cells (netlist_in ordered order net_of)
  ordered_over cells all =
      All-map (HasCell cells) (closed_gate net_of) order
      (All-weaker (IsOfCell cells) (λ gate. HasCell cells (closed_gate net_of gate)) (λ gate is. record { cell = is.cell; at = is.at; pins = length-map gate.pins (λ pin. record { 0 = net_of pin }) ∙ is.pins }) order
      (All-permutation (IsOfCell cells) draft.gates order moved all))
