-- A draft is closed to one netlist.
use Rattle.std.proofs.Common.{ℕ, zero, suc, ◌≡◌, ◌+◌, ◌<◌, ◌≤◌, ◌==◌, ◌⊎◌, inl, inr, Bool, true, false, max, cond, List, [], ◌∷◌, ◌++◌, length, map, get_or, filter, Some, None, Contains, All, refl, ap, ap₂, sym, ◌∙◌, subst, arith}
use Rattle.std.specs.Prelude.{slice_get}
use Rattle.std.specs.List.{flat_map, IsDistinct, range_with_len}
use Rattle.std.specs.List.Sorted.{IsPermutation}
use Rattle.std.specs.Str.{bytes_eq}
use Rattle.std.proofs.lemmas.Bool.Decides.{nat_tests}
use Rattle.std.proofs.lemmas.List.{get_or_default}
use Rattle.std.proofs.lemmas.List.Elements.{All-contains, All-head, All-tail, All-weaker, Contains-append_left, Contains-append_right}
use Rattle.std.proofs.lemmas.List.Sorted.{IsPermutation-refl, IsPermutation-sym, IsPermutation-trans, IsPermutation-cons, IsPermutation-middle, IsPermutation-append_left, IsPermutation-append_right, IsPermutation-map, Contains-permutation}
use Rattle.std.proofs.lemmas.Option.{slice_get_within}
use Rattle.lw_facts.proofs.Lists.{contains_map, get_left, get_right, at_contained, contained_at}
use Rattle.lw_laws.proofs.Numbers.{slice_get_map_back}
use Rattle.lw_pool.specs.declared.id.NetId.{NetId}
use Rattle.lw_named_netlist.specs.declared.draft.DraftGate.{DraftGate}
use Rattle.lw_named_netlist.specs.declared.draft.GateDraft.{GateDraft}
use Rattle.lw_named_netlist.specs.declared.draft.Wire.{Wire}
use Rattle.lw_netlist.specs.declared.gate.Gate.{Gate}
use Rattle.lw_named_netlist.specs.Closing.{IsClosed, IsNetNamed, by_depth, closed_gate, drivers, greatest, links, needs_of, netlist_in, out_of, port_at, undriven_in}
use Rattle.lw_named_netlist.specs.Closing.IsNetNamed.{at_input, at_gate, at_wire}
use Rattle.lw_netlist.specs.Netlists.{NetlistParts}
use Rattle.lw_named_netlist.proofs.Names.{once_distinct, drivers_are, to_of}
use Rattle.lw_dag.proofs.Numbering.{none_unknown, none_split, distinct_moved}
use Rattle.lw_named_netlist.proofs.Paths.{driven_needs}
use Rattle.lw_named_netlist.proofs.Starting.{bare_gate, link_of_gate}
use Rattle.lw_mapped.proofs.Places.{one-place}

-- The order by depth holds each gate.

abbrev pub ranked : (List ℕ → ℕ) → ℕ → ℕ → List DraftGate → List DraftGate
ranked depth low m gates = flat_map (λ d. filter (λ (gate : DraftGate). depth gate.out == d) gates) (range_with_len low m)

pub ranked-skip : (depth : List ℕ → ℕ) (low m : ℕ) (gate : DraftGate) (gates : List DraftGate) → depth gate.out < low → ranked depth low m (gate ∷ gates) ≡ ranked depth low m gates
ranked-skip depth low zero gate gates below = refl
ranked-skip depth low (suc m) gate gates below =
    ap₂ (λ a b. a ++ b) (by_test (depth gate.out == low) (grind (arith, nat_tests))) (ranked-skip depth (low + 1) m gate gates (omega arith))
  where
    here : List DraftGate
    here = filter (λ (g : DraftGate). depth g.out == low) gates

    by_test : (b : Bool) → b ≡ false → cond b (gate ∷ here) here ≡ here
    by_test false is = refl
    by_test true is = cc

pub ranked-none : (depth : List ℕ → ℕ) (low m : ℕ) → ranked depth low m [] ≡ []
ranked-none depth low zero = refl
ranked-none depth low (suc m) = ranked-none depth (low + 1) m

ranked-more : (depth : List ℕ → ℕ) (m low : ℕ) (gate : DraftGate) (gates : List DraftGate) → low ≤ depth gate.out → depth gate.out < low + m → IsPermutation (ranked depth low m (gate ∷ gates)) (gate ∷ ranked depth low m gates)
ranked-more depth zero low gate gates above below = absurd (omega arith)
ranked-more depth (suc m) low gate gates above below = by_test (depth gate.out == low) refl (λ higher. ranked-more depth m (low + 1) gate gates higher (omega arith))
  where
    here : List DraftGate
    here = filter (λ (g : DraftGate). depth g.out == low) gates

    by_test : (b : Bool) → (depth gate.out == low) ≡ b → (low + 1 ≤ depth gate.out → IsPermutation (ranked depth (low + 1) m (gate ∷ gates)) (gate ∷ ranked depth (low + 1) m gates)) → IsPermutation (cond b (gate ∷ here) here ++ ranked depth (low + 1) m (gate ∷ gates)) (gate ∷ (here ++ ranked depth (low + 1) m gates))
    by_test true e rest =
        let same : depth gate.out ≡ low = grind (arith, nat_tests) in
        subst (λ l. IsPermutation (gate ∷ (here ++ ranked depth (low + 1) m (gate ∷ gates))) (gate ∷ (here ++ l))) (ranked-skip depth (low + 1) m gate gates (omega arith)) (IsPermutation-refl (gate ∷ (here ++ ranked depth (low + 1) m (gate ∷ gates))))
    by_test false e rest =
        let higher : low + 1 ≤ depth gate.out = grind (arith, nat_tests) in
        IsPermutation-trans (here ++ ranked depth (low + 1) m (gate ∷ gates)) (here ++ gate ∷ ranked depth (low + 1) m gates) (gate ∷ (here ++ ranked depth (low + 1) m gates))
        (IsPermutation-append_right here (ranked depth (low + 1) m (gate ∷ gates)) (gate ∷ ranked depth (low + 1) m gates) (rest higher))
        (IsPermutation-middle here gate (ranked depth (low + 1) m gates))

ranked-all : (depth : List ℕ → ℕ) (low m : ℕ) (gates : List DraftGate) → All (λ (gate : DraftGate). low ≤ depth gate.out) gates → All (λ (gate : DraftGate). depth gate.out < low + m) gates → IsPermutation (ranked depth low m gates) gates
ranked-all depth low m [] above below = subst (λ l. IsPermutation l []) (sym (ranked-none depth low m)) (IsPermutation-refl [])
ranked-all depth low m (gate ∷ gates) above below =
    IsPermutation-trans (ranked depth low m (gate ∷ gates)) (gate ∷ ranked depth low m gates) (gate ∷ gates)
    (ranked-more depth m low gate gates (All-head (λ (g : DraftGate). low ≤ depth g.out) gate gates above) (All-head (λ (g : DraftGate). depth g.out < low + m) gate gates below))
    (IsPermutation-cons gate (ranked depth low m gates) gates (ranked-all depth low m gates (All-tail (λ (g : DraftGate). low ≤ depth g.out) gate gates above) (All-tail (λ (g : DraftGate). depth g.out < low + m) gate gates below)))

pub at-most : {A : Type 0} (f : A → ℕ) (xs : List A) (k : ℕ) (d : A) → k < length xs → f (get_or xs k d) ≤ greatest (map f xs)
at-most f [] k d lt = absurd (omega arith)
at-most f (x ∷ xs) zero d lt = omega arith
at-most f (x ∷ xs) (suc k) d lt = omega (arith, at-most f xs k d (omega arith))

by_depth-all : (depth : List ℕ → ℕ) (gates : List DraftGate) → All (λ (gate : DraftGate). 1 ≤ depth gate.out) gates → IsPermutation (by_depth depth gates) gates
by_depth-all depth gates least =
    ranked-all depth 1 (greatest (map (λ (gate : DraftGate). depth gate.out) gates)) gates least
    (λ k d lt. omega (arith, at-most (λ (gate : DraftGate). depth gate.out) gates k d lt))

-- Depths that are the same at the gates give one order.

filter-same : (f g : List ℕ → ℕ) (d : ℕ) (gates : List DraftGate) → All (λ (gate : DraftGate). f gate.out ≡ g gate.out) gates → filter (λ (gate : DraftGate). f gate.out == d) gates ≡ filter (λ (gate : DraftGate). g gate.out == d) gates
filter-same f g d [] same = refl
filter-same f g d (gate ∷ gates) same =
    let rest = filter-same f g d gates (All-tail (λ (x : DraftGate). f x.out ≡ g x.out) gate gates same) in
    ap₂ (λ n l. cond (n == d) (gate ∷ l) l) (All-head (λ (x : DraftGate). f x.out ≡ g x.out) gate gates same) rest

ranked-same : (f g : List ℕ → ℕ) (low m : ℕ) (gates : List DraftGate) → All (λ (gate : DraftGate). f gate.out ≡ g gate.out) gates → ranked f low m gates ≡ ranked g low m gates
ranked-same f g low zero gates same = refl
ranked-same f g low (suc m) gates same = ap₂ (λ a b. a ++ b) (filter-same f g low gates same) (ranked-same f g (low + 1) m gates same)

depths-same : (f g : List ℕ → ℕ) (gates : List DraftGate) → All (λ (gate : DraftGate). f gate.out ≡ g gate.out) gates → map (λ (gate : DraftGate). f gate.out) gates ≡ map (λ (gate : DraftGate). g gate.out) gates
depths-same f g [] same = refl
depths-same f g (gate ∷ gates) same =
    ap₂ (λ n l. n ∷ l) (All-head (λ (x : DraftGate). f x.out ≡ g x.out) gate gates same) (depths-same f g gates (All-tail (λ (x : DraftGate). f x.out ≡ g x.out) gate gates same))

by_depth-same : (f g : List ℕ → ℕ) (gates : List DraftGate) → All (λ (gate : DraftGate). f gate.out ≡ g gate.out) gates → by_depth f gates ≡ by_depth g gates
by_depth-same f g gates same =
    ranked-same f g 1 (greatest (map (λ (gate : DraftGate). f gate.out) gates)) gates same
    ∙ ap (λ l. ranked g 1 (greatest l) gates) (depths-same f g gates same)

-- What is so of one netlist that the draft is closed to.
module _ (draft : GateDraft) (n : NetlistParts) (a : IsClosed draft n) where
  abbrev order : List DraftGate
  order = by_depth a.depth draft.gates

  distinct : IsDistinct bytes_eq (drivers draft)
  distinct = once_distinct (drivers draft) a.once

  known : (undriven_in (drivers draft) (flat_map needs_of (links draft)) ≡ None) × (undriven_in (drivers draft) draft.outputs ≡ None)
  known = none_split (drivers draft) (flat_map needs_of (links draft)) draft.outputs a.driven

  pub outputs-known : All (Contains (drivers draft)) draft.outputs
  outputs-known = none_unknown (drivers draft) draft.outputs known.1

  pub pins-known : (gate : DraftGate) → Contains draft.gates gate → All (Contains (drivers draft)) gate.pins
  pins-known gate (j, lt, e) =
      let same : get_or draft.gates j bare_gate ≡ gate = get_or_default draft.gates j bare_gate gate lt ∙ e in
      subst (λ (g : DraftGate). All (Contains (drivers draft)) g.pins) same
      (subst (λ link. All (Contains (drivers draft)) (needs_of link)) (link_of_gate draft j lt) (driven_needs draft distinct known.0 j))

  pub moved : IsPermutation order draft.gates
  moved = by_depth-all a.depth draft.gates (All-weaker (λ (gate : DraftGate). a.depth gate.out ≡ 1 + greatest (map a.depth gate.pins)) (λ (gate : DraftGate). 1 ≤ a.depth gate.out) (λ gate e. omega (arith, e)) draft.gates a.depths.gates)

  -- what is driven, with the gates in their order
  abbrev ends : List (List ℕ)
  ends = draft.inputs ++ map out_of order

  abbrev keys : List (List ℕ)
  keys = ends ++ map to_of draft.wires

  pub keys-distinct : IsDistinct bytes_eq keys
  keys-distinct =
      distinct_moved ((draft.inputs ++ map out_of draft.gates) ++ map to_of draft.wires) keys
      (IsPermutation-append_left (map to_of draft.wires) (draft.inputs ++ map out_of draft.gates) ends (IsPermutation-append_right draft.inputs (map out_of draft.gates) (map out_of order) (IsPermutation-map out_of draft.gates order (IsPermutation-sym order draft.gates moved))))
      (subst (IsDistinct bytes_eq) (drivers_are draft) distinct)

  pub gate-known : (gate : DraftGate) → Contains order gate → Contains draft.gates gate
  gate-known gate among = Contains-permutation order draft.gates gate moved among

  pub out-known : (gate : DraftGate) → Contains draft.gates gate → Contains (drivers draft) gate.out
  out-known gate among =
      subst (λ l. Contains l gate.out) (sym (drivers_are draft))
      (Contains-append_left (draft.inputs ++ map out_of draft.gates) (map to_of draft.wires) gate.out (Contains-append_right draft.inputs (map out_of draft.gates) gate.out (contains_map out_of draft.gates gate among)))

-- The depths of two netlists.
module _ (draft : GateDraft) (n m : NetlistParts) (a : IsClosed draft n) (b : IsClosed draft m) where
  abbrev AgreeBelow : ℕ → Type 0
  AgreeBelow k = (name : List ℕ) → Contains (drivers draft) name → a.depth name < k → a.depth name ≡ b.depth name

  greatest-same : (k : ℕ) → AgreeBelow k → (pins : List (List ℕ)) → All (Contains (drivers draft)) pins → greatest (map a.depth pins) < k → greatest (map a.depth pins) ≡ greatest (map b.depth pins)
  greatest-same k agree [] among below = refl
  greatest-same k agree (pin ∷ pins) among below =
      ap₂ max (agree pin (All-head (Contains (drivers draft)) pin pins among) (omega arith)) (greatest-same k agree pins (All-tail (Contains (drivers draft)) pin pins among) (omega arith))

  agree-at : (k : ℕ) → AgreeBelow k → (name : List ℕ) (net : ℕ) → IsNetNamed draft (by_depth a.depth draft.gates) name net → a.depth name ≤ k → a.depth name ≡ b.depth name
  agree-at k agree name net (at_input place e) below =
      All-contains (λ i. a.depth i ≡ 0) draft.inputs name a.depths.inputs (at_contained draft.inputs place name e)
      ∙ sym (All-contains (λ i. b.depth i ≡ 0) draft.inputs name b.depths.inputs (at_contained draft.inputs place name e))
  agree-at k agree name net (at_gate place e) below =
      let at = slice_get_map_back out_of (by_depth a.depth draft.gates) place name e in
      let gate = at.0 in
      let among = gate-known draft n a gate (at_contained (by_depth a.depth draft.gates) place gate at.1) in
      let here = All-contains (λ (g : DraftGate). a.depth g.out ≡ 1 + greatest (map a.depth g.pins)) draft.gates gate a.depths.gates among in
      let there = All-contains (λ (g : DraftGate). b.depth g.out ≡ 1 + greatest (map b.depth g.pins)) draft.gates gate b.depths.gates among in
      let small : a.depth gate.out ≤ k = subst (λ x. a.depth x ≤ k) (sym at.2) below in
      let pins = greatest-same k agree gate.pins (pins-known draft n a gate among) (omega (arith, here, small)) in
      subst (λ x. a.depth x ≡ b.depth x) at.2 (here ∙ (ap (λ g. 1 + g) pins ∙ sym there))
  agree-at k agree name net (at_wire wire among to rest) below =
      let here = All-contains (λ (w : Wire). a.depth w.to ≡ a.depth w.from) draft.wires wire a.depths.wires among in
      let there = All-contains (λ (w : Wire). b.depth w.to ≡ b.depth w.from) draft.wires wire b.depths.wires among in
      let small : a.depth wire.to ≤ k = subst (λ x. a.depth x ≤ k) (sym to) below in
      let source = agree-at k agree wire.from net rest (omega (arith, here, small)) in
      subst (λ x. a.depth x ≡ b.depth x) to (here ∙ (source ∙ sym there))

  agree-below : (k : ℕ) → AgreeBelow k
  agree-below zero name among below = absurd (omega arith)
  agree-below (suc k) name among below = agree-at k (agree-below k) name (a.net name) (a.nets name among) (omega arith)

  orders-same : by_depth a.depth draft.gates ≡ by_depth b.depth draft.gates
  orders-same =
      by_depth-same a.depth b.depth draft.gates
      (λ k d lt. let gate = get_or draft.gates k d in agree-below (suc (a.depth gate.out)) gate.out (out-known draft n a gate (k, lt, get_or_default draft.gates k gate d lt)) (omega arith))

  -- a wire that drives a name
  pub record IsWired (name : List ℕ) (net : ℕ) : Type 0 where
    wire : Wire
    place : ℕ
    at : slice_get draft.wires place ≡ Some wire
    to : wire.to ≡ name
    rest : IsNetNamed draft (by_depth a.depth draft.gates) wire.from net

  -- the net starts at the name, or a wire drives it
  pub start-or-wire : (name : List ℕ) (net : ℕ) → IsNetNamed draft (by_depth a.depth draft.gates) name net → (slice_get (ends draft n a) net ≡ Some name) ⊎ IsWired name net
  start-or-wire name net (at_input place e) = inl (get_left draft.inputs (map out_of (by_depth a.depth draft.gates)) place name e)
  start-or-wire name net (at_gate place e) = inl (get_right draft.inputs (map out_of (by_depth a.depth draft.gates)) place name e)
  start-or-wire name net (at_wire wire among to rest) =
      let at = contained_at draft.wires wire among in
      inr (record { wire = wire; place = at.0; at = at.1; to = to; rest = rest })

  wire-key : (place : ℕ) (wire : Wire) (name : List ℕ) → slice_get draft.wires place ≡ Some wire → wire.to ≡ name → slice_get (keys draft n a) (length (ends draft n a) + place) ≡ Some name
  wire-key place wire name at to = get_right (ends draft n a) (map to_of draft.wires) place name (key-at draft.wires place at)
    where
      key-at : (ws : List Wire) (k : ℕ) → slice_get ws k ≡ Some wire → slice_get (map to_of ws) k ≡ Some name
      key-at [] k e = cc
      key-at (w ∷ ws) zero e = let same : w ≡ wire = cc in ap (λ (x : Wire). Some x.to) same ∙ ap (λ x. Some x) to
      key-at (w ∷ ws) (suc k) e = key-at ws k e

  start-key : (net : ℕ) (name : List ℕ) → slice_get (ends draft n a) net ≡ Some name → slice_get (keys draft n a) net ≡ Some name
  start-key net name e = get_left (ends draft n a) (map to_of draft.wires) net name e

  pub start-alone : (name : List ℕ) (net other : ℕ) → slice_get (ends draft n a) net ≡ Some name → (slice_get (ends draft n a) other ≡ Some name) ⊎ IsWired name other → net ≡ other
  start-alone name net other e (inl f) = one-place (keys draft n a) net other name (keys-distinct draft n a) (start-key net name e) (start-key other name f)
  start-alone name net other e (inr w) =
      let same = one-place (keys draft n a) net (length (ends draft n a) + w.place) name (keys-distinct draft n a) (start-key net name e) (wire-key w.place w.wire name w.at w.to) in
      absurd (omega (arith, same, slice_get_within (ends draft n a) net name e))

  one-wire : (p q : ℕ) (v w : Wire) (name : List ℕ) → slice_get draft.wires p ≡ Some v → v.to ≡ name → slice_get draft.wires q ≡ Some w → w.to ≡ name → v ≡ w
  one-wire p q v w name at to at' to' =
      let same = one-place (keys draft n a) (length (ends draft n a) + p) (length (ends draft n a) + q) name (keys-distinct draft n a) (wire-key p v name at to) (wire-key q w name at' to') in
      let here : p ≡ q = omega (arith, same) in
      let both : Some v ≡ Some w = sym at ∙ (ap (slice_get draft.wires) here ∙ at') in
      cc

  pub nets-once : (name : List ℕ) (net other : ℕ) → IsNetNamed draft (by_depth a.depth draft.gates) name net → IsNetNamed draft (by_depth a.depth draft.gates) name other → net ≡ other
  nets-once name net other (at_input place e) d = start-alone name net other (get_left draft.inputs (map out_of (by_depth a.depth draft.gates)) place name e) (start-or-wire name other d)
  nets-once name net other (at_gate place e) d = start-alone name net other (get_right draft.inputs (map out_of (by_depth a.depth draft.gates)) place name e) (start-or-wire name other d)
  nets-once name net other (at_wire wire among to rest) d =
      by_start (start-or-wire name other d) (λ w. nets-once wire.from net other rest (subst (λ (v : Wire). IsNetNamed draft (by_depth a.depth draft.gates) v.from other) (sym (same w)) w.rest))
    where
      at : (i : ℕ) × (slice_get draft.wires i ≡ Some wire)
      at = contained_at draft.wires wire among

      same : (w : IsWired name other) → wire ≡ w.wire
      same w = one-wire at.0 w.place wire w.wire name at.1 to w.at w.to

      by_start : (slice_get (ends draft n a) other ≡ Some name) ⊎ IsWired name other → (IsWired name other → net ≡ other) → net ≡ other
      by_start (inl f) wired = sym (start-alone name other net f (inr (record { wire = wire; place = at.0; at = at.1; to = to; rest = rest })))
      by_start (inr w) wired = wired w

  net-same : (name : List ℕ) → Contains (drivers draft) name → a.net name ≡ b.net name
  net-same name among = nets-once name (a.net name) (b.net name) (a.nets name among) (subst (λ o. IsNetNamed draft o name (b.net name)) (sym orders-same) (b.nets name among))

  pins-same : (pins : List (List ℕ)) → All (Contains (drivers draft)) pins → map (λ pin. let net : NetId = record { 0 = a.net pin } in net) pins ≡ map (λ pin. let net : NetId = record { 0 = b.net pin } in net) pins
  pins-same [] among = refl
  pins-same (pin ∷ pins) among =
      ap₂ (λ k ks. let net : NetId = record { 0 = k } in net ∷ ks) (net-same pin (All-head (Contains (drivers draft)) pin pins among)) (pins-same pins (All-tail (Contains (drivers draft)) pin pins among))

  gates-same : (gates : List DraftGate) → All (Contains draft.gates) gates → map (closed_gate a.net) gates ≡ map (closed_gate b.net) gates
  gates-same [] among = refl
  gates-same (gate ∷ gates) among =
      let here = All-head (Contains draft.gates) gate gates among in
      ap₂ (λ g gs. g ∷ gs)
      (ap₂ (λ pins out. let g : Gate = record { cell = gate.cell; pins = pins; out = record { 0 = out } } in g) (pins-same gate.pins (pins-known draft n a gate here)) (net-same gate.out (out-known draft n a gate here)))
      (gates-same gates (All-tail (Contains draft.gates) gate gates among))

  outputs-same : (names : List (List ℕ)) → All (Contains (drivers draft)) names → map (port_at a.net) names ≡ map (port_at b.net) names
  outputs-same [] among = refl
  outputs-same (name ∷ names) among =
      ap₂ (λ k ps. port_at (λ x. k) name ∷ ps) (net-same name (All-head (Contains (drivers draft)) name names among)) (outputs-same names (All-tail (Contains (drivers draft)) name names among))

  -- a draft is closed to one netlist
  pub closed-once : n ≡ m
  closed-once =
      let os = by_depth a.depth draft.gates in
      let gates = gates-same os (λ k d lt. gate-known draft n a (get_or os k d) (k, lt, get_or_default os k (get_or os k d) d lt)) in
      let outputs = outputs-same draft.outputs (outputs-known draft n a) in
      a.are
      ∙ (ap₂ (λ gs ps. let p : NetlistParts = record { model = draft.model; names = draft.inputs ++ map out_of os; inputs = length draft.inputs; gates = gs; outputs = ps } in p) gates outputs
      ∙ (ap (λ o. netlist_in draft o b.net) orders-same ∙ sym b.are))
