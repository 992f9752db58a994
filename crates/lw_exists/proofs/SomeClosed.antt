-- The netlist of a draft, or a fault of it, cannot fail to be there.
use Rattle.std.proofs.Common.{ℕ, ◌+◌, ◌<◌, ◌≤◌, ◌≡◌, ◌⊎◌, inl, inr, Bool, true, false, cond, List, [], length, map, Option, Some, None, Contains, All, slice_get, slice_index_or, refl, ap, sym, ◌∙◌, subst, arith}
use Rattle.std.specs.List.{flat_map}
use Rattle.std.specs.List.Sorted.{IsPermutation}
use Rattle.std.proofs.lemmas.List.{length-map}
use Rattle.std.proofs.lemmas.List.Elements.{All-from_recursion, All-contains}
use Rattle.std.proofs.lemmas.List.Sorted.{Contains-permutation}
use Rattle.std.proofs.lemmas.Option.{slice_get_within, slice_get-get_or, get_or_from_slice_get}
use Rattle.lw_facts.proofs.Lists.{IsImage, image_at, all_by_place, at_contained, contained_at, contains_map, get_append_cases, get_left, get_right}
use Rattle.lw_laws.proofs.Numbers.{slice_get_map}
use Rattle.lw_dag.proofs.Numbering.{among_contains, none_split}
use Rattle.lw_net.proofs.Buckets.{moved, within_greatest}
use Rattle.lw_lut_text.proofs.ReadNames.{different_of}
use Rattle.lw_netlist.specs.Netlists.{NetlistParts}
use Rattle.lw_named_netlist.specs.declared.draft.DraftGate.{DraftGate}
use Rattle.lw_named_netlist.specs.declared.draft.GateDraft.{GateDraft}
use Rattle.lw_named_netlist.specs.declared.draft.Wire.{Wire}
use Rattle.lw_named_netlist.specs.declared.fault.NetlistFault.TheVariants.{Twice, Undriven, Cycle}
use Rattle.lw_named_netlist.specs.Closing.{Link, is_among, greatest, name_of, needs_of, gate_link, wire_link, links, drivers, first_twice, first_undriven, Hangs, Reaches, HasNoCycle, IsFirstOnCycle, AreNameDepths, out_of, by_depth, IsNetNamed, netlist_in, IsClosed, HasFault}
use Rattle.lw_named_netlist.specs.Closing.Reaches.{by_step, by_path}
use Rattle.lw_named_netlist.specs.Closing.IsNetNamed.{at_input, at_gate, at_wire}
use Rattle.lw_named_netlist.proofs.Names.{once_distinct}
use Rattle.lw_named_netlist.proofs.Found.{contains-among}
use Rattle.lw_named_netlist.proofs.Paths.{bare, driven_needs}
use Rattle.lw_exists.specs.Weakly.{Weakly}
use Rattle.lw_exists.proofs.Weak.{sure, and_then, weaker, weak_decided, IsFirstBelow, first_below}
use Rattle.lw_exists.proofs.Ranks.{driver, driver_is, driver_none, IsReaching, AreRanks, some_ranks, AreDepths, ranked_depths, of_all}

-- the name is at a place of the list, or at none
abbrev IsFound : List (List ℕ) → List ℕ → Type 0
IsFound names q = Contains names q ⊎ (Contains names q → ⊥)

found_or_not : (names : List (List ℕ)) (q : List ℕ) → IsFound names q
found_or_not names q = by_test (is_among names q) refl
  where
    by_test : (b : Bool) → is_among names q ≡ b → IsFound names q
    by_test true e = inl (among_contains names q e)
    by_test false e = inr (λ at. let is = contains-among names q at in cc)

module _ (draft : GateDraft) where
  abbrev ls : List Link
  ls = links draft

  abbrev link_name : ℕ → List ℕ
  link_name k = slice_index_or (map name_of ls) k []

  abbrev IsOnCycle : ℕ → Type 0
  IsOnCycle k = Reaches ls (link_name k) (link_name k)

  abbrev HasLink : List ℕ → Type 0
  HasLink name = (k : ℕ) × (k < length ls) × (link_name k ≡ name)

  hanging : {from to : List ℕ} → Hangs ls from to → HasLink from
  hanging h =
      let (k, at) = contained_at ls h.link h.among in
      (k, slice_get_within ls k h.link at, get_or_from_slice_get (map name_of ls) k h.link.name [] (slice_get_map name_of ls k h.link at) ∙ h.named)

  -- what reaches something is driven by a gate or a wire
  source : {from to : List ℕ} → Reaches ls from to → HasLink from
  source (by_step h) = hanging h
  source (by_path h rest) = hanging h

  -- the draft has a netlist, or a fault that names something
  abbrev pub Closes : Type 0
  Closes = ((parts : NetlistParts) × IsClosed draft parts) ⊎ ((name : List ℕ) × (HasFault draft (Twice name) ⊎ (HasFault draft (Undriven name) ⊎ HasFault draft (Cycle name))))

  module _ (once : first_twice draft ≡ None) (driven : first_undriven draft ≡ None) where
    apart : (i j : ℕ) (name : List ℕ) → slice_get (drivers draft) i ≡ Some name → slice_get (drivers draft) j ≡ Some name → i ≡ j
    apart = different_of (drivers draft) (once_distinct (drivers draft) once)

    links_apart : (i j : ℕ) (name : List ℕ) → slice_get (map name_of ls) i ≡ Some name → slice_get (map name_of ls) j ≡ Some name → i ≡ j
    links_apart i j name e f =
        let same = apart (length draft.inputs + i) (length draft.inputs + j) name (get_right draft.inputs (map name_of ls) i name e) (get_right draft.inputs (map name_of ls) j name f) in
        omega arith

    -- no gate and no wire drives an input
    no_driver : (i : ℕ) (name : List ℕ) → slice_get draft.inputs i ≡ Some name → driver name_of name ls ≡ None
    no_driver i name at = by_driver (driver name_of name ls) refl
      where
        by_driver : (o : Option Link) → driver name_of name ls ≡ o → driver name_of name ls ≡ None
        by_driver None e = e
        by_driver (Some link) e =
            let (k, there, o) = driver_is name_of ls name link e in
            let same = apart i (length draft.inputs + k) name (get_left draft.inputs (map name_of ls) i name at) (get_right draft.inputs (map name_of ls) k name (slice_get_map name_of ls k link there ∙ ap Some o)) in
            let lt = slice_get_within draft.inputs i name at in
            absurd (omega arith)

    gate_place : (k : ℕ) (gate : DraftGate) → slice_get draft.gates k ≡ Some gate → slice_get ls k ≡ Some (gate_link gate)
    gate_place k gate at = get_left (map gate_link draft.gates) (map wire_link draft.wires) k (gate_link gate) (slice_get_map gate_link draft.gates k gate at)

    wire_place : (k : ℕ) (wire : Wire) → slice_get draft.wires k ≡ Some wire → slice_get ls (length (map gate_link draft.gates) + k) ≡ Some (wire_link wire)
    wire_place k wire at = get_right (map gate_link draft.gates) (map wire_link draft.wires) k (wire_link wire) (slice_get_map wire_link draft.wires k wire at)

    -- a gate is a step deeper than its pins, and a wire is as deep as its source
    abbrev weight : Link → ℕ
    weight link = cond (is_among (map out_of draft.gates) link.name) 1 0

    gate_weight : (k : ℕ) (gate : DraftGate) → slice_get draft.gates k ≡ Some gate → weight (gate_link gate) ≡ 1
    gate_weight k gate at = ap (λ b. cond b 1 0) (contains-among (map out_of draft.gates) gate.out (contains_map out_of draft.gates gate (at_contained draft.gates k gate at)))

    no_gate : (k : ℕ) (wire : Wire) → slice_get draft.wires k ≡ Some wire → Contains (map out_of draft.gates) wire.to → ⊥
    no_gate k wire at among =
        let (j, there) = contained_at (map out_of draft.gates) wire.to among in
        let i = image_at out_of draft.gates j wire.to there in
        let lt = slice_get_within draft.gates j i.from i.at in
        let n = length-map draft.gates gate_link in
        let same = links_apart j (length (map gate_link draft.gates) + k) wire.to (slice_get_map name_of ls j (gate_link i.from) (gate_place j i.from i.at) ∙ ap Some i.is) (slice_get_map name_of ls (length (map gate_link draft.gates) + k) (wire_link wire) (wire_place k wire at)) in
        omega arith

    wire_weight : (k : ℕ) (wire : Wire) → slice_get draft.wires k ≡ Some wire → weight (wire_link wire) ≡ 0
    wire_weight k wire at = by_test (is_among (map out_of draft.gates) wire.to) refl
      where
        by_test : (b : Bool) → is_among (map out_of draft.gates) wire.to ≡ b → weight (wire_link wire) ≡ 0
        by_test true e = absurd (no_gate k wire at (among_contains (map out_of draft.gates) wire.to e))
        by_test false e = ap (λ b. cond b 1 0) e

    module _ (no_cycle : HasNoCycle ls) where
      reaching : IsReaching name_of needs_of ls (Reaches ls)
      reaching = record {
        one = λ link q among on. by_step (record { link = link; among = among; named = refl; on = on });
        more = λ link q r among on path. by_path (record { link = link; among = among; named = refl; on = on }) path;
        none = no_cycle;
        apart = links_apart;
      }

      module _ (rank : ℕ → ℕ) (ranks : AreRanks name_of needs_of ls (Reaches ls) reaching rank) (depth : List ℕ → ℕ) (deep : AreDepths name_of needs_of weight ls depth) where
        gate_depth : (k : ℕ) (gate : DraftGate) → slice_get draft.gates k ≡ Some gate → depth gate.out ≡ 1 + greatest (map depth gate.pins)
        gate_depth k gate at =
            deep.0 k (gate_link gate) (gate_place k gate at) ∙ ap (λ w. w + greatest (map depth gate.pins)) (gate_weight k gate at)

        wire_depth : (k : ℕ) (wire : Wire) → slice_get draft.wires k ≡ Some wire → depth wire.to ≡ depth wire.from
        wire_depth k wire at =
            let w = wire_weight k wire at in
            let e = deep.0 (length (map gate_link draft.gates) + k) (wire_link wire) (wire_place k wire at) in
            omega arith

        depths : AreNameDepths draft depth
        depths = record {
          inputs = All-from_recursion (λ (name : List ℕ). depth name ≡ 0) draft.inputs (all_by_place (λ (name : List ℕ). depth name ≡ 0) draft.inputs (λ i name at. deep.1 name (no_driver i name at)));
          gates = All-from_recursion (λ (gate : DraftGate). depth gate.out ≡ 1 + greatest (map depth gate.pins)) draft.gates (all_by_place (λ (gate : DraftGate). depth gate.out ≡ 1 + greatest (map depth gate.pins)) draft.gates gate_depth);
          wires = All-from_recursion (λ (wire : Wire). depth wire.to ≡ depth wire.from) draft.wires (all_by_place (λ (wire : Wire). depth wire.to ≡ depth wire.from) draft.wires wire_depth);
        }

        abbrev order : List DraftGate
        order = by_depth depth draft.gates

        -- the order by depth holds each gate
        gates_moved : IsPermutation draft.gates order
        gates_moved =
            moved (λ (gate : DraftGate). depth gate.out) 1 (greatest (map (λ (gate : DraftGate). depth gate.out) draft.gates)) draft.gates
            (within_greatest (λ (gate : DraftGate). depth gate.out) draft.gates (all_by_place (λ (gate : DraftGate). 1 ≤ depth gate.out) draft.gates (λ k gate at. let e = gate_depth k gate at in omega arith)))

        -- the name has a net, or nothing drives it
        abbrev HasNet : List ℕ → Type 0
        HasNet q = ((n : ℕ) × IsNetNamed draft order q n) ⊎ (Contains (drivers draft) q → ⊥)

        undriven_net : (q : List ℕ) → driver name_of q ls ≡ None → HasNet q
        undriven_net q e = by_input (found_or_not draft.inputs q)
          where
            not_driven : (Contains draft.inputs q → ⊥) → (k : ℕ) → (slice_get draft.inputs k ≡ Some q) ⊎ ((j : ℕ) × (slice_get (map name_of ls) j ≡ Some q)) → ⊥
            not_driven out k (inl at) = out (at_contained draft.inputs k q at)
            not_driven out k (inr (j, at)) =
                let i = image_at name_of ls j q at in
                driver_none name_of ls q e j i.from i.at i.is

            by_input : IsFound draft.inputs q → HasNet q
            by_input (inl among) = let (k, at) = contained_at draft.inputs q among in inl (k, at_input k at)
            by_input (inr out) = inr (λ among.
                let (k, at) = contained_at (drivers draft) q among in
                not_driven out k (get_append_cases draft.inputs (map name_of ls) k q at))

        gate_net : (k : ℕ) (gate : DraftGate) → slice_get draft.gates k ≡ Some gate → (n : ℕ) × IsNetNamed draft order gate.out n
        gate_net k gate at =
            let (place, there) = contained_at order gate (Contains-permutation draft.gates order gate gates_moved (at_contained draft.gates k gate at)) in
            (length draft.inputs + place, at_gate place (slice_get_map out_of order place gate there))

        needs_driven : (k : ℕ) (link : Link) → slice_get ls k ≡ Some link → (q : List ℕ) → Contains link.needs q → Contains (drivers draft) q
        needs_driven k link at q in' =
            let known = (none_split (drivers draft) (flat_map needs_of ls) draft.outputs driven).0 in
            let all = driven_needs draft (once_distinct (drivers draft) once) known k in
            All-contains (Contains (drivers draft)) link.needs q (subst (λ (l : Link). All (Contains (drivers draft)) l.needs) (get_or_from_slice_get ls k link bare at) all) in'

        link_net : (k : ℕ) (link : Link) → slice_get ls k ≡ Some link → ((q : List ℕ) → Contains link.needs q → HasNet q) → HasNet link.name
        link_net k link at below = by_kind (get_append_cases (map gate_link draft.gates) (map wire_link draft.wires) k link at)
          where
            by_source : (j : ℕ) (wire : Wire) → slice_get draft.wires j ≡ Some wire → Contains (drivers draft) wire.from → HasNet wire.from → HasNet wire.to
            by_source j wire here among (inl (n, is)) = inl (n, at_wire wire (at_contained draft.wires j wire here) refl is)
            by_source j wire here among (inr out) = absurd (out among)

            of_wire : (j : ℕ) → IsImage wire_link draft.wires j link → HasNet link.name
            of_wire j i =
                let first : Contains link.needs i.from.from = subst (λ (l : Link). Contains l.needs i.from.from) i.is (0, omega arith, refl) in
                subst (λ (l : Link). HasNet l.name) i.is (by_source j i.from i.at (needs_driven k link at i.from.from first) (below i.from.from first))

            by_kind : (slice_get (map gate_link draft.gates) k ≡ Some link) ⊎ ((j : ℕ) × (slice_get (map wire_link draft.wires) j ≡ Some link)) → HasNet link.name
            by_kind (inl here) =
                let i = image_at gate_link draft.gates k link here in
                subst (λ (l : Link). HasNet l.name) i.is (inl (gate_net k i.from i.at))
            by_kind (inr (j, here)) = of_wire j (image_at wire_link draft.wires j link here)

        net_of : (q : List ℕ) → HasNet q
        net_of = of_all name_of needs_of ls (Reaches ls) reaching rank ranks.0 HasNet undriven_net link_net

        abbrev number : (q : List ℕ) → HasNet q → ℕ
        number q (inl (n, is)) = n
        number q (inr out) = 0

        number_is : (q : List ℕ) (has : HasNet q) → Contains (drivers draft) q → IsNetNamed draft order q (number q has)
        number_is q (inl (n, is)) among = is
        number_is q (inr out) among = absurd (out among)

        closed : Closes
        closed = inl (
          netlist_in draft order (λ q. number q (net_of q)),
          record {
            once = once;
            driven = driven;
            no_cycle = no_cycle;
            depth = depth;
            depths = depths;
            net = λ q. number q (net_of q);
            nets = λ q among. number_is q (net_of q) among;
            are = refl;
          },
        )

      weakly_closed : Weakly Closes
      weakly_closed =
          weaker (λ (rank, ranks).
          let (depth, deep) = ranked_depths name_of needs_of weight ls (Reaches ls) reaching rank ranks in
          closed rank ranks depth deep) (some_ranks name_of needs_of ls (Reaches ls) reaching)

    on_cycle : (m : ℕ) → m < length ls → IsOnCycle m → ((k : ℕ) → k < m → IsOnCycle k → ⊥) → IsFirstOnCycle ls (link_name m)
    on_cycle m lt cycle first = record {
      place = m;
      within = lt;
      named = slice_get-get_or (map name_of ls) m [] (let n = length-map ls name_of in omega arith);
      cycle = cycle;
      first = λ j other before at path. first j before (subst (λ (name : List ℕ). Reaches ls name name) (sym (get_or_from_slice_get (map name_of ls) j other [] at)) path);
    }

    by_first : ((m : ℕ) × IsFirstBelow IsOnCycle (length ls) m) ⊎ ((k : ℕ) → k < length ls → IsOnCycle k → ⊥) → Weakly Closes
    by_first (inl (m, (lt, cycle, first))) = sure (inr (link_name m, inr (inr (once, driven, on_cycle m lt cycle first))))
    by_first (inr none) = weakly_closed (λ name path.
        let (k, lt, same) = source path in
        none k lt (subst (λ (n : List ℕ). Reaches ls n n) (sym same) path))

  by_undriven : first_twice draft ≡ None → (o : Option (List ℕ)) → first_undriven draft ≡ o → Weakly Closes
  by_undriven once (Some name) e = sure (inr (name, inr (inl (once, e))))
  by_undriven once None e = and_then (weak_decided IsOnCycle (length ls)) (λ d. by_first once e (first_below IsOnCycle (length ls) d))

  by_twice : (o : Option (List ℕ)) → first_twice draft ≡ o → Weakly Closes
  by_twice (Some name) e = sure (inr (name, inl e))
  by_twice None e = by_undriven e (first_undriven draft) refl

  pub some_closed : Weakly Closes
  some_closed = by_twice (first_twice draft) refl
