-- A verdict on a claim cannot fail to be there: no test fails, or there is a first one, with what fails it first.
use Rattle.std.proofs.Common.{ℕ, ◌<◌, ◌≤◌, ◌≡◌, ◌≢◌, ◌⊎◌, inl, inr, List, length, Option, Some, None, option_map, slice_get, refl, ap, sym, ◌∙◌, subst, arith}
use Rattle.std.proofs.lemmas.List.{length-map}
use Rattle.std.proofs.lemmas.Option.{slice_get_within, get_or_from_slice_get}
use native.Mathlib.Decide.{dec_lt}
use Rattle.lw_fixed.specs.declared.micro.Micro.{Micro}
use Rattle.lw_pool.specs.declared.id.ClassId.{ClassId}
use Rattle.lw_laws.specs.Rounds.{labels_in}
use Rattle.lw_laws.proofs.Lists.{slice_get_some}
use Rattle.lw_laws.proofs.NetlistValues.{some_arrivals}
use Rattle.lw_net.specs.Networks.{IsNetwork}
use Rattle.lw_genlib.specs.Tables.{millionths}
use Rattle.lw_graph.specs.Graphs.{IsGraph}
use Rattle.lw_netlist.specs.declared.gate.Gate.{Gate}
use Rattle.lw_netlist.specs.declared.gate.Port.{Port}
use Rattle.lw_netlist.specs.Netlists.{IsNetlist}
use Rattle.lw_netlist.specs.Plain.{plain, plain_gate}
use Rattle.lw_mapped.specs.Texts.{net_name}
use Rattle.lw_check.specs.declared.verdict.Reason.TheVariants.{Ports, Class, NotMatch, Label, Root, Value}
use Rattle.lw_check.specs.declared.verdict.Verdict.{Verdict}
use Rattle.lw_check.specs.declared.verdict.Verdict.TheVariants.{Yes, No}
use Rattle.lw_check.specs.Claims.{Claim, HasSamePorts, HasKnownClasses, first_unknown_class, IsMatchGate, IsMatchAtPlace, AreMatches, HasPotential, IsAtRoot, AreAtRoots, IsOnTime, IsOnTimeAt, class_of_net, label_of_class, cost_in, timing_in}
use Rattle.lw_check.specs.Failing.{Gives, IsFailing, IsFirstFailing}
use Rattle.lw_check.specs.Verdicts.{IsVerdictOn}
use Rattle.lw_check.proofs.Failures.{Fails, failing_of, none_failing, fails_in, first_fails}
use Rattle.lw_check.proofs.Judging.{inputs_beside, netlist_ordered, same_outputs}
use Rattle.lw_check.proofs.Reasons.{has_potential, is_unbounded}
use Rattle.lw_check.proofs.Timely.{port_inside, at_root, net_labelled}
use Rattle.lw_exists.specs.Weakly.{Weakly}
use Rattle.lw_exists.proofs.Weak.{sure, and_then, weaker, either, weak_decided, IsFirstBelow, first_below, weak_least, HoldsBefore, weak_all_or_first, some_list}

module _ (k : Claim) (network : IsNetwork k.net) (netlist : IsNetlist k.mapped.netlist) (graph : IsGraph k.graph) (one_leaf : length k.graph.leaves ≡ k.net.inputs) (one_root : length k.roots ≡ length k.net.outputs) where
  abbrev HasVerdict : Type 0
  HasVerdict = (v : Verdict) × IsVerdictOn k v

  module _ (ports : HasSamePorts k) (classes : HasKnownClasses k) (matches : AreMatches k) where
    module _ (potential : HasPotential k) where
      -- the net of an output has a class with a label
      port_label : (j : ℕ) (port : Port) → slice_get k.mapped.netlist.outputs j ≡ Some port → (class : ℕ) × (label : Micro) × (class_of_net k port.net ≡ Some class) × (label_of_class k class ≡ Some label)
      port_label j port at =
          net_labelled k netlist (one_leaf ∙ sym (inputs_beside k network netlist ports)) matches potential port.net (port_inside k netlist j port at)

      -- the last test
      module _ (at_roots : AreAtRoots k) where
        off_time : (m : ℕ) (port : Port) → slice_get k.mapped.netlist.outputs m ≡ Some port → (IsOnTimeAt k m → ⊥) → ((j : ℕ) → j < m → IsOnTimeAt k j) → HasVerdict
        off_time m port at out before =
            let (class, label, has_class, has_label) = port_label m port at in
            let (ds, are) = some_arrivals (plain k.mapped.netlist) (netlist_ordered k.mapped.netlist netlist) (timing_in k) in
            let inside : port.net.0 < length ds = let a = are.one_each in let b = netlist.named in let c = port_inside k netlist m port at in let d = length-map k.mapped.netlist.gates plain_gate in omega arith in
            let (d, time) = slice_get_some ds port.net.0 inside in
            let arrival : Micro = record { 0 = d } in
            let differs : arrival ≢ label = λ same. out (λ other there.
            let one : port ≡ other = cc in
            let on_time : IsOnTime k port = record { class = class; has_class = has_class; label = label; has_label = has_label; arrives = record { arrivals = ds; are = are; at = time ∙ ap (λ (t : Micro). Some t.0) same } } in
            subst (IsOnTime k) one on_time) in (
              No (Value port.name arrival label),
              (
                ports,
                classes,
                matches,
                potential,
                at_roots,
                record {
                  place = m;
                  port = port;
                  at = at;
                  named = refl;
                  class = class;
                  has_class = has_class;
                  has_label = has_label;
                  arrives = record { arrivals = ds; are = are; at = time };
                  differs = differs;
                  before = before;
                },
              ),
            )

        by_times : HoldsBefore (IsOnTimeAt k) (length k.mapped.netlist.outputs) → HasVerdict
        by_times (inl all) = (Yes, (ports, classes, matches, potential, at_roots, λ j port at. all j (slice_get_within k.mapped.netlist.outputs j port at) port at))
        by_times (inr (m, (lt, out, before))) = let (port, at) = slice_get_some k.mapped.netlist.outputs m lt in off_time m port at out before

        on_times : Weakly HasVerdict
        on_times = weaker by_times (weak_all_or_first (IsOnTimeAt k) (length k.mapped.netlist.outputs))

      off_root : (m : ℕ) (port : Port) (root : ClassId) → slice_get k.mapped.netlist.outputs m ≡ Some port → slice_get k.roots m ≡ Some root → (IsAtRoot k m → ⊥) → ((j : ℕ) → j < m → IsAtRoot k j) → HasVerdict
      off_root m port root at root_at out before =
          let (class, label, has_class, has_label) = port_label m port at in
          let found : ClassId = record { 0 = class } in (
            No (Root port.name found root),
            (
              ports,
              classes,
              matches,
              potential,
              record {
                place = m;
                port = port;
                at = at;
                root_at = root_at;
                named = refl;
                found_at = has_class;
                differs = λ same. out (at_root k m port root at root_at (has_class ∙ ap (λ (c : ClassId). Some c.0) same));
                before = before;
              },
            ),
          )

      by_roots : HoldsBefore (IsAtRoot k) (length k.mapped.netlist.outputs) → Weakly HasVerdict
      by_roots (inl all) = on_times (λ j port root at root_at. all j (slice_get_within k.mapped.netlist.outputs j port at) port root at root_at)
      by_roots (inr (m, (lt, out, before))) =
          let (port, at) = slice_get_some k.mapped.netlist.outputs m lt in
          let (root, root_at) = slice_get_some k.roots m (let a = same_outputs k ports in omega arith) in
          sure (off_root m port root at root_at out before)

      on_roots : Weakly HasVerdict
      on_roots = and_then (weak_all_or_first (IsAtRoot k) (length k.mapped.netlist.outputs)) by_roots

    -- the labels of the graph's classes
    module _ (labels : List (Option ℕ)) (one_each : length labels ≡ length k.graph.pairs) (read : (c : ℕ) → c < length k.graph.pairs → labels_in labels c ≡ option_map millionths (label_of_class k c)) where
      abbrev FailsAt : ℕ → Type 0
      FailsAt c = Fails k.graph (cost_in k) k.pats labels c

      abbrev GivesAt : ℕ → ℕ → Type 0
      GivesAt c d = Gives k.graph (cost_in k) k.pats (labels_in labels) c d

      first_failing : (c : ℕ) → FailsAt c → ((b : ℕ) → b < c → FailsAt b → ⊥) → IsFirstFailing k.graph (cost_in k) k.pats (labels_in labels) c
      first_failing c fails first = first_fails k.graph (cost_in k) k.pats labels graph one_each c (fails, λ b other. by_order b other (dec_lt b c))
        where
          by_order : (b : ℕ) → FailsAt b → Dec (b < c) → c ≤ b
          by_order b other (yes lt) = absurd (first b lt other)
          by_order b other (no ge) = omega arith

      unbounded : (c : ℕ) → FailsAt c → ((b : ℕ) → b < c → FailsAt b → ⊥) → (d : ℕ) × GivesAt c d × ((e : ℕ) → GivesAt c e → d ≤ e) → HasVerdict
      unbounded c fails first (d, gives, least) =
          let value : Micro = record { 0 = d } in (
            No (Label (record { 0 = c }) (label_of_class k c) value),
            (ports, classes, matches, is_unbounded k classes labels one_each read (record { class = record { 0 = c }; value = d }) (label_of_class k c) value refl refl (first_failing c fails first, (gives, least))),
          )

      by_labels : ((c : ℕ) × IsFirstBelow FailsAt (length k.graph.pairs) c) ⊎ ((c : ℕ) → c < length k.graph.pairs → FailsAt c → ⊥) → Weakly HasVerdict
      by_labels (inl (c, (lt, fails, first))) =
          let is : IsFailing k.graph (cost_in k) k.pats (labels_in labels) c = failing_of k.graph (cost_in k) k.pats (labels_in labels) c fails in
          weaker (unbounded c fails first) (weak_least (GivesAt c) is.value is.gives)
      by_labels (inr none) =
          on_roots (has_potential k classes labels one_each read (none_failing k.graph (cost_in k) k.pats labels (λ c fails. none c (fails_in k.graph (cost_in k) k.pats labels graph one_each c fails) fails)))

      on_labels : Weakly HasVerdict
      on_labels = and_then (weak_decided FailsAt (length k.graph.pairs)) (λ d. by_labels (first_below FailsAt (length k.graph.pairs) d))

    with_labels : Weakly HasVerdict
    with_labels =
        let (labels, one_each, are) = some_list (λ c o. o ≡ option_map millionths (label_of_class k c)) (length k.graph.pairs) (λ c lt. (option_map millionths (label_of_class k c), refl)) in
        on_labels labels one_each (λ c lt.
        let (o, at) = slice_get_some labels c (omega arith) in
        get_or_from_slice_get labels c o None at ∙ are c o at)

  no_match : HasSamePorts k → HasKnownClasses k → (m : ℕ) (gate : Gate) → slice_get k.mapped.netlist.gates m ≡ Some gate → (IsMatchAtPlace k m → ⊥) → ((j : ℕ) → j < m → IsMatchAtPlace k j) → HasVerdict
  no_match ports classes m gate at out before = (
    No (NotMatch (net_name k.mapped.netlist.names gate.out)),
    (
      ports,
      classes,
      record {
        place = m;
        gate = gate;
        at = at;
        named = refl;
        no_match = λ is. out (λ other there. let same : gate ≡ other = cc in subst (IsMatchGate k) same is);
        before = before;
      },
    ),
  )

  by_gates : HasSamePorts k → HasKnownClasses k → HoldsBefore (IsMatchAtPlace k) (length k.mapped.netlist.gates) → Weakly HasVerdict
  by_gates ports classes (inl all) =
      with_labels ports classes (λ j gate at. all j (slice_get_within k.mapped.netlist.gates j gate at) gate at)
  by_gates ports classes (inr (m, (lt, out, before))) =
      let (gate, at) = slice_get_some k.mapped.netlist.gates m lt in
      sure (no_match ports classes m gate at out before)

  by_classes : HasSamePorts k → (o : Option ℕ) → first_unknown_class k ≡ o → Weakly HasVerdict
  by_classes ports (Some class) e = sure (No (Class class), (ports, e))
  by_classes ports None e = and_then (weak_all_or_first (IsMatchAtPlace k) (length k.mapped.netlist.gates)) (by_gates ports e)

  by_ports : HasSamePorts k ⊎ (HasSamePorts k → ⊥) → Weakly HasVerdict
  by_ports (inl ports) = by_classes ports (first_unknown_class k) refl
  by_ports (inr others) = sure (No Ports, others)

  pub some_verdict : Weakly HasVerdict
  some_verdict = and_then (either (HasSamePorts k)) by_ports
