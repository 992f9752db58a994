-- A claim has one verdict.
use Rattle.std.proofs.Common.{ℕ, zero, suc, ◌<◌, ◌≤◌, ◌≡◌, List, ◌++◌, length, map, find, nat_le, Option, Some, None, option_map, slice_get, slice_index_or, refl, ap, sym, ◌∙◌, subst, arith}
use Rattle.std.specs.List.{filter_map}
use Rattle.std.proofs.lemmas.Option.{same_Some, none-some}
use native.Mathlib.Decide.{dec_lt}
use Rattle.lw_fixed.specs.declared.micro.Micro.{Micro}
use Rattle.lw_pool.specs.declared.id.ClassId.{ClassId}
use Rattle.lw_laws.specs.Choices.{Labels, IsPotential}
use Rattle.lw_laws.specs.Matches.{choices_of}
use Rattle.lw_laws.specs.Netlists.{AreOrdered}
use Rattle.lw_laws.specs.Rounds.{labels_in}
use Rattle.lw_laws.proofs.NetlistValues.{arrivals_once}
use Rattle.lw_genlib.specs.Tables.{millionths}
use Rattle.lw_netlist.specs.Plain.{plain}
use Rattle.lw_netlist.specs.declared.gate.Gate.{Gate}
use Rattle.lw_netlist.specs.declared.gate.Port.{Port}
use Rattle.lw_mapped.specs.declared.closing.Mapped.{Mapped}
use Rattle.lw_mapped.specs.Texts.{net_name}
use Rattle.lw_check.specs.declared.verdict.Reason.{Reason}
use Rattle.lw_check.specs.declared.verdict.Reason.TheVariants.{Ports, Class, NotMatch, Label, Root, Value}
use Rattle.lw_check.specs.declared.verdict.Verdict.{Verdict}
use Rattle.lw_check.specs.declared.verdict.Verdict.TheVariants.{Yes, No}
use Rattle.lw_check.specs.Claims.{Claim, Arrives, AreAtRoots, AreMatches, AreOnTime, HasKnownClasses, HasPotential, HasSamePorts, IsFirstNoMatch, IsFirstOffRoot, IsFirstOffTime, IsFirstUnbounded, IsMatchGate, IsOnTime, class_number, class_of_net, first_unknown_class, label_of_class, plain_labels, timing_in, cost_in}
use Rattle.lw_check.specs.Failing.{IsFailing, IsFirstFailing, Gives}
use Rattle.lw_check.specs.Mappings.{AreAlike, IsKept}
use Rattle.lw_check.specs.Verdicts.{IsVerdictOn}
use Rattle.lw_check.proofs.Judging.{netlist_ordered}
use Rattle.lw_check.proofs.Failures.{of_failing, potential_fails_not}
use Rattle.lw_check.proofs.Places.{read_map}
use Rattle.lw_check.proofs.Unknown.{labelled_same}

-- the number of the test that fails, and one more than the last where none does
abbrev stage : Verdict → ℕ
stage (No Ports) = 0
stage (No (Class class)) = 1
stage (No (NotMatch name)) = 2
stage (No (Label class label value)) = 3
stage (No (Root name found root)) = 4
stage (No (Value name arrival label)) = 5
stage Yes = 6

reason_stage : (r : Reason) → stage (No r) < 6
reason_stage Ports = omega arith
reason_stage (Class class) = omega arith
reason_stage (NotMatch name) = omega arith
reason_stage (Label class label value) = omega arith
reason_stage (Root name found root) = omega arith
reason_stage (Value name arrival label) = omega arith

-- the two are both first
first_place : (P : ℕ → Type 0) (i j : ℕ) → (P i → ⊥) → (P j → ⊥) → ((m : ℕ) → m < i → P m) → ((m : ℕ) → m < j → P m) → i ≡ j
first_place P i j not_i not_j before_i before_j = by_order (dec_lt i j) (dec_lt j i)
  where
    by_order : Dec (i < j) → Dec (j < i) → i ≡ j
    by_order (yes lt) d = absurd (not_i (before_j i lt))
    by_order (no ge) (yes lt) = absurd (not_j (before_i j lt))
    by_order (no ge) (no le) = omega arith

module _ (k : Claim) where
  abbrev Passes : ℕ → Type 0
  Passes zero = HasSamePorts k
  Passes (suc zero) = HasKnownClasses k
  Passes (suc (suc zero)) = AreMatches k
  Passes (suc (suc (suc zero))) = HasPotential k
  Passes (suc (suc (suc (suc zero)))) = AreAtRoots k
  Passes (suc (suc (suc (suc (suc zero))))) = AreOnTime k
  Passes (suc (suc (suc (suc (suc (suc n)))))) = ⊥

  -- what a verdict says of the tests before the one that fails, and of that
  passes_before : (v : Verdict) → IsVerdictOn k v → (m : ℕ) → m < stage v → Passes m
  passes_before (No Ports) is m lt = absurd (omega arith)
  passes_before (No (Class class)) is zero lt = is.0
  passes_before (No (Class class)) is (suc m) lt = absurd (omega arith)
  passes_before (No (NotMatch name)) is zero lt = is.0
  passes_before (No (NotMatch name)) is (suc zero) lt = is.1
  passes_before (No (NotMatch name)) is (suc (suc m)) lt = absurd (omega arith)
  passes_before (No (Label class label value)) is zero lt = is.0
  passes_before (No (Label class label value)) is (suc zero) lt = is.1
  passes_before (No (Label class label value)) is (suc (suc zero)) lt = is.2
  passes_before (No (Label class label value)) is (suc (suc (suc m))) lt = absurd (omega arith)
  passes_before (No (Root name found root)) is zero lt = is.0
  passes_before (No (Root name found root)) is (suc zero) lt = is.1
  passes_before (No (Root name found root)) is (suc (suc zero)) lt = is.2
  passes_before (No (Root name found root)) is (suc (suc (suc zero))) lt = is.3
  passes_before (No (Root name found root)) is (suc (suc (suc (suc m)))) lt = absurd (omega arith)
  passes_before (No (Value name arrival label)) is zero lt = is.0
  passes_before (No (Value name arrival label)) is (suc zero) lt = is.1
  passes_before (No (Value name arrival label)) is (suc (suc zero)) lt = is.2
  passes_before (No (Value name arrival label)) is (suc (suc (suc zero))) lt = is.3
  passes_before (No (Value name arrival label)) is (suc (suc (suc (suc zero)))) lt = is.4
  passes_before (No (Value name arrival label)) is (suc (suc (suc (suc (suc m))))) lt = absurd (omega arith)
  passes_before Yes is zero lt = is.0
  passes_before Yes is (suc zero) lt = is.1
  passes_before Yes is (suc (suc zero)) lt = is.2
  passes_before Yes is (suc (suc (suc zero))) lt = is.3
  passes_before Yes is (suc (suc (suc (suc zero)))) lt = is.4
  passes_before Yes is (suc (suc (suc (suc (suc zero))))) lt = is.5
  passes_before Yes is (suc (suc (suc (suc (suc (suc m)))))) lt = absurd (omega arith)

  no_failing : HasPotential k → (c : ℕ) → IsFailing k.graph (cost_in k) k.pats (labels_in (plain_labels k.mapped.cert)) c → ⊥
  no_failing is c fails = potential_fails_not k.graph (cost_in k) k.pats (plain_labels k.mapped.cert) is c (of_failing k.graph (cost_in k) k.pats (labels_in (plain_labels k.mapped.cert)) c fails)

  module _ (ordered : AreOrdered (plain k.mapped.netlist)) where
    arrival_once : (net : Rattle.lw_pool.specs.declared.id.NetId.NetId) (d e : ℕ) → Arrives k net d → Arrives k net e → d ≡ e
    arrival_once net d e a b =
        let same : a.arrivals ≡ b.arrivals = arrivals_once (plain k.mapped.netlist) ordered (timing_in k) a.arrivals b.arrivals a.are b.are in
        same_Some d e (sym a.at ∙ (ap (λ xs. slice_get xs net.0) same ∙ b.at))

    -- an output that is on time does not arrive at another time than a label of its class
    on_time_label : (port : Port) (class : ℕ) (arrival label : Micro) → IsOnTime k port → class_of_net k port.net ≡ Some class → label_of_class k class ≡ Some label → Arrives k port.net arrival.0 → arrival ≡ label
    on_time_label port class arrival label time at has arrives =
        let same_class : time.class ≡ class = same_Some time.class class (sym time.has_class ∙ at) in
        let same_label : time.label ≡ label = same_Some time.label label (sym time.has_label ∙ (ap (label_of_class k) same_class ∙ has)) in
        let same_time : arrival.0 ≡ time.label.0 = arrival_once port.net arrival.0 time.label.0 arrives time.arrives in
        let one : arrival ≡ time.label = λ i. record { 0 = same_time i } in
        one ∙ same_label

    fails_there : (v : Verdict) → IsVerdictOn k v → Passes (stage v) → ⊥
    fails_there (No Ports) is passes = is passes
    fails_there (No (Class class)) is passes = none-some class (sym passes ∙ is.1)
    fails_there (No (NotMatch name)) is passes = is.2.no_match (passes is.2.place is.2.gate is.2.at)
    fails_there (No (Label class label value)) is passes = no_failing passes class.0 is.3.first.fails
    fails_there (No (Root name found root)) is passes =
        let f = is.4 in
        let same : found.0 ≡ root.0 = same_Some found.0 root.0 (sym f.found_at ∙ passes f.place f.port root f.at f.root_at) in
        f.differs (λ i. record { 0 = same i })
    fails_there (No (Value name arrival label)) is passes =
        let f = is.5 in
        f.differs (on_time_label f.port f.class arrival label (passes f.place f.port f.at) f.has_class f.has_label f.arrives)
    fails_there Yes is passes = passes

    same_stage : (a b : Verdict) → IsVerdictOn k a → IsVerdictOn k b → stage a ≡ stage b
    same_stage a b is also = first_place Passes (stage a) (stage b) (fails_there a is) (fails_there b also) (passes_before a is) (passes_before b also)

    first_class : (c d : ClassId) → IsFirstFailing k.graph (cost_in k) k.pats (labels_in (plain_labels k.mapped.cert)) c.0 → IsFirstFailing k.graph (cost_in k) k.pats (labels_in (plain_labels k.mapped.cert)) d.0 → c ≡ d
    first_class c d a b =
        let same : c.0 ≡ d.0 = by_order (dec_lt c.0 d.0) (dec_lt d.0 c.0) in λ i. record { 0 = same i }
      where
        by_order : Dec (c.0 < d.0) → Dec (d.0 < c.0) → c.0 ≡ d.0
        by_order (yes lt) e = absurd (b.first c.0 lt a.fails)
        by_order (no ge) (yes lt) = absurd (a.first d.0 lt b.fails)
        by_order (no ge) (no le) = omega arith

    same_reason : (a b : Reason) → stage (No a) ≡ stage (No b) → IsVerdictOn k (No a) → IsVerdictOn k (No b) → ◌≡◌ {A = Verdict} (No a) (No b)
    same_reason Ports Ports e is also = refl
    same_reason (Class c) (Class d) e is also = ap (λ x. No (Class x)) (same_Some c d (sym is.1 ∙ also.1))
    same_reason (NotMatch name) (NotMatch other) e is also = ap (λ x. No (NotMatch x)) (no_match_once is.2 also.2)
      where
        no_match_once : IsFirstNoMatch k name → IsFirstNoMatch k other → name ≡ other
        no_match_once a b =
            let place : a.place ≡ b.place = first_place (λ j. Rattle.lw_check.specs.Claims.IsMatchAtPlace k j) a.place b.place (λ h. a.no_match (h a.gate a.at)) (λ h. b.no_match (h b.gate b.at)) a.before b.before in
            let gate : a.gate ≡ b.gate = same_Some a.gate b.gate (sym a.at ∙ (ap (λ j. slice_get k.mapped.netlist.gates j) place ∙ b.at)) in
            sym a.named ∙ (ap (λ (g : Gate). net_name k.mapped.netlist.names g.out) gate ∙ b.named)
    same_reason (Label c l v) (Label d m w) e is also = label_once is.3 also.3
      where
        label_once : IsFirstUnbounded k c l v → IsFirstUnbounded k d m w → ◌≡◌ {A = Verdict} (No (Label c l v)) (No (Label d m w))
        label_once a b =
            let class : c ≡ d = first_class c d a.first b.first in
            let label : l ≡ m = sym a.label_is ∙ (ap (λ (x : ClassId). label_of_class k x.0) class ∙ b.label_is) in
            let low : w.0 ≤ v.0 = b.least v.0 (subst (λ (x : ClassId). Gives k.graph (cost_in k) k.pats (labels_in (plain_labels k.mapped.cert)) x.0 v.0) class a.gives) in
            let high : v.0 ≤ w.0 = a.least w.0 (subst (λ (x : ClassId). Gives k.graph (cost_in k) k.pats (labels_in (plain_labels k.mapped.cert)) x.0 w.0) (sym class) b.gives) in
            let number : v.0 ≡ w.0 = omega arith in
            λ i. No (Label (class i) (label i) (record { 0 = number i }))
    same_reason (Root name found root) (Root other found' root') e is also = root_once is.4 also.4
      where
        root_once : IsFirstOffRoot k name found root → IsFirstOffRoot k other found' root' → ◌≡◌ {A = Verdict} (No (Root name found root)) (No (Root other found' root'))
        root_once a b =
            let off : (name : List ℕ) (found root : ClassId) → (f : IsFirstOffRoot k name found root) → Rattle.lw_check.specs.Claims.IsAtRoot k f.place → ⊥ = λ name found root f h. (let same : found.0 ≡ root.0 = same_Some found.0 root.0 (sym f.found_at ∙ h f.port root f.at f.root_at) in f.differs (λ i. record { 0 = same i })) in
            let place : a.place ≡ b.place = first_place (λ j. Rattle.lw_check.specs.Claims.IsAtRoot k j) a.place b.place (off name found root a) (off other found' root' b) a.before b.before in
            let port : a.port ≡ b.port = same_Some a.port b.port (sym a.at ∙ (ap (λ j. slice_get k.mapped.netlist.outputs j) place ∙ b.at)) in
            let roots : root ≡ root' = same_Some root root' (sym a.root_at ∙ (ap (λ j. slice_get k.roots j) place ∙ b.root_at)) in
            let names : name ≡ other = sym a.named ∙ (ap (λ (p : Port). p.name) port ∙ b.named) in
            let number : found.0 ≡ found'.0 = same_Some found.0 found'.0 (sym a.found_at ∙ (ap (λ (p : Port). class_of_net k p.net) port ∙ b.found_at)) in
            λ i. No (Root (names i) (record { 0 = number i }) (roots i))
    same_reason (Value name arrival label) (Value other arrival' label') e is also = value_once is.5 also.5
      where
        value_once : IsFirstOffTime k name arrival label → IsFirstOffTime k other arrival' label' → ◌≡◌ {A = Verdict} (No (Value name arrival label)) (No (Value other arrival' label'))
        value_once a b =
            let off : (name : List ℕ) (arrival label : Micro) → (f : IsFirstOffTime k name arrival label) → Rattle.lw_check.specs.Claims.IsOnTimeAt k f.place → ⊥ = λ name arrival label f h. f.differs (on_time_label f.port f.class arrival label (h f.port f.at) f.has_class f.has_label f.arrives) in
            let place : a.place ≡ b.place = first_place (λ j. Rattle.lw_check.specs.Claims.IsOnTimeAt k j) a.place b.place (off name arrival label a) (off other arrival' label' b) a.before b.before in
            let port : a.port ≡ b.port = same_Some a.port b.port (sym a.at ∙ (ap (λ j. slice_get k.mapped.netlist.outputs j) place ∙ b.at)) in
            let names : name ≡ other = sym a.named ∙ (ap (λ (p : Port). p.name) port ∙ b.named) in
            let class : a.class ≡ b.class = same_Some a.class b.class (sym a.has_class ∙ (ap (λ (p : Port). class_of_net k p.net) port ∙ b.has_class)) in
            let labels : label ≡ label' = same_Some label label' (sym a.has_label ∙ (ap (label_of_class k) class ∙ b.has_label)) in
            let number : arrival.0 ≡ arrival'.0 = arrival_once b.port.net arrival.0 arrival'.0 (subst (λ (p : Port). Arrives k p.net arrival.0) port a.arrives) b.arrives in
            λ i. No (Value (names i) (record { 0 = number i }) (labels i))
    same_reason a b e is also = absurd (omega arith)

    same_verdict : (a b : Verdict) → stage a ≡ stage b → IsVerdictOn k a → IsVerdictOn k b → a ≡ b
    same_verdict Yes Yes e is also = refl
    same_verdict Yes (No b) e is also = absurd (let lt = reason_stage b in omega arith)
    same_verdict (No a) Yes e is also = absurd (let lt = reason_stage a in omega arith)
    same_verdict (No a) (No b) e is also = same_reason a b e is also

    pub verdict_once : (a b : Verdict) → IsVerdictOn k a → IsVerdictOn k b → a ≡ b
    verdict_once a b is also = same_verdict a b (same_stage a b is also) is also

-- the claim of a netlist with other starts, and other labels in its certificate
abbrev with_labels : Claim → List Micro → List (Option Micro) → Claim
with_labels k starts ls = record k { mapped = record k.mapped { starts = starts; cert = record k.mapped.cert { labels = ls } } }

abbrev AreSame : List (Option Micro) → List (Option Micro) → Type 0
AreSame xs ys = (c : ℕ) → slice_index_or xs c None ≡ slice_index_or ys c None

-- what holds with some labels holds with labels that are the same
module _ (k : Claim) (ts us : List Micro) (xs ys : List (Option Micro)) (same : AreSame xs ys) where
  abbrev before : Claim
  before = with_labels k ts xs

  abbrev after : Claim
  after = with_labels k us ys

  ports_on : HasSamePorts before → HasSamePorts after
  ports_on is = record { inputs = is.inputs; outputs = is.outputs; frame = is.frame }

  gate_on : (gate : Gate) → IsMatchGate before gate → IsMatchGate after gate
  gate_on gate is = record { class = is.class; has_class = is.has_class; pins = is.pins; have_classes = is.have_classes; stands = is.stands }

  time_on : (port : Port) → IsOnTime before port → IsOnTime after port
  time_on port is = record {
    class = is.class;
    has_class = is.has_class;
    label = is.label;
    has_label = sym (same is.class) ∙ is.has_label;
    arrives = record { arrivals = is.arrives.arrivals; are = is.arrives.are; at = is.arrives.at };
  }

  unknown_same : first_unknown_class before ≡ first_unknown_class after
  unknown_same = ap (λ cs. find (nat_le (length k.graph.pairs)) (cs ++ filter_map (option_map class_number) k.mapped.cert.nets)) (labelled_same xs ys 0 same)

  labels_same : ◌≡◌ {A = Labels} (labels_in (map (option_map millionths) xs)) (labels_in (map (option_map millionths) ys))
  labels_same = λ i c. (read_map (option_map millionths) refl xs c ∙ (ap (option_map millionths) (same c) ∙ sym (read_map (option_map millionths) refl ys c))) i

  potential_on : HasPotential before → HasPotential after
  potential_on is = subst (λ (f : Labels). IsPotential (choices_of k.graph (cost_in k).pin_counts k.pats) (cost_in k) f) labels_same is

  unbounded_on : (class : ClassId) (label : Option Micro) (value : Micro) → IsFirstUnbounded before class label value → IsFirstUnbounded after class label value
  unbounded_on class label value is = record {
    first = subst (λ (f : Labels). IsFirstFailing k.graph (cost_in k) k.pats f class.0) labels_same is.first;
    label_is = sym (same class.0) ∙ is.label_is;
    gives = subst (λ (f : Labels). Gives k.graph (cost_in k) k.pats f class.0 value.0) labels_same is.gives;
    least = subst (λ (f : Labels). (d : ℕ) → Gives k.graph (cost_in k) k.pats f class.0 d → value.0 ≤ d) labels_same is.least;
  }

module _ (k : Claim) (ts us : List Micro) (xs ys : List (Option Micro)) (same : AreSame xs ys) where
  back : AreSame ys xs
  back c = sym (same c)

  pub verdict_on : (v : Verdict) → IsVerdictOn (with_labels k ts xs) v → IsVerdictOn (with_labels k us ys) v
  verdict_on Yes is = (
    ports_on k ts us xs ys same is.0,
    sym (unknown_same k ts us xs ys same) ∙ is.1,
    λ j gate at. gate_on k ts us xs ys same gate (is.2 j gate at),
    potential_on k ts us xs ys same is.3,
    is.4,
    λ j port at. time_on k ts us xs ys same port (is.5 j port at),
  )
  verdict_on (No Ports) is = λ h. is (ports_on k us ts ys xs back h)
  verdict_on (No (Class class)) is = (ports_on k ts us xs ys same is.0, sym (unknown_same k ts us xs ys same) ∙ is.1)
  verdict_on (No (NotMatch name)) is = (
    ports_on k ts us xs ys same is.0,
    sym (unknown_same k ts us xs ys same) ∙ is.1,
    let f = is.2 in record {
      place = f.place;
      gate = f.gate;
      at = f.at;
      named = f.named;
      no_match = λ h. f.no_match (gate_on k us ts ys xs back f.gate h);
      before = λ j lt gate at. gate_on k ts us xs ys same gate (f.before j lt gate at);
    },
  )
  verdict_on (No (Label class label value)) is = (
    ports_on k ts us xs ys same is.0,
    sym (unknown_same k ts us xs ys same) ∙ is.1,
    λ j gate at. gate_on k ts us xs ys same gate (is.2 j gate at),
    unbounded_on k ts us xs ys same class label value is.3,
  )
  verdict_on (No (Root name found root)) is = (
    ports_on k ts us xs ys same is.0,
    sym (unknown_same k ts us xs ys same) ∙ is.1,
    λ j gate at. gate_on k ts us xs ys same gate (is.2 j gate at),
    potential_on k ts us xs ys same is.3,
    let f = is.4 in record { place = f.place; port = f.port; at = f.at; root_at = f.root_at; named = f.named; found_at = f.found_at; differs = f.differs; before = f.before },
  )
  verdict_on (No (Value name arrival label)) is = (
    ports_on k ts us xs ys same is.0,
    sym (unknown_same k ts us xs ys same) ∙ is.1,
    λ j gate at. gate_on k ts us xs ys same gate (is.2 j gate at),
    potential_on k ts us xs ys same is.3,
    is.4,
    let f = is.5 in record {
      place = f.place;
      port = f.port;
      at = f.at;
      named = f.named;
      class = f.class;
      has_class = f.has_class;
      has_label = sym (same f.class) ∙ f.has_label;
      arrives = record { arrivals = f.arrives.arrivals; are = f.arrives.are; at = f.arrives.at };
      differs = f.differs;
      before = λ j lt port at. time_on k ts us xs ys same port (f.before j lt port at);
    },
  )

-- so has a claim with a certificate that is the same
pub verdicts_agree : (k : Claim) (other : Mapped) (a b : Verdict) → IsKept k → AreAlike k.mapped other → IsVerdictOn k a → IsVerdictOn (record k { mapped = other }) b → a ≡ b
verdicts_agree k other a b kept alike is also =
    let there : Mapped = record k.mapped { starts = other.starts; cert = record k.mapped.cert { labels = other.cert.labels } } in
    let moved : other ≡ there = λ i. record { netlist = sym alike.netlist i; frame = sym alike.frame i; starts = other.starts; cert = record { labels = other.cert.labels; nets = sym alike.certificates.nets i } } in
    let here : IsVerdictOn (with_labels k other.starts other.cert.labels) b = subst (λ m. IsVerdictOn (record k { mapped = m }) b) moved also in
    verdict_once k (netlist_ordered k.mapped.netlist kept.netlist) a b is (verdict_on k other.starts k.mapped.starts other.cert.labels k.mapped.cert.labels (λ c. sym (alike.certificates.labels c)) b here)
