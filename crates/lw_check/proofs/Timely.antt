-- Outputs at their roots, and on time.
use Rattle.std.proofs.Common.{ℕ, zero, suc, ◌+◌, ◌-◌, ◌<◌, ◌≤◌, ◌≡◌, ◌⊎◌, inl, inr, List, [], ◌∷◌, length, map, Option, Some, None, option_map, slice_get, get_or, refl, ap, sym, ◌∙◌, subst, arith}
use Rattle.std.proofs.lemmas.Bool.{cases_eq}
use Rattle.std.proofs.lemmas.Option.{same_Some, none-some, slice_get_within, slice_get-get_or}
use Rattle.lw_facts.proofs.Lists.{all_at}
use native.Mathlib.Decide.{dec_lt}
use Rattle.lw_fixed.specs.declared.micro.Micro.{Micro}
use Rattle.lw_pool.specs.declared.id.ClassId.{ClassId}
use Rattle.lw_pool.specs.declared.id.NetId.{NetId}
use Rattle.lw_laws.specs.Choices.{HasLabelAtMost, HaveLabels, Labels}
use Rattle.lw_laws.specs.Rounds.{labels_in}
use Rattle.lw_laws.proofs.NetlistValues.{arrivals_once}
use Rattle.lw_genlib.specs.Tables.{millionths}
use Rattle.lw_netlist.specs.declared.gate.Gate.{Gate}
use Rattle.lw_netlist.specs.declared.gate.Port.{Port}
use Rattle.lw_netlist.specs.Netlists.{IsNetlist}
use Rattle.lw_netlist.specs.Plain.{plain}
use Rattle.lw_check.specs.Claims.{Claim, Arrives, AreMatches, AreOnTime, HasPotential, HasSamePorts, IsAtRoot, IsFirstOffTime, IsOnTime, IsOnTimeAt, class_number, class_of_net, cost_in, label_of_class, plain_labels, timing_in}
use Rattle.lw_check.specs.Outputs.{AreArrivalsOf, IsOffTimeAt, label_at, label_of_net}
use Rattle.lw_net.specs.Networks.{IsNetwork}
use Rattle.lw_check.proofs.Judging.{inputs_beside, netlist_ordered}
use Rattle.lw_check.proofs.Places.{map_at, read_map, some_left, some_mapped}

-- what holds at each place below one more
pub below_next : (P : ℕ → Type 0) (n : ℕ) → ((j : ℕ) → j < n → P j) → P n → (j : ℕ) → j < n + 1 → P j
below_next P n before here j lt = by_place (cases_eq j n)
  where
    by_place : (j ≡ n) ⊎ (j ≡ n → ⊥) → P j
    by_place (inl same) = subst P (sym same) here
    by_place (inr other) = before j (omega arith)

module _ (k : Claim) where
  -- the net of an output
  pub port_inside : IsNetlist k.mapped.netlist → (j : ℕ) (port : Port) → slice_get k.mapped.netlist.outputs j ≡ Some port → port.net.0 < length k.mapped.netlist.names
  port_inside kept j port at = all_at (λ (p : Port). p.net.0 < length k.mapped.netlist.names) k.mapped.netlist.outputs j port kept.outputs at

  -- roots
  pub at_root : (j : ℕ) (port : Port) (root : ClassId) → slice_get k.mapped.netlist.outputs j ≡ Some port → slice_get k.roots j ≡ Some root → class_of_net k port.net ≡ Some root.0 → IsAtRoot k j
  at_root j port root at root_at is port' root' at' root_at' =
      let same : port ≡ port' = same_Some port port' (sym at ∙ at') in
      let one : root ≡ root' = same_Some root root' (sym root_at ∙ root_at') in
      ap (λ (p : Port). class_of_net k p.net) (sym same) ∙ (is ∙ ap (λ (r : ClassId). Some r.0) one)

  -- labels of nets
  module _ (kept : IsNetlist k.mapped.netlist) (one_leaf : length k.graph.leaves ≡ k.mapped.netlist.inputs) (matches : AreMatches k) (potential : HasPotential k) where
    abbrev known : Labels
    known = labels_in (plain_labels k.mapped.cert)

    -- the net has a class with a label
    record HasLabel (net : NetId) : Type 0 where
      class : ℕ
      has_class : class_of_net k net ≡ Some class
      label : Micro
      has_label : label_of_class k class ≡ Some label

    of_bound : (net : NetId) (class d : ℕ) → class_of_net k net ≡ Some class → HasLabelAtMost known class d → HasLabel net
    of_bound net class d at (l, e, le) =
        let (label, has, same) = some_mapped millionths (label_of_class k class) l (sym (read_map (option_map millionths) refl k.mapped.cert.labels class) ∙ e) in
        record { class = class; has_class = at; label = label; has_label = has }

    pins_labelled : (pins : List NetId) (ps : List ℕ) → map (class_of_net k) pins ≡ map Some ps → ((j : ℕ) (net : NetId) → slice_get pins j ≡ Some net → HasLabel net) → (ls : List ℕ) × HaveLabels known ps ls
    pins_labelled [] [] e h = ([], tt)
    pins_labelled [] (p ∷ ps) e h = cc
    pins_labelled (pin ∷ pins) [] e h = cc
    pins_labelled (pin ∷ pins) (p ∷ ps) e h =
        let head : class_of_net k pin ≡ Some p = cc in
        let tail : map (class_of_net k) pins ≡ map Some ps = cc in
        let has = h zero pin refl in
        let (ls, have) = pins_labelled pins ps tail (λ j. h (suc j)) in
        let same : has.class ≡ p = same_Some has.class p (sym has.has_class ∙ head) in
        let label : known p ≡ Some has.label.0 = ap known (sym same) ∙ (read_map (option_map millionths) refl k.mapped.cert.labels has.class ∙ ap (option_map millionths) has.has_label) in
        (has.label.0 ∷ ls, (label, have))

    labelled_below : (bound : ℕ) (net : NetId) → net.0 < bound → net.0 < length k.mapped.netlist.names → HasLabel net
    labelled_below zero net lt inside = absurd (omega arith)
    labelled_below (suc bound) net lt inside = by_side (dec_lt net.0 k.mapped.netlist.inputs) (labelled_below bound)
      where
        by_gate : ((other : NetId) → other.0 < bound → other.0 < length k.mapped.netlist.names → HasLabel other) → (j : ℕ) (gate : Gate) → slice_get k.mapped.netlist.gates j ≡ Some gate → gate.out ≡ net → HasLabel net
        by_gate ih j gate at out =
            let row = kept.gates j gate at in
            let is = matches j gate at in
            let own : net.0 ≡ k.mapped.netlist.inputs + j = ap (λ (m : NetId). m.0) (sym out) ∙ row.drives in
            let pin : (i : ℕ) (other : NetId) → slice_get gate.pins i ≡ Some other → HasLabel other = λ i other here. (let low = all_at (λ (m : NetId). m.0 < k.mapped.netlist.inputs + j) gate.pins i other row.before here in ih other (omega arith) (omega arith)) in
            let (ls, have) = pins_labelled gate.pins is.pins is.have_classes pin in
            of_bound net is.class ((cost_in k).value gate.cell.0 ls) (subst (λ m. class_of_net k m ≡ Some is.class) out is.has_class) (potential.matches is.class gate.cell.0 is.pins ls is.stands have)

        by_side : Dec (net.0 < k.mapped.netlist.inputs) → ((other : NetId) → other.0 < bound → other.0 < length k.mapped.netlist.names → HasLabel other) → HasLabel net
        by_side (yes low) ih =
            let below : net.0 < length k.graph.leaves = omega arith in
            let at = slice_get-get_or k.graph.leaves net.0 0 below in
            let class = get_or k.graph.leaves net.0 0 in
            of_bound net class ((cost_in k).leaf net.0) (some_left k.graph.leaves (map (option_map class_number) k.mapped.cert.nets) net.0 class at) (potential.inputs class net.0 at)
        by_side (no high) ih =
            let j = net.0 - k.mapped.netlist.inputs in
            let named = kept.named in
            let inside' : j < length k.mapped.netlist.gates = omega arith in
            let gate = get_or k.mapped.netlist.gates j (record { cell = record { 0 = 0 }; pins = []; out = record { 0 = 0 } }) in
            let at = slice_get-get_or k.mapped.netlist.gates j (record { cell = record { 0 = 0 }; pins = []; out = record { 0 = 0 } }) inside' in
            let drives = (kept.gates j gate at).drives in
            let number : gate.out.0 ≡ net.0 = omega arith in
            by_gate ih j gate at (λ i. record { 0 = number i })

    pub net_labelled : (net : NetId) → net.0 < length k.mapped.netlist.names → (class : ℕ) × (label : Micro) × (class_of_net k net ≡ Some class) × (label_of_class k class ≡ Some label)
    net_labelled net inside = let is = labelled_below (suc net.0) net (omega arith) inside in (is.class, is.label, is.has_class, is.has_label)

  -- arrivals
  pub net_label : (net : NetId) (class : ℕ) → class_of_net k net ≡ Some class → label_of_net k net ≡ label_of_class k class
  net_label net class at = ap (label_at k) at

  pub has_net_label : (net : NetId) (label : Micro) → label_of_net k net ≡ Some label → (class : ℕ) × (class_of_net k net ≡ Some class) × (label_of_class k class ≡ Some label)
  has_net_label net label e = by_class (class_of_net k net) refl e
    where
      by_class : (o : Option ℕ) → class_of_net k net ≡ o → label_at k o ≡ Some label → (class : ℕ) × (class_of_net k net ≡ Some class) × (label_of_class k class ≡ Some label)
      by_class None s f = absurd (none-some label f)
      by_class (Some class) s f = (class, s, f)

  -- the net of an output has a class with a label
  module _ (network' : IsNetwork k.net) (kept : IsNetlist k.mapped.netlist) (ports : HasSamePorts k) (one_leaf : length k.graph.leaves ≡ k.net.inputs) (matches : AreMatches k) (potential : HasPotential k) (place : ℕ) (port : Port) (at : slice_get k.mapped.netlist.outputs place ≡ Some port) where
    known_port : (class : ℕ) × (label : Micro) × (class_of_net k port.net ≡ Some class) × (label_of_class k class ≡ Some label)
    known_port = net_labelled kept (one_leaf ∙ sym (inputs_beside k network' kept ports)) matches potential port.net (port_inside kept place port at)

    pub port_classed : None ≡ class_of_net k port.net → ⊥
    port_classed none = let (class, label, has_class, has_label) = known_port in none-some class (none ∙ has_class)

    pub port_labelled : None ≡ label_of_net k port.net → ⊥
    port_labelled none = let (class, label, has_class, has_label) = known_port in none-some label (none ∙ (net_label port.net class has_class ∙ has_label))

  module _ (arrivals : List Micro) (are : AreArrivalsOf k arrivals) where
    pub arrives : (net : NetId) (arrival : Micro) → slice_get arrivals net.0 ≡ Some arrival → Arrives k net arrival.0
    arrives net arrival at = record { arrivals = map millionths arrivals; are = are; at = map_at millionths arrivals net.0 arrival at }

    pub on_time : (j : ℕ) (port : Port) (arrival : Micro) → slice_get k.mapped.netlist.outputs j ≡ Some port → slice_get arrivals port.net.0 ≡ Some arrival → label_of_net k port.net ≡ Some arrival → IsOnTimeAt k j
    on_time j port arrival at time is port' at' =
        let (class, has_class, has_label) = has_net_label port.net arrival is in
        subst (λ p. IsOnTime k p) (same_Some port port' (sym at ∙ at'))
        (record { class = class; has_class = has_class; label = arrival; has_label = has_label; arrives = arrives port.net arrival time })

    pub off_time : (kept : IsNetlist k.mapped.netlist) (j : ℕ) (port : Port) (arrival : Micro) → slice_get k.mapped.netlist.outputs j ≡ Some port → slice_get arrivals port.net.0 ≡ Some arrival → (label_of_net k port.net ≡ Some arrival → ⊥) → IsOnTimeAt k j → ⊥
    off_time kept j port arrival at time not is =
        let on = is port at in
        let once = arrivals_once (plain k.mapped.netlist) (netlist_ordered k.mapped.netlist kept) (timing_in k) on.arrives.arrivals (map millionths arrivals) on.arrives.are are in
        let same : on.label.0 ≡ arrival.0 = same_Some on.label.0 arrival.0 (sym on.arrives.at ∙ (ap (λ xs. slice_get xs port.net.0) once ∙ map_at millionths arrivals port.net.0 arrival time)) in
        let one : on.label ≡ arrival = λ i. record { 0 = same i } in
        not (net_label port.net on.class on.has_class ∙ (on.has_label ∙ ap Some one))

  pub all_on_time : (n : ℕ) → length k.mapped.netlist.outputs ≤ n → ((j : ℕ) → j < n → IsOnTimeAt k j) → AreOnTime k
  all_on_time n all before j port at = let lt = slice_get_within k.mapped.netlist.outputs j port at in before j (omega arith) port at

  -- reasons
  pub time_found : (arrivals : List Micro) (are : AreArrivalsOf k arrivals) (place : ℕ) (port : Port) (arrival label : Micro) → IsOffTimeAt k place → slice_get k.mapped.netlist.outputs place ≡ Some port → slice_get arrivals port.net.0 ≡ Some arrival → label_of_net k port.net ≡ Some label → IsFirstOffTime k port.name arrival label
  time_found arrivals are place port arrival label is at time has =
      let (class, has_class, has_label) = has_net_label port.net label has in record {
        place = place;
        port = port;
        at = at;
        named = refl;
        class = class;
        has_class = has_class;
        has_label = has_label;
        arrives = arrives arrivals are port.net arrival time;
        differs = λ same. is.off (on_time arrivals are place port arrival at time (has ∙ ap Some (sym same)));
        before = is.before;
      }
