-- Gates as matches: the classes of nets, and the patterns of a cell.
use Rattle.std.proofs.Common.{ℕ, zero, suc, ◌+◌, ◌-◌, ◌<◌, ◌≤◌, ◌≡◌, ◌⊎◌, inl, inr, List, [], ◌∷◌, ◌++◌, length, map, take, Option, Some, None, IfSome, option_map, slice_get, slice_index_or, get_or, length-append, refl, ap, sym, ◌∙◌, subst, arith}
use Rattle.std.proofs.lemmas.List.{length-map, map-append, take_more}
use Rattle.std.proofs.lemmas.Option.{same_Some, none-some, slice_get_within, slice_get-get_or}
use Rattle.lw_facts.proofs.Lists.{all_at, contained_at}
use Rattle.lw_pool.specs.declared.id.CellId.{CellId}
use Rattle.lw_pool.specs.declared.id.ClassId.{ClassId}
use Rattle.lw_pool.specs.declared.id.NetId.{NetId}
use Rattle.lw_laws.specs.Covers.{Pattern, HasPins}
use Rattle.lw_laws.specs.Graphs.{Stands}
use Rattle.lw_laws.proofs.Extracts.{listed_at}
use Rattle.lw_genlib.specs.Cells.{IsLibrary, IsListed}
use Rattle.lw_genlib.specs.Tables.{cell_delays, delays_of_cells, millionths}
use Rattle.lw_netlist.specs.declared.gate.Gate.{Gate}
use Rattle.lw_netlist.specs.Plain.{HasCell}
use Rattle.lw_mapped.specs.Texts.{net_name}
use Rattle.lw_check.specs.Claims.{Claim, HasKnownClasses, IsFirstNoMatch, IsMatchGate, class_number, class_of_net, cost_in}
use Rattle.lw_check.specs.Gates.{AreClassesOf, IsMatchBy, IsNoMatchAt}
use Rattle.lw_check.specs.Spans.{AreSpans, IsIn}
use Rattle.lw_check.specs.Standing.{AreWithin, StandsAlone}
use Rattle.lw_check.specs.declared.spans.Span.{Span}
use Rattle.lw_check.proofs.Places.{from_map, map_at}
use Rattle.lw_check.proofs.Unknown.{net_known}
use Rattle.lw_pool.specs.Numbers.{numbers}

module _ (k : Claim) where
  pub net_within : HasKnownClasses k → (j : ℕ) → IfSome (slice_index_or k.mapped.cert.nets j None) (λ (class : ClassId). class.0 < length k.graph.pairs)
  net_within known j = by_net (slice_index_or k.mapped.cert.nets j None) refl
    where
      by_net : (o : Option ClassId) → slice_index_or k.mapped.cert.nets j None ≡ o → IfSome o (λ (class : ClassId). class.0 < length k.graph.pairs)
      by_net None e = tt
      by_net (Some class) e = net_known (length k.graph.pairs) k.mapped.cert known j class e

  -- the classes of the first nets
  pub record HaveFirst (nets : List NetId) (count : ℕ) (classes : List ClassId) : Type 0 where
    pub same : map (class_of_net k) (take count nets) ≡ map Some (numbers classes)
    pub within : AreWithin k.graph classes
    pub counted : length classes ≡ count

  within_more : (classes : List ClassId) (class : ClassId) → class.0 < length k.graph.pairs → AreWithin k.graph classes → AreWithin k.graph (classes ++ class ∷ [])
  within_more classes class low within = λ j d lt. by_place j d lt (slice_get-get_or (classes ++ class ∷ []) j d lt)
    where
      in_front : (xs : List ClassId) (j : ℕ) (x : ClassId) → slice_get (xs ++ class ∷ []) j ≡ Some x → (slice_get xs j ≡ Some x) ⊎ (class ≡ x)
      in_front [] zero x e = inr (same_Some class x e)
      in_front [] (suc j) x e = absurd (none-some x e)
      in_front (y ∷ xs) zero x e = inl e
      in_front (y ∷ xs) (suc j) x e = in_front xs j x e

      by_place : (j : ℕ) (d : ClassId) → j < length (classes ++ class ∷ []) → slice_get (classes ++ class ∷ []) j ≡ Some (get_or (classes ++ class ∷ []) j d) → (get_or (classes ++ class ∷ []) j d).0 < length k.graph.pairs
      by_place j d lt at = elim (in_front classes j (get_or (classes ++ class ∷ []) j d) at) [
        | inl here ↦ all_at (λ (c : ClassId). c.0 < length k.graph.pairs) classes j (get_or (classes ++ class ∷ []) j d) within here
        | inr same ↦ subst (λ (c : ClassId). c.0 < length k.graph.pairs) same low
      ]

  pub first_more : (nets : List NetId) (count : ℕ) (classes : List ClassId) (class : ClassId) (d : NetId) → count < length nets → option_map class_number (Some class) ≡ class_of_net k (get_or nets count d) → class.0 < length k.graph.pairs → HaveFirst nets count classes → HaveFirst nets (count + 1) (classes ++ class ∷ [])
  first_more nets count classes class d inside here low is = record {
    same =
        ap (map (class_of_net k)) (take_more nets count d inside) ∙ (map-append (class_of_net k) (take count nets) (get_or nets count d ∷ []) ∙ ((λ i. is.same i ++ (sym here i ∷ [])) ∙ sym (ap (map Some) (map-append class_number classes (class ∷ [])) ∙ map-append Some (numbers classes) (class.0 ∷ []))));
    within = within_more classes class low is.within;
    counted = length-append classes (class ∷ []) ∙ ap (λ n. n + 1) is.counted;
  }

  -- a net without a class
  pub none_at : (nets : List NetId) (j : ℕ) (net : NetId) → slice_get nets j ≡ Some net → class_of_net k net ≡ None → AreClassesOf k nets None
  none_at nets j net at none ps e =
      let here = map_at (class_of_net k) nets j net at in
      let (p, there, same) = from_map Some ps j (class_of_net k net) (subst (λ xs. slice_get xs j ≡ Some (class_of_net k net)) e here) in
      none-some p (sym none ∙ sym same)

  -- a pattern that stands at one class alone
  pub by_class : (place : ℕ) (cell : CellId) (ps : List ℕ) (class : ClassId) (p : Pattern) (found : Option ClassId) → slice_get k.pats place ≡ Some p → StandsAlone k.graph ps p.tree found → p.cell ≡ cell.0 → (option_map class_number found ≡ Some class.0) → IsMatchBy k place cell ps class
  by_class place cell ps class p None at alone of_cell is = absurd (none-some class.0 is)
  by_class place cell ps class p (Some d) at alone of_cell is = record { pattern = p; listed = at; of_cell = of_cell; stands = subst (λ c. Stands k.graph ps p.tree c) (same_Some d.0 class.0 is) alone.0 }

  pub of_class : (place : ℕ) (cell : CellId) (ps : List ℕ) (class : ClassId) (p : Pattern) (found : Option ClassId) → slice_get k.pats place ≡ Some p → StandsAlone k.graph ps p.tree found → IsMatchBy k place cell ps class → (p.cell ≡ cell.0) × (option_map class_number found ≡ Some class.0)
  of_class place cell ps class p found at alone is = (ap (λ (x : Pattern). x.cell) same ∙ is.of_cell, by_found found alone)
    where
      same : p ≡ is.pattern
      same = same_Some p is.pattern (sym at ∙ is.listed)

      stands : Stands k.graph ps p.tree class.0
      stands = subst (λ (x : Pattern). Stands k.graph ps x.tree class.0) (sym same) is.stands

      by_found : (o : Option ClassId) → StandsAlone k.graph ps p.tree o → option_map class_number o ≡ Some class.0
      by_found None none = absurd (none class.0 stands)
      by_found (Some d) (at', only, low) = ap Some (sym (only class.0 stands))

  some_injective : (xs ys : List ℕ) → map Some xs ≡ map Some ys → xs ≡ ys
  some_injective [] [] e = refl
  some_injective [] (y ∷ ys) e = cc
  some_injective (x ∷ xs) [] e = cc
  some_injective (x ∷ xs) (y ∷ ys) e =
      let head : x ≡ y = cc in
      let tail : map Some xs ≡ map Some ys = cc in
      let rest = some_injective xs ys tail in
      λ i. head i ∷ rest i

  -- the number of a gate's pins is that of its cell
  gate_pins : (gate : Gate) → IsLibrary k.cells → HasCell k.cells gate → HasPins (cost_in k).pin_counts gate.cell.0 (length gate.pins)
  gate_pins gate lib has =
      let delays = map_at length (delays_of_cells k.cells) gate.cell.0 (cell_delays has.cell) (map_at cell_delays k.cells gate.cell.0 has.cell has.at) in
      let listed : IsListed has.cell = all_at IsListed k.cells gate.cell.0 has.cell lib.each has.at in
      delays ∙ ap Some (length-map has.cell.delays millionths ∙ (listed.kept.delays ∙ sym has.pins))

  module _ (gate : Gate) (lib : IsLibrary k.cells) (has : HasCell k.cells gate) (class : ClassId) (pins : List ClassId) (at : class_of_net k gate.out ≡ Some class.0) (are : AreClassesOf k gate.pins (Some pins)) where
    pub match_by : (place : ℕ) → IsMatchBy k place gate.cell (numbers pins) class → IsMatchGate k gate
    match_by place by = record {
      class = class.0;
      has_class = at;
      pins = numbers pins;
      have_classes = are;
      stands = record {
        pattern = by.pattern;
        listed = listed_at k.pats place by.pattern by.listed;
        cell_is = by.of_cell;
        pins = subst (λ n. HasPins (cost_in k).pin_counts gate.cell.0 n) (counted) (gate_pins gate lib has);
        stands = by.stands;
      };
    }
      where
        counted : length gate.pins ≡ length (numbers pins)
        counted =
            let a = length-map gate.pins (class_of_net k) in
            let b : length (map Some (numbers pins)) ≡ length (numbers pins) = length-map (numbers pins) Some in
            let c = ap length are in
            omega arith

    pub no_match_by : (spans : List Span) (span : Span) → AreSpans (length k.cells) k.pats spans → slice_get spans gate.cell.0 ≡ Some span → ((place : ℕ) → IsIn span place → IsMatchBy k place gate.cell (numbers pins) class → ⊥) → IsMatchGate k gate → ⊥
    no_match_by spans span are_spans span_at none is =
        let s = is.stands in
        let (place, listed) = contained_at k.pats s.pattern s.listed in
        let own : is.class ≡ class.0 = same_Some is.class class.0 (sym is.has_class ∙ at) in
        let same : is.pins ≡ numbers pins = some_injective is.pins (numbers pins) (sym is.have_classes ∙ are) in
        let inside = slice_get_within k.pats place s.pattern listed in
        let within = are_spans.places place s.pattern span inside listed (subst (λ c. slice_get spans c ≡ Some span) (sym s.cell_is) span_at) in
        none place within (record { pattern = s.pattern; listed = listed; of_cell = s.cell_is; stands = subst (λ c. Stands k.graph (numbers pins) s.pattern.tree c) own (subst (λ ps. Stands k.graph ps s.pattern.tree is.class) same s.stands) })

  pub no_class : (gate : Gate) → class_of_net k gate.out ≡ None → IsMatchGate k gate → ⊥
  no_class gate none is = none-some is.class (sym none ∙ is.has_class)

  -- the first gate that is no match, by its name
  pub no_match_found : (place : ℕ) (name : List ℕ) → IsNoMatchAt k place → ((gate : Gate) → slice_get k.mapped.netlist.gates place ≡ Some gate → net_name k.mapped.netlist.names gate.out ≡ name) → IsFirstNoMatch k name
  no_match_found place name is named =
      let none : Gate = record { cell = record { 0 = 0 }; pins = []; out = record { 0 = 0 } } in
      let gate = get_or k.mapped.netlist.gates place none in
      let at = slice_get-get_or k.mapped.netlist.gates place none is.within in
      record {
        place = place;
        gate = gate;
        at = at;
        named = named gate at;
        no_match = λ match'. is.no_match (λ other there. subst (IsMatchGate k) (same_Some gate other (sym at ∙ there)) match');
        before = is.before;
      }
