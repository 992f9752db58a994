-- Labels that are found by one visit of each place.
use Rattle.std.proofs.Common.{ℕ, ◌+◌, ◌<◌, ◌≤◌, ◌≡◌, ◌/◌, ◌*◌, ◌⊎◌, inl, inr, Bool, true, false, List, [], ◌∷◌, length, Contains, Option, Some, None, option_map, slice_get, slice_index_or, slice_set, replicate, true≢false, refl, ap, suc, sym, ◌∙◌, subst, arith}
use Rattle.std.proofs.lemmas.Bool.{cases_eq}
use Rattle.std.proofs.lemmas.Option.{same_Some, slice_get_within}
use Rattle.std.proofs.lemmas.List.{get_or-set_other}
use Rattle.lw_laws.proofs.Flips.{half-flip}
use Rattle.lw_laws.specs.Flip.{flip}
use Rattle.lw_laws.specs.Graphs.{Graph, HoldsPair}
use Rattle.lw_laws.specs.Costs.{Cost, IsCall}
use Rattle.lw_laws.specs.Covers.{Pattern, HasPins}
use Rattle.lw_laws.specs.Choices.{HaveLabels, HasLabelAtMost}
use Rattle.lw_laws.specs.Matches.{IsMatchAt}
use Rattle.lw_laws.specs.Marks.{Mark as PlainMark, HaveMarks, costs_in}
use Rattle.lw_laws.specs.Rounds.{labels_in}
use Rattle.lw_laws.specs.Laws.{IsCoverProblem}
use Rattle.lw_graph.specs.Graphs.{IsGraph}
use Rattle.lw_cost.specs.declared.mark.Best.{Best}
use Rattle.lw_cost.specs.declared.mark.Mark.{Mark}
use Rattle.lw_cost.specs.Values.{plain_mark, marks_in}
use Rattle.lw_bounds.specs.Shapes.{AreClosed}
use Rattle.lw_bounds.specs.Bounds.{AreBounds, AreRows, AreSettledAt, AreZero, BoundsFit, BoundsState, IsTableBut}
use Rattle.lw_match.specs.Cutting.{AreKnown, IsLeastWithin, TopsState, bound_below}
use Rattle.lw_cost.specs.Least.{AreOfCells}
use Rattle.lw_cost.proofs.Marked.{each_cost, length-costs as length-costs_in, length-marks}
use Rattle.lw_bounds.proofs.Settled.{settled_bounds_are_bounds}
use Rattle.lw_bounds.proofs.Tables.{but_same, fits_but, lowered_settled, settled_kept, settled_low, zero_or_bare, zero_settled}
use Rattle.lw_cost.specs.Labels.{cost_in, costs_of}
use Rattle.lw_label.specs.Heights.{AreSameBut}
use Rattle.lw_label.specs.Lowering.{AreLowering, IsBounded, IsLabelled, LabelState, state}
use Rattle.lw_label.specs.OneVisit.{AreBoundsAround, AreFalling, AreLabelsStill, ArePartsElsewhere, AreSetAt, AreSought, AreZeroOrSettled, IsFirstRound, IsNoCheaper, IsRound, IsRoundAfter, IsSameBut, IsSearch, IsSearchAround, IsZeroAt, with_label}
use Rattle.lw_label.specs.Orders.{ArePartsStill, AreVisitsAfter, IsReady, IsStillAfter, IsStillAt, VisitState, places_of}
use Rattle.lw_cost.proofs.MarksAsLabels.{label_of_mark, labels_of_marks, mark_set_same, marks_of_labels, priced}
use Rattle.lw_label.proofs.Marked.{lowering_in_range}
use Rattle.lw_label.proofs.Falling.{bounded_under, label_is_cost, not_below}
use Rattle.lw_label.proofs.Still.{cost_most, have_split, of_pair, same_but_more, stands_still, still_elsewhere, still_nowhere, still_too}

labels_same : (old new : List (Option Mark)) (ps ls : List ℕ) → ((k d : ℕ) → slice_get ps k ≡ Some d → labels_in (costs_of new) d ≡ labels_in (costs_of old) d) → HaveLabels (labels_in (costs_of new)) ps ls → HaveLabels (labels_in (costs_of old)) ps ls
labels_same old new [] [] same h = tt
labels_same old new [] (l ∷ ls) same h = absurd h
labels_same old new (p ∷ ps) [] same h = absurd h
labels_same old new (p ∷ ps) (l ∷ ls) same (e, h) =
    (sym (same 0 p refl) ∙ e, labels_same old new ps ls (λ k d at. same (suc k) d at) h)

pub label_others_kept : (marks : List (Option Mark)) (c : ℕ) (best : Option Best) → AreSameBut (λ b. b ≡ c) marks (with_label marks c best)
label_others_kept marks c None b other = refl
label_others_kept marks c (Some best) b other =
    get_or-set_other marks c b (Some (record { cost = best.mark.cost; height = 0 })) None other

pub still_turned : (still : List Bool) (c : ℕ) → IsStillAt still c → IsStillAt still (flip c)
still_turned still c is = subst (λ p. slice_index_or still p false ≡ true) (sym (half-flip c)) is

-- the parts of a place whose parts are still, and which is not
pub parts_elsewhere : (g : Graph) (still : List Bool) (place : ℕ) → slice_index_or still place false ≡ false → ((c : ℕ) → c / 2 ≡ place → ArePartsStill g still c) → ArePartsElsewhere g place
parts_elsewhere g still place moves parts c x y here h =
    let (a, b) = parts c here x y h in
    (still_elsewhere still place moves x a, still_elsewhere still place moves y b)

-- the classes of the pairs and their complements are none of those of the place
pub place_out : (g : Graph) (place c : ℕ) → ArePartsElsewhere g place → c / 2 ≡ place → (x y : ℕ) → HoldsPair g c x y → (x / 2 ≡ place → ⊥) × (flip x / 2 ≡ place → ⊥) × (y / 2 ≡ place → ⊥) × (flip y / 2 ≡ place → ⊥)
place_out g place c elsewhere here x y h =
    let (a, b) = elsewhere c x y here h in
    (a, λ e. a (sym (half-flip x) ∙ e), b, λ e. b (sym (half-flip y) ∙ e))

-- nor are they one of these
pub pair_out : (g : Graph) (place c d : ℕ) → ArePartsElsewhere g place → c / 2 ≡ place → d / 2 ≡ place → (x y : ℕ) → HoldsPair g c x y → (x ≡ d → ⊥) × (flip x ≡ d → ⊥) × (y ≡ d → ⊥) × (flip y ≡ d → ⊥)
pair_out g place c d elsewhere here there x y h =
    let (a, b, e, f) = place_out g place c elsewhere here x y h in
    (λ s. a (ap (λ n. n / 2) s ∙ there), λ s. b (ap (λ n. n / 2) s ∙ there), λ s. e (ap (λ n. n / 2) s ∙ there), λ s. f (ap (λ n. n / 2) s ∙ there))

pub odd_of : (place n : ℕ) → n ≡ place * 2 + 1 → n / 2 ≡ place
odd_of place n e = omega (arith, e)

pub even_of : (place n : ℕ) → n ≡ place * 2 → n / 2 ≡ place
even_of place n e = omega (arith, e)

-- the marks of the classes of the place have changed
pub around_after : (b : BoundsState) (g : Graph) (marks mid : List (Option Mark)) (place : ℕ) (at : ℕ → Type 0) → ((c : ℕ) → at c → c / 2 ≡ place) → AreSameBut at marks mid → AreBoundsAround b g marks place → AreBoundsAround b g mid place
around_after b g marks mid place at to same around other beside =
    around other (same_but_more at (λ c. c / 2 ≡ place) marks mid other to same beside)

-- a search that leaves something to be found has lowered the label
pub was_lowered : (lowered still : Bool) → (lowered ≡ false → still ≡ true) → still ≡ false → lowered ≡ true
was_lowered true still none e = refl
was_lowered false still none e = absurd (true≢false (sym (none refl) ∙ e))

module _ (g : Graph) (cost : Cost) (pats : List Pattern) where
  same_label : (old new : List (Option Mark)) (c : ℕ) → slice_index_or new c None ≡ slice_index_or old c None → labels_in (costs_of new) c ≡ labels_in (costs_of old) c
  same_label old new c e =
      label_is_cost g cost pats new c ∙ (ap cost_in e ∙ sym (label_is_cost g cost pats old c))

  -- a label at a still place stays the least, since those of all pins of matches stay
  bounded_kept : AreOfCells cost.pin_counts pats → (old new : List (Option Mark)) (still : List Bool) → ((c : ℕ) → IsStillAt still c → ArePartsStill g still c) → ((c : ℕ) → IsStillAt still c → slice_index_or new c None ≡ slice_index_or old c None) → (c : ℕ) → IsStillAt still c → IsBounded g cost pats old c → IsBounded g cost pats new c
  bounded_kept of_cells old new still parts same c is before cell ps ls m have =
      let of = of_cells m.pattern m.listed in
      let has : HasPins cost.pin_counts cell of.pin_count = subst (λ n. HasPins cost.pin_counts n of.pin_count) m.cell_is of.has in
      let count : of.pin_count ≡ length ps = same_Some of.pin_count (length ps) (sym has ∙ m.pins) in
      let had = labels_same old new ps ls (λ k d at. let within = slice_get_within ps k d at in same_label old new d (same d (stands_still g still parts ps m.pattern.tree c k d m.stands is ((of.pins k).1 (omega (arith, count, within))) at))) have in
      let (l, at, le) = before cell ps ls m had in
      (l, same_label old new c (same c is) ∙ at, le)

  -- other numbers and labels have changed
  pub labels_still_kept : AreOfCells cost.pin_counts pats → (at : ℕ → Type 0) (old new : LabelState) (still : List Bool) → AreClosed old.bounds.parts → ((c : ℕ) → IsStillAt still c → at c → ⊥) → IsSameBut at old new → AreLabelsStill g cost pats old still → AreLabelsStill g cost pats new still
  labels_still_kept of_cells at old new still closed out same are = record {
    parts = are.parts;
    settled = λ c is. settled_kept g old.bounds new.bounds old.marks new.marks at same.table same.marks closed c (λ x y h. let (a, b) = are.parts c is x y h in (out x a, out (flip x) (still_turned still x a), out y b, out (flip y) (still_turned still y b))) (out c is) (are.settled c is);
    bounded = λ c is. bounded_kept of_cells old.marks new.marks still are.parts (λ d there. same.marks d (out d there)) c is (are.bounded c is);
  }

  -- other labels, and more is known of gaps
  pub search_on : (b : BoundsState) (later : TopsState) (old new : List (Option Mark)) → AreSought g cost pats b old → AreKnown cost pats b.gaps later → AreLowering g cost pats new → IsSearch g cost pats b later new
  search_on b later old new are known low = record {
    sought = record { of_cells = are.of_cells; problem = are.problem; fits = are.fits; lowering = low };
    known = known;
  }

  -- other numbers at some classes
  pub search_but : (at : ℕ → Type 0) (old new : BoundsState) (tops : TopsState) (marks : List (Option Mark)) → IsTableBut at old new → IsSearch g cost pats old tops marks → IsSearch g cost pats new tops marks
  search_but at old new tops marks but search = record {
    sought = record { of_cells = search.sought.of_cells; problem = search.sought.problem; fits = fits_but at old new pats g but search.sought.fits; lowering = search.sought.lowering };
    known = subst (λ (b : BoundsState). AreKnown cost pats b.gaps tops) (sym but.table) search.known;
  }

  -- the numbers of classes have changed whose places are not still
  pub falling_but : (old new : BoundsState) (tops : TopsState) (marks : List (Option Mark)) (still : List Bool) → IsTableBut (λ c. IsStillAt still c → ⊥) old new → AreFalling g cost pats (state old marks) tops still → AreFalling g cost pats (state new marks) tops still
  falling_but old new tops marks still but are = record {
    graph = are.graph;
    search = search_but (λ c. IsStillAt still c → ⊥) old new tops marks but are.search;
    kept = labels_still_kept are.search.sought.of_cells (λ c. IsStillAt still c → ⊥) (state old marks) (state new marks) still are.search.sought.fits.rows.closed (λ c is not. not is) (record { table = but; marks = λ c out. refl }) are.kept;
  }

  -- a round goes on with the same visits
  pub round_again : (old new : VisitState) (s : LabelState) (tops : TopsState) → old.places ≡ places_of g → IsRoundAfter g cost pats old new s tops → IsRound g cost pats new s tops
  round_again old new s tops places after = record {
    places = ap (λ (v : VisitState). v.places) after.visits ∙ places;
    falling = subst (λ (v : VisitState). AreFalling g cost pats s tops v.still) (sym after.visits) after.falling;
  }

  pub round_after : (old mid new : VisitState) (s : LabelState) (tops : TopsState) → mid ≡ old → IsRoundAfter g cost pats mid new s tops → IsRoundAfter g cost pats old new s tops
  round_after old mid new s tops same after = record {
    visits = after.visits ∙ same;
    falling = subst (λ (v : VisitState). AreFalling g cost pats s tops v.still) same after.falling;
  }

  -- a place that has become still
  pub labels_still_more : (s : LabelState) (place : ℕ) (old new : List Bool) → IsStillAfter g place old new → ((c : ℕ) → c / 2 ≡ place → AreSettledAt s.bounds g s.marks c) → ((c : ℕ) → c / 2 ≡ place → IsBounded g cost pats s.marks c) → AreLabelsStill g cost pats s old → AreLabelsStill g cost pats s new
  labels_still_more s place old new after settled bounded are =
      let too = still_too g place old new after are.parts in
      record {
        parts = too.parts;
        settled = λ c is. elim (too.was c is) [ inl here ↦ settled c here | inr before ↦ are.settled c before ];
        bounded = λ c is. elim (too.was c is) [ inl here ↦ bounded c here | inr before ↦ are.bounded c before ];
      }

  pub labels_still_none : (s : LabelState) (n : ℕ) → AreLabelsStill g cost pats s (replicate n false)
  labels_still_none s n = record {
    parts = λ c is. absurd (still_nowhere n c is);
    settled = λ c is. absurd (still_nowhere n c is);
    bounded = λ c is. absurd (still_nowhere n c is);
  }

  pub still_labelled : (s : LabelState) (still : List Bool) (c : ℕ) → AreLabelsStill g cost pats s still → IsStillAt still c → IsLabelled g cost pats s c
  still_labelled s still c are is = (are.settled c is, λ _. are.bounded c is)

  -- Matches at a class after the label of one class has changed.
  module _ (problem : IsCoverProblem g pats cost) (old new : List (Option Mark)) (c d : ℕ) (low : AreLowering g cost pats new) (same : AreSameBut (λ b. b ≡ d) old new) where
    -- a pin at that class costs no more than the cell
    pin_below : (cell : ℕ) (ps : List ℕ) (ms : List PlainMark) (k : ℕ) (n : PlainMark) → HasPins cost.pin_counts cell (length ps) → HaveMarks (marks_in new) ps ms → slice_get ms k ≡ Some n → n.cost ≤ cost.value cell (costs_in ms)
    pin_below cell ps ms k n pins have listed =
        cost_most ms (cost.value cell (costs_in ms)) k n (problem.cost_is.above_pins cell (costs_in ms) call) listed
      where
        size : length (costs_in ms) ≡ length ps
        size = length-costs_in ms ∙ length-marks (marks_in new) ps ms have

        call : IsCall cost cell (costs_in ms)
        call = record {
          pins = subst (λ n. HasPins cost.pin_counts cell n) (sym size) pins;
          capped = each_cost (λ v. v ≤ cost.cap) (marks_in new) ps ms (λ b k e. (lowering_in_range g cost pats new problem low b k e).0) have;
        }

    -- no match at the class costs less, where none did before, and none has a pin at the changed class that costs less
    bounded_split : ((m : Mark) → slice_index_or new d None ≡ Some m → (l : ℕ) × (labels_in (costs_of new) c ≡ Some l) × (l ≤ m.cost)) → ((cell : ℕ) (ps : List ℕ) (ms : List PlainMark) → IsMatchAt g cost.pin_counts pats c cell ps → HaveMarks (marks_in old) ps ms → HasLabelAtMost (labels_in (costs_of new)) c (cost.value cell (costs_in ms))) → IsBounded g cost pats new c
    bounded_split dear before cell ps ls m have =
        let (ms, marked, costs) = marks_of_labels new ps ls have in
        subst (λ ls. HasLabelAtMost (labels_in (costs_of new)) c (cost.value cell ls)) costs (by_pins ms marked (have_split old new d same ps ms marked))
      where
        at_pin : (ms : List PlainMark) (k : ℕ) (n : PlainMark) → HaveMarks (marks_in new) ps ms → slice_get ms k ≡ Some n → (o : Option Mark) → slice_index_or new d None ≡ o → option_map plain_mark o ≡ Some n → HasLabelAtMost (labels_in (costs_of new)) c (cost.value cell (costs_in ms))
        at_pin ms k n marked listed None e f = cc
        at_pin ms k n marked listed (Some mark) e f =
            let is : plain_mark mark ≡ n = same_Some (plain_mark mark) n f in
            let cost_is : mark.cost ≡ n.cost = ap (λ (k : PlainMark). k.cost) is in
            let (l, label, le) = dear mark e in
            let most = pin_below cell ps ms k n m.pins marked listed in
            (l, label, omega (arith, le, cost_is, most))

        by_pins : (ms : List PlainMark) → HaveMarks (marks_in new) ps ms → HaveMarks (marks_in old) ps ms ⊎ ((k : ℕ) × (n : PlainMark) × (marks_in new d ≡ Some n) × (slice_get ms k ≡ Some n)) → HasLabelAtMost (labels_in (costs_of new)) c (cost.value cell (costs_in ms))
        by_pins ms marked (inl had) = before cell ps ms m had
        by_pins ms marked (inr (k, n, at, listed)) =
            at_pin ms k n marked listed (slice_index_or new d None) refl at

    -- the label of another class was lowered, but not below that of this one
    pub bounded_beside : (c ≡ d → ⊥) → IsNoCheaper (slice_index_or new d None) (slice_index_or new c None) → IsBounded g cost pats old c → IsBounded g cost pats new c
    bounded_beside other dear before = bounded_split
        (λ m e. let (o, is, le) = dear m e in (o.cost, label_is_cost g cost pats new c ∙ ap cost_in is, le))
        (λ cell ps ms m had. let (l, at, le) = before cell ps (costs_in ms) m (labels_of_marks old ps ms had) in (l, same_label old new c (same c other) ∙ at, le))

  -- so it stays the least
  pub bounded_stays : IsCoverProblem g pats cost → (old new : List (Option Mark)) (c d : ℕ) (lowered : Bool) → AreLowering g cost pats new → (lowered ≡ false → new ≡ old) → AreSameBut (λ b. b ≡ d) old new → (c ≡ d → ⊥) → (lowered ≡ false) ⊎ IsNoCheaper (slice_index_or new d None) (slice_index_or new c None) → IsBounded g cost pats old c → IsBounded g cost pats new c
  bounded_stays problem old new c d lowered low same others apart (inl e) before =
      subst (λ ms. IsBounded g cost pats ms c) (sym (same e)) before
  bounded_stays problem old new c d lowered low same others apart (inr dear) before =
      bounded_beside problem old new c d low others apart dear before

  -- the class has got the cost of the least match
  pub bounded_now : IsCoverProblem g pats cost → (marks : List (Option Mark)) (c : ℕ) (best : Option Best) → c < length marks → AreLowering g cost pats (with_label marks c best) → IsLeastWithin g cost pats (marks_in marks) c (bound_below best (slice_index_or marks c None)) None → IsBounded g cost pats (with_label marks c best) c
  bounded_now problem marks c None below low none =
      bounded_under g cost pats marks c (slice_index_or marks c None) refl none
  bounded_now problem marks c (Some best) below low none =
      bounded_split problem marks new c c low (label_others_kept marks c (Some best)) (λ m e. (best.mark.cost, label, dear m e)) before
    where
      own : Mark
      own = record { cost = best.mark.cost; height = 0 }

      new : List (Option Mark)
      new = slice_set marks c (Some own)

      label : labels_in (costs_of new) c ≡ Some best.mark.cost
      label = label_of_mark new c (plain_mark own) (mark_set_same marks c own below)

      dear : (m : Mark) → slice_index_or new c None ≡ Some m → best.mark.cost ≤ m.cost
      dear m e =
          let is : plain_mark own ≡ plain_mark m = same_Some (plain_mark own) (plain_mark m) (sym (mark_set_same marks c own below) ∙ ap (option_map plain_mark) e) in
          let cost_is : own.cost ≡ m.cost = ap (λ (k : PlainMark). k.cost) is in
          omega (arith, cost_is)

      before : (cell : ℕ) (ps : List ℕ) (ms : List PlainMark) → IsMatchAt g cost.pin_counts pats c cell ps → HaveMarks (marks_in marks) ps ms → HasLabelAtMost (labels_in (costs_of new)) c (cost.value cell (costs_in ms))
      before cell ps ms m had =
          let (b, is, e) = priced g cost pats (marks_in marks) c cell ps ms m had in
          let value : b.mark.cost ≡ cost.value cell (costs_in ms) = ap (λ (k : PlainMark). k.cost) e in
          let low : best.mark.cost ≤ b.mark.cost = not_below b.mark.cost best.mark.cost (λ lt. none b is (inl lt)) in
          (best.mark.cost, label, omega (arith, low, value))

module _ (g : Graph) where
  -- only numbers and marks at a place have changed that is not still, and they are settled there
  pub numbers_kept : (old new : LabelState) (still : List Bool) (place : ℕ) → AreClosed old.bounds.parts → slice_index_or still place false ≡ false → IsSameBut (λ c. c / 2 ≡ place) old new → ((c : ℕ) → c / 2 ≡ place → AreSettledAt new.bounds g new.marks c) → ((c : ℕ) → c / 2 ≡ place → ArePartsStill g still c) → AreZeroOrSettled g old still → AreZeroOrSettled g new still
  numbers_kept old new still place closed moves same settled parts are c = by_place (cases_eq (c / 2) place)
    where
      out : (d : ℕ) → IsStillAt still d → d / 2 ≡ place → ⊥
      out = still_elsewhere still place moves

      zero_too : (c / 2 ≡ place → ⊥) → IsZeroAt old.bounds c → IsZeroAt new.bounds c
      zero_too other zero = subst (λ (b : BoundsState). IsZeroAt b c) (sym same.table.table) (λ n below. same.table.others n c below other ∙ zero n below)

      by_place : (c / 2 ≡ place) ⊎ (c / 2 ≡ place → ⊥) → IsZeroAt new.bounds c ⊎ (AreSettledAt new.bounds g new.marks c × ArePartsStill g still c)
      by_place (inl here) = inr (settled c here, parts c here)
      by_place (inr other) = elim (are c) [
        | inl zero ↦ inl (zero_too other zero)
        | inr (before, there) ↦ inr (settled_kept g old.bounds new.bounds old.marks new.marks (λ d. d / 2 ≡ place) same.table same.marks closed c (λ x y h. let (a, b) = there x y h in (out x a, out (flip x) (still_turned still x a), out y b, out (flip y) (still_turned still y b))) other before, there)
      ]

  pub numbers_more : (s : LabelState) (place : ℕ) (old new : List Bool) → IsStillAfter g place old new → ((c : ℕ) → IsStillAt old c → ArePartsStill g old c) → AreZeroOrSettled g s old → AreZeroOrSettled g s new
  numbers_more s place old new after parts are c =
      let too = still_too g place old new after parts in
      elim (are c) [
        | inl zero ↦ inl zero
        | inr (settled, there) ↦ inr (settled, λ x y h. let (a, b) = there x y h in (too.stays x a, too.stays y b))
      ]

  pub numbers_bound : (s : LabelState) (still : List Bool) → IsGraph g → (pats : List Pattern) → BoundsFit s.bounds pats g → AreZeroOrSettled g s still → AreBounds s.bounds g s.marks
  numbers_bound s still graph pats fits are = settled_bounds_are_bounds s.bounds pats g s.marks graph fits (λ c below. elim (are c) [
    | inl zero ↦ zero_settled s.bounds g s.marks c zero
    | inr settled ↦ settled.0
  ])

  -- whatever marks the classes of the place have, its numbers are settled
  pub settled_around : (b : BoundsState) (marks other : List (Option Mark)) (place : ℕ) → AreClosed b.parts → ArePartsElsewhere g place → AreSameBut (λ c. c / 2 ≡ place) marks other → ((c : ℕ) → c / 2 ≡ place → AreSettledAt b g marks c) → (c : ℕ) → c / 2 ≡ place → AreSettledAt b g other c
  settled_around b marks other place closed elsewhere same settled c here =
      lowered_settled g b b marks other (λ d. d / 2 ≡ place) (but_same (λ d. d / 2 ≡ place) b) same closed c (place_out g place c elsewhere here) (settled_low b g marks c (settled c here))

  -- so the table is one of bounds
  pub bounds_around : (b : BoundsState) (marks : List (Option Mark)) (still : List Bool) (place : ℕ) → IsGraph g → (pats : List Pattern) → BoundsFit b pats g → slice_index_or still place false ≡ false → ((c : ℕ) → c / 2 ≡ place → AreSettledAt b g marks c) → ((c : ℕ) → c / 2 ≡ place → ArePartsStill g still c) → AreZeroOrSettled g (state b marks) still → AreBoundsAround b g marks place
  bounds_around b marks still place graph pats fits moves settled parts are other same =
      numbers_bound (state b other) still graph pats fits (numbers_kept (state b marks) (state b other) still place fits.rows.closed moves (record { table = but_same (λ c. c / 2 ≡ place) b; marks = same }) (settled_around b marks other place fits.rows.closed (parts_elsewhere g still place moves parts) same settled) parts are)

  -- numbers that are all 0
  pub numbers_zero : (b : BoundsState) (marks : List (Option Mark)) (still : List Bool) → AreRows b.parts b.starts b.numbers g → AreZero b.numbers → AreZeroOrSettled g (state b marks) still
  numbers_zero b marks still rows zero c = elim (zero_or_bare b g c rows.bare zero) [
    | inl at ↦ inl at
    | inr bare ↦ inr (λ n below p x y listed h. absurd (nothing bare x y h), λ x y h. absurd (nothing bare x y h))
  ]
    where
      nothing : slice_index_or g.pairs c [] ≡ [] → (x y : ℕ) → HoldsPair g c x y → ⊥
      nothing bare x y (inl h) = let (k, lt, f) = subst (λ ps. Contains ps (record { x = x; y = y })) bare h in omega (arith, lt)
      nothing bare x y (inr h) = let (k, lt, f) = subst (λ ps. Contains ps (record { x = y; y = x })) bare h in omega (arith, lt)

-- both classes of a place are bounded
pub bounded_pair : (g : Graph) (cost : Cost) (pats : List Pattern) (marks : List (Option Mark)) (place a b : ℕ) → a / 2 ≡ place → b ≡ flip a → IsBounded g cost pats marks a → IsBounded g cost pats marks b → (c : ℕ) → c / 2 ≡ place → IsBounded g cost pats marks c
bounded_pair g cost pats marks place a b at flipped one other c here = elim (of_pair place a b c at flipped here) [
  | inl e ↦ subst (IsBounded g cost pats marks) (sym e) one
  | inr e ↦ subst (IsBounded g cost pats marks) (sym e) other
]

-- a place that is visited once: its numbers are set, and its labels are sought
module _ (g : Graph) (cost : Cost) (pats : List Pattern) (old new : BoundsState) (marks : List (Option Mark)) (tops : TopsState) (v : VisitState) (place : ℕ) (first : IsFirstRound g cost pats v (state old marks) tops) (ready : IsReady g v place) (set : AreSetAt g marks place old new) where
  falling : AreFalling g cost pats (state old marks) tops v.still
  falling = first.round.falling

  set_search : IsSearch g cost pats new tops marks
  set_search = search_but g cost pats (λ c. c / 2 ≡ place) old new tops marks set.others falling.search

  set_numbers : AreZeroOrSettled g (state new marks) v.still
  set_numbers = numbers_kept g (state old marks) (state new marks) v.still place falling.search.sought.fits.rows.closed ready.moving (record { table = set.others; marks = λ c out. refl }) set.settled ready.parts first.numbers

  pub set_around : IsSearchAround g cost pats new tops marks place
  set_around = record {
    search = set_search;
    around = bounds_around g new marks v.still place falling.graph pats set_search.sought.fits ready.moving set.settled ready.parts set_numbers;
  }

  module _ (others : List (Option Mark)) (later : TopsState) (search : IsSearch g cost pats new later others) (same : AreSameBut (λ c. c / 2 ≡ place) marks others) where
    found_settled : (c : ℕ) → c / 2 ≡ place → AreSettledAt new g others c
    found_settled = settled_around g new marks others place search.sought.fits.rows.closed (parts_elsewhere g v.still place ready.moving ready.parts) same set.settled

    found_kept : AreLabelsStill g cost pats (state new others) v.still
    found_kept = labels_still_kept g cost pats search.sought.of_cells (λ c. c / 2 ≡ place) (state old marks) (state new others) v.still falling.search.sought.fits.rows.closed (still_elsewhere v.still place ready.moving) (record { table = set.others; marks = same }) falling.kept

    found_numbers : AreZeroOrSettled g (state new others) v.still
    found_numbers = numbers_kept g (state new marks) (state new others) v.still place search.sought.fits.rows.closed ready.moving (record { table = but_same (λ c. c / 2 ≡ place) new; marks = same }) found_settled ready.parts set_numbers

    pub found_round : IsFirstRound g cost pats v (state new others) later
    found_round = record {
      round = record { places = first.round.places; falling = record { graph = falling.graph; search = search; kept = found_kept } };
      numbers = found_numbers;
    }

    -- the place has become still
    pub kept_round : (next : VisitState) → AreVisitsAfter g place v next → ((c : ℕ) → c / 2 ≡ place → IsBounded g cost pats others c) → IsFirstRound g cost pats next (state new others) later
    kept_round next after bounded = record {
      round = record {
        places = after.places ∙ first.round.places;
        falling = record {
          graph = falling.graph;
          search = search;
          kept = labels_still_more g cost pats (state new others) place v.still next.still after.still found_settled bounded found_kept;
        };
      };
      numbers = numbers_more g (state new others) place v.still next.still after.still falling.kept.parts found_numbers;
    }
