-- Passes that find heights.
use Rattle.std.proofs.Common.{ℕ, zero, suc, ◌+◌, ◌<◌, ◌≤◌, ◌^◌, ◌-◌, ◌≡◌, ◌⊎◌, inl, inr, Bool, false, List, [], ◌∷◌, length, Option, Some, None, option_map, slice_get, slice_index_or, slice_set, replicate, refl, ap, ap₂, sym, ◌∙◌, subst, arith}
use Rattle.std.specs.List.{AllByRecursion, AllZip}
use Rattle.std.proofs.lemmas.List.{length-set, length-map, length-replicate}
use Rattle.std.proofs.lemmas.Bool.{cases_eq}
use Rattle.std.proofs.lemmas.Option.{same_Some, none-some, slice_get_within}
use Rattle.lw_laws.specs.Graphs.{Graph}
use Rattle.lw_laws.specs.Costs.{Cost}
use Rattle.lw_laws.specs.Covers.{Pattern}
use Rattle.lw_laws.specs.Choices.{Attains, IsHeight}
use Rattle.lw_laws.specs.Matches.{IsLeastCover, choices_of}
use Rattle.lw_laws.specs.Marks.{Mark as PlainMark, HaveMarks, costs_in, greatest_height}
use Rattle.lw_laws.specs.Rounds.{labels_in}
use Rattle.lw_laws.specs.Mapped.{IsPotentialOf}
use Rattle.lw_laws.specs.Laws.{IsCoverProblem, IsAttainedIn, AreBoundedIn}
use Rattle.lw_laws.proofs.Heights.{IsWithin_more}
use Rattle.lw_laws.proofs.RoundLaws.{bounded_least, labels_capped, match_in}
use Rattle.lw_laws.proofs.LabelLaws.{class_height}
use Rattle.lw_graph.specs.Graphs.{IsGraph}
use Rattle.lw_cost.specs.Values.{marks_in, plain_mark, AreInRange}
use Rattle.lw_cost.specs.declared.mark.Mark.{Mark}
use Rattle.lw_cost.specs.Labels.{marked, AreLeastMarks, cost_in, costs_of}
use Rattle.lw_label.specs.Heights.{height_weight, heights_weight, AreHeightMarks, HasHeightAtMost, IsReached, IsWithinSteps, LowersHeights, TakesHeight, height_limit}
use Rattle.lw_bounds.specs.Bounds.{AreBounds, BoundsState}
use Rattle.lw_label.specs.Lowering.{AreLowering}
use Rattle.lw_cost.specs.declared.mark.Best.{Best}
use Rattle.lw_match.specs.Cutting.{IsFloor}
use Rattle.lw_cost.specs.Least.{IsLeastBelow, IsMarkBefore, IsPricedAt, Priced, plain_best}
use Rattle.lw_bounds.proofs.Settled.{bounds_of_fewer}
use Rattle.lw_label.proofs.Falling.{graph_classes, not_below}
use Rattle.lw_cost.proofs.MarksAsLabels.{label_at, label_of_mark, mark_of_label, mark_set_other, mark_set_same, marked_more, marked_most, priced, standing}

pub none_marked : (n c : ℕ) (m : PlainMark) → marks_in (replicate n None) c ≡ Some m → ⊥
none_marked zero c m e = absurd (none-some m e)
none_marked (suc n) zero m e = absurd (none-some m e)
none_marked (suc n) (suc c) m e = none_marked n c m e

mark_set_at : (marks : List (Option Mark)) (c : ℕ) (m : Option Mark) → c < length marks → marks_in (slice_set marks c m) c ≡ option_map plain_mark m
mark_set_at (o ∷ marks) zero m below = refl
mark_set_at (o ∷ marks) (suc c) m below = mark_set_at marks c m (omega arith)
mark_set_at [] c m below = absurd (omega arith)

-- lists with the same entries
same_lists : (xs ys : List (Option ℕ)) → length xs ≡ length ys → ((i : ℕ) → slice_index_or xs i None ≡ slice_index_or ys i None) → xs ≡ ys
same_lists [] [] e at = refl
same_lists [] (y ∷ ys) e at = absurd (omega arith)
same_lists (x ∷ xs) [] e at = absurd (omega arith)
same_lists (x ∷ xs) (y ∷ ys) e at = ap₂ (λ a as'. a ∷ as') (at 0) (same_lists xs ys (omega arith) (λ i. at (suc i)))

-- a class with a mark gets another
pub marked_same : (marks : List (Option Mark)) (c : ℕ) (old new : Mark) → slice_index_or marks c None ≡ Some old → marked (slice_set marks c (Some new)) ≡ marked marks
marked_same [] c old new e = absurd (none-some old e)
marked_same (None ∷ marks) zero old new e = absurd (none-some old e)
marked_same (Some m ∷ marks) zero old new e = refl
marked_same (None ∷ marks) (suc c) old new e = marked_same marks c old new e
marked_same (Some m ∷ marks) (suc c) old new e = ap suc (marked_same marks c old new e)

pub heights_fall : (marks : List (Option Mark)) (c : ℕ) (new : Mark) → c < length marks → new.height < height_weight (slice_index_or marks c None) → heights_weight (slice_set marks c (Some new)) < heights_weight marks
heights_fall (m ∷ marks) zero new below lt = let less : new.height + heights_weight marks < height_weight m + heights_weight marks = omega (arith, lt) in less
heights_fall (m ∷ marks) (suc c) new below lt =
    let ih = heights_fall marks c new (omega arith) lt in
    let less : height_weight m + heights_weight (slice_set marks c (Some new)) < height_weight m + heights_weight marks = omega (arith, ih) in less
heights_fall [] c new below lt = absurd (omega arith)

module _ (g : Graph) (cost : Cost) (pats : List Pattern) (labels : List (Option Mark)) where
  abbrev L : ℕ → Option ℕ
  L = labels_in (costs_of labels)

  -- the pins of a match whose pins have marks: they have labels, and are within the greatest height
  pins_labelled : (marks : List (Option Mark)) → AreHeightMarks g cost pats labels marks → (ps : List ℕ) (ms : List PlainMark) → HaveMarks (marks_in marks) ps ms → AllZip (λ p l. L p ≡ Some l) ps (costs_in ms)
  pins_labelled marks are [] [] a = tt
  pins_labelled marks are [] (m ∷ ms) a = absurd a
  pins_labelled marks are (p ∷ ps) [] a = absurd a
  pins_labelled marks are (p ∷ ps) (m ∷ ms) (e, a) = (are.costs p m e, pins_labelled marks are ps ms a)

  pins_within : (marks : List (Option Mark)) → AreHeightMarks g cost pats labels marks → (h : ℕ) (ps : List ℕ) (ms : List PlainMark) → HaveMarks (marks_in marks) ps ms → greatest_height ms ≤ h → AllByRecursion (λ p. IsWithinSteps g cost pats labels p h) ps
  pins_within marks are h [] ms a le = tt
  pins_within marks are h (p ∷ ps) [] a le = absurd a
  pins_within marks are h (p ∷ ps) (m ∷ ms) (e, a) le = (IsWithin_more (choices_of g cost.pin_counts pats) cost L m.height h (omega arith) p (are.within p m e), pins_within marks are h ps ms a (omega arith))

  heights_low : (marks : List (Option Mark)) → AreHeightMarks g cost pats labels marks → (ps : List ℕ) (ms : List PlainMark) → HaveMarks (marks_in marks) ps ms → greatest_height ms ≤ marked marks
  heights_low marks are [] [] a = omega arith
  heights_low marks are [] (m ∷ ms) a = absurd a
  heights_low marks are (p ∷ ps) [] a = absurd a
  heights_low marks are (p ∷ ps) (m ∷ ms) (e, a) = let low = are.low p m e in let rest = heights_low marks are ps ms a in omega (arith, low, rest)

  -- marks of heights heights are in range
  pub heights_in_range : (marks : List (Option Mark)) → IsCoverProblem g pats cost → IsGraph g → AreLowering g cost pats labels → AreHeightMarks g cost pats labels marks → AreInRange cost.cap marks
  heights_in_range marks problem is low are c m e =
      let most = marked_most marks in
      let height = are.low c m e in
      (labels_capped g pats cost (costs_of labels) problem low.sound.attained c m.cost (are.costs c m e), omega (arith, height, most, are.one_each, is.few, is.even))

  -- a table of bounds for the labels is one for the marks so far
  pub heights_bounds : (b : BoundsState) (marks : List (Option Mark)) → AreBounds b g labels → AreHeightMarks g cost pats labels marks → AreBounds b g marks
  heights_bounds b marks bounds are = bounds_of_fewer b g labels marks bounds (λ c m e. mark_of_label labels c m.cost (are.costs c m e))

  -- A class gets the height of the best match.
  module _ (marks : List (Option Mark)) (are : AreHeightMarks g cost pats labels marks) (c : ℕ) (best : Best) (below : c < length marks) (priced_at : IsPricedAt g cost pats (marks_in marks) c (plain_best best)) (label : L c ≡ Some best.mark.cost) where
    value_is : best.mark.cost ≡ cost.value priced_at.pattern.cell (costs_in priced_at.pin_marks)
    value_is = ap (λ (k : PlainMark). k.cost) priced_at.mark

    height_is : best.mark.height ≡ suc (greatest_height priced_at.pin_marks)
    height_is = ap (λ (k : PlainMark). k.height) priced_at.mark

    best_attains : Attains (choices_of g cost.pin_counts pats) cost L c priced_at.pattern.cell (plain_best best).found.pins
    best_attains = record {
      stands = standing g cost pats (marks_in marks) c (plain_best best) priced_at;
      pin_labels = costs_in priced_at.pin_marks;
      have = pins_labelled marks are (plain_best best).found.pins priced_at.pin_marks priced_at.have;
      value = label ∙ ap (λ n. Some n) value_is;
    }

    best_within : IsWithinSteps g cost pats labels c best.mark.height
    best_within = subst (λ h. IsWithinSteps g cost pats labels c h) (sym height_is) (inr (priced_at.pattern.cell, (plain_best best).found.pins, best_attains, pins_within marks are (greatest_height priced_at.pin_marks) (plain_best best).found.pins priced_at.pin_marks priced_at.have (omega arith)))

    best_low : best.mark.height ≤ marked marks + 1
    best_low = let low = heights_low marks are (plain_best best).found.pins priced_at.pin_marks priced_at.have in omega (arith, low, height_is)

    module _ (shorter : best.mark.height < height_weight (slice_index_or marks c None)) where
      marked_next : (marked marks ≤ marked (slice_set marks c (Some best.mark))) × (best.mark.height ≤ marked (slice_set marks c (Some best.mark)))
      marked_next = by_mark (slice_index_or marks c None) refl
        where
          by_mark : (o : Option Mark) → slice_index_or marks c None ≡ o → (marked marks ≤ marked (slice_set marks c (Some best.mark))) × (best.mark.height ≤ marked (slice_set marks c (Some best.mark)))
          by_mark None s = let more = marked_more marks c best.mark below s in (omega (arith, more), omega (arith, more, best_low))
          by_mark (Some old) s =
              let same = marked_same marks c old best.mark s in
              let lower : best.mark.height < old.height = subst (λ o. best.mark.height < height_weight o) s shorter in
              let low : old.height ≤ marked marks = are.low c (plain_mark old) (ap (option_map plain_mark) s) in
              (omega (arith, same), omega (arith, same, lower, low))

      set_at : (b : ℕ) → b ≡ c → marks_in (slice_set marks c (Some best.mark)) b ≡ Some (plain_mark best.mark)
      set_at b same = ap (λ n. marks_in (slice_set marks c (Some best.mark)) n) same ∙ mark_set_same marks c best.mark below

      by_class : (P : ℕ → PlainMark → Type 0) → P c (plain_mark best.mark) → ((b : ℕ) (m : PlainMark) → marks_in marks b ≡ Some m → P b m) → (b : ℕ) (m : PlainMark) → marks_in (slice_set marks c (Some best.mark)) b ≡ Some m → P b m
      by_class P here there b m e = at_class (cases_eq b c)
        where
          at_class : (b ≡ c) ⊎ (b ≡ c → ⊥) → P b m
          at_class (inl same) = subst (λ n. P n m) (sym same) (subst (λ k. P c k) (same_Some (plain_mark best.mark) m (sym (set_at b same) ∙ e)) here)
          at_class (inr other) = there b m (sym (mark_set_other marks c b (Some best.mark) other) ∙ e)

      pub lowered : AreHeightMarks g cost pats labels (slice_set marks c (Some best.mark))
      lowered = record {
        one_each = length-set marks c (Some best.mark) ∙ are.one_each;
        costs = by_class (λ b m. L b ≡ Some m.cost) label are.costs;
        within = by_class (λ b m. IsWithinSteps g cost pats labels b m.height) best_within are.within;
        inputs = λ i b at. input_at b (are.inputs i b at) (cases_eq b c);
        low = by_class (λ b m. m.height ≤ marked (slice_set marks c (Some best.mark))) marked_next.1 (λ b m e. let low = are.low b m e in let more = marked_next.0 in omega (arith, low, more));
      }
        where
          input_at : (b : ℕ) → HasHeightAtMost marks b 0 → (b ≡ c) ⊎ (b ≡ c → ⊥) → HasHeightAtMost (slice_set marks c (Some best.mark)) b 0
          input_at b (m, e, low) (inl same) =
              let mine : marks_in marks c ≡ Some m = ap (λ n. marks_in marks n) (sym same) ∙ e in
              by_mark (slice_index_or marks c None) refl mine
            where
              by_mark : (o : Option Mark) → slice_index_or marks c None ≡ o → marks_in marks c ≡ Some m → HasHeightAtMost (slice_set marks c (Some best.mark)) b 0
              by_mark None s f = absurd (none-some m (sym (ap (option_map plain_mark) s) ∙ f))
              by_mark (Some old) s f =
                  let lower : best.mark.height < old.height = subst (λ o. best.mark.height < height_weight o) s shorter in
                  let is : old.height ≡ m.height = ap (λ (k : PlainMark). k.height) (same_Some (plain_mark old) m (sym (ap (option_map plain_mark) s) ∙ f)) in
                  absurd (omega (arith, lower, is, low))
          input_at b (m, e, low) (inr other) = (m, mark_set_other marks c b (Some best.mark) other ∙ e, low)

  -- the label of a class is not above the cost of a match
  pub label_at_most : (marks : List (Option Mark)) → AreHeightMarks g cost pats labels marks → AreBoundedIn g pats cost (costs_of labels) → (c l : ℕ) (b : Priced) → L c ≡ Some l → IsPricedAt g cost pats (marks_in marks) c b → l ≤ b.mark.cost
  label_at_most marks are bounded c l b label is =
      let (k, at, low) = bounded c is.pattern.cell b.found.pins (costs_in is.pin_marks) (standing g cost pats (marks_in marks) c b is) (pins_labelled marks are b.found.pins is.pin_marks is.have) in
      let value : b.mark.cost ≡ cost.value is.pattern.cell (costs_in is.pin_marks) = ap (λ (m : PlainMark). m.cost) is.mark in
      let same : l ≡ k = same_Some l k (sym label ∙ at) in
      omega (arith, low, value, same)

  -- so it is a floor
  pub label_is_floor : (marks : List (Option Mark)) → IsCoverProblem g pats cost → AreLowering g cost pats labels → AreHeightMarks g cost pats labels marks → AreBoundedIn g pats cost (costs_of labels) → (c l : ℕ) → L c ≡ Some l → IsFloor g cost pats (marks_in marks) c l
  label_is_floor marks problem low are bounded c l label = record {
    capped = labels_capped g pats cost (costs_of labels) problem low.sound.attained c l label;
    below = λ b is. label_at_most marks are bounded c l b label is;
  }

  -- A class whose height stays.
  pub reached_unlabelled : (marks : List (Option Mark)) (c : ℕ) → L c ≡ None → IsReached g cost pats labels marks c
  reached_unlabelled marks c none cell ps ms m have label = absurd (none-some (cost.value cell (costs_in ms)) (sym none ∙ label))

  -- the height of a match whose pins have marks, where some class has none
  low_height : (marks : List (Option Mark)) → AreHeightMarks g cost pats labels marks → IsGraph g → (c : ℕ) → c < length marks → slice_index_or marks c None ≡ None → (ps : List ℕ) (ms : List PlainMark) → HaveMarks (marks_in marks) ps ms → suc (greatest_height ms) < 2 ^ 32 - 1
  low_height marks are is c below none ps ms have =
      let new : Mark = record { cost = 0; height = 0 } in
      let low = heights_low marks are ps ms have in
      let more = marked_more marks c new below none in
      let most = marked_most (slice_set marks c (Some new)) in
      let same = length-set marks c (Some new) in
      omega (arith, low, more, most, same, are.one_each, is.few, is.even)

  module _ (marks : List (Option Mark)) (are : AreHeightMarks g cost pats labels marks) (c l : ℕ) (bound : PlainMark) (label : L c ≡ Some l) (same_cost : bound.cost ≡ l) (same_height : bound.height ≡ height_limit (slice_index_or marks c None)) where
    pub reached_under : IsGraph g → c < length marks → IsLeastBelow g cost pats (marks_in marks) c bound None → IsReached g cost pats labels marks c
    reached_under is below none cell ps ms m have attained =
        let (b, at, e) = priced g cost pats (marks_in marks) c cell ps ms m have in
        let value : b.mark.cost ≡ cost.value cell (costs_in ms) = ap (λ (k : PlainMark). k.cost) e in
        let height : b.mark.height ≡ suc (greatest_height ms) = ap (λ (k : PlainMark). k.height) e in
        let same : cost.value cell (costs_in ms) ≡ l = same_Some (cost.value cell (costs_in ms)) l (sym attained ∙ label) in
        let equal : b.mark.cost ≡ bound.cost = omega (arith, value, same, same_cost) in
        let high = not_below b.mark.height bound.height (λ lt. none b at (inr (equal, lt))) in
        by_mark (slice_index_or marks c None) refl (omega (arith, high, height))
      where
        by_mark : (o : Option Mark) → slice_index_or marks c None ≡ o → bound.height ≤ suc (greatest_height ms) → HasHeightAtMost marks c (suc (greatest_height ms))
        by_mark None s high =
            let low = low_height marks are is c below s ps ms have in
            let limit : bound.height ≡ 2 ^ 32 - 1 = same_height ∙ ap height_limit s in
            absurd (omega (arith, low, limit, high))
        by_mark (Some old) s high =
            let limit : bound.height ≡ old.height = same_height ∙ ap height_limit s in
            (plain_mark old, ap (option_map plain_mark) s, omega (arith, limit, high))

    pub attains_under : AreBoundedIn g pats cost (costs_of labels) → (best : Best) → IsPricedAt g cost pats (marks_in marks) c (plain_best best) → IsMarkBefore (plain_mark best.mark) bound → (L c ≡ Some best.mark.cost) × (best.mark.height < height_weight (slice_index_or marks c None))
    attains_under bounded best is before = by_order before (label_at_most marks are bounded c l (plain_best best) label is)
      where
        within_limit : (o : Option Mark) → best.mark.height < height_limit o → best.mark.height < height_weight o
        within_limit None lt = omega arith
        within_limit (Some old) lt = lt

        by_order : IsMarkBefore (plain_mark best.mark) bound → l ≤ best.mark.cost → (L c ≡ Some best.mark.cost) × (best.mark.height < height_weight (slice_index_or marks c None))
        by_order (inl lt) low = absurd (omega (arith, lt, low, same_cost))
        by_order (inr (e, lt)) low =
            let same : l ≡ best.mark.cost = sym same_cost ∙ sym e in
            (label ∙ ap (λ n. Some n) same, within_limit (slice_index_or marks c None) (subst (λ h. best.mark.height < h) same_height lt))

  -- a class that keeps its height
  pub heights_at : (marks new : List (Option Mark)) (c : ℕ) (changed : Bool) → TakesHeight g cost pats labels marks new changed → (changed ≡ false → IsReached g cost pats labels marks c) → LowersHeights g cost pats labels marks new (λ b. b ≡ c) changed
  heights_at marks new c changed takes reached = record {
    falls = takes.falls;
    same = takes.same;
    still = λ e b at. subst (λ a. IsReached g cost pats labels marks a) (sym at) (reached e);
  }

  pub heights_any : (marks new : List (Option Mark)) (changed : Bool) → TakesHeight g cost pats labels marks new changed → LowersHeights g cost pats labels marks new (λ b. ⊥) changed
  heights_any marks new changed takes =
      record { falls = takes.falls; same = takes.same; still = λ e b none. absurd none }

  -- Once no height can be lowered, each class with a label has its height.
  module _ (marks : List (Option Mark)) (problem : IsCoverProblem g pats cost) (graph : IsGraph g) (low : AreLowering g cost pats labels) (bounded : AreBoundedIn g pats cost (costs_of labels)) (are : AreHeightMarks g cost pats labels marks) (reached : (c : ℕ) → c < length g.pairs → IsReached g cost pats labels marks c) where
    -- the marks of pins that are within some steps
    marks_within : (h : ℕ) → ((c : ℕ) → IsWithinSteps g cost pats labels c h → HasHeightAtMost marks c h) → (ps ls : List ℕ) → AllZip (λ p l. L p ≡ Some l) ps ls → AllByRecursion (λ p. IsWithinSteps g cost pats labels p h) ps → (ms : List PlainMark) × HaveMarks (marks_in marks) ps ms × (costs_in ms ≡ ls) × (greatest_height ms ≤ h)
    marks_within h ih [] [] a w = ([], tt, refl, omega arith)
    marks_within h ih [] (l ∷ ls) a w = absurd a
    marks_within h ih (p ∷ ps) [] a w = absurd a
    marks_within h ih (p ∷ ps) (l ∷ ls) (e, a) (w, ws) =
        let (m, at, le) = ih p w in
        let (ms, have, same, most) = marks_within h ih ps ls a ws in
        let cost_is : m.cost ≡ l = same_Some m.cost l (sym (are.costs p m at) ∙ e) in
        (m ∷ ms, (at, have), ap₂ (λ x xs. x ∷ xs) cost_is same, omega (arith, le, most))

    known : (h c : ℕ) → IsWithinSteps g cost pats labels c h → HasHeightAtMost marks c h
    known zero c (i, at) = are.inputs i c at
    known (suc h) c (inl (i, at)) = let (m, e, le) = are.inputs i c at in (m, e, omega (arith, le))
    known (suc h) c (inr (cell, ps, attains, ws)) =
        let (ms, have, same, most) = marks_within h (known h) ps attains.pin_labels attains.have ws in
        let below = match_in g pats cost (costs_of labels) (graph_classes g cost pats labels graph low.one_each) c cell ps attains.pin_labels attains.stands attains.have in
        let count : length (costs_of labels) ≡ length labels = length-map labels cost_in in
        let inside : c < length g.pairs = omega (arith, below, count, low.one_each) in
        let (m, e, le) = reached c inside cell ps ms attains.stands have (attains.value ∙ ap (λ v. Some (cost.value cell v)) (sym same)) in
        (m, e, omega (arith, le, most))

    least_labels : IsPotentialOf g pats cost (costs_of labels) × IsAttainedIn g pats cost (costs_of labels) × ((c : ℕ) → IsLeastCover g pats cost c (L c))
    least_labels = bounded_least g pats cost (costs_of labels) problem low.sound bounded

    label_is : (c : ℕ) → labels_in (costs_of marks) c ≡ L c
    label_is c = by_mark (marks_in marks c) refl
      where
        by_mark : (o : Option PlainMark) → marks_in marks c ≡ o → labels_in (costs_of marks) c ≡ L c
        by_mark (Some m) e = label_of_mark marks c m e ∙ sym (are.costs c m e)
        by_mark None e = by_label (L c) refl
          where
            by_label : (o : Option ℕ) → L c ≡ o → labels_in (costs_of marks) c ≡ L c
            by_label None f = label_at marks c ∙ (ap (option_map (λ (k : PlainMark). k.cost)) e ∙ sym f)
            by_label (Some l) f =
                let (h, height) = class_height g pats cost (costs_of labels) problem least_labels.0 least_labels.1 c l f in
                let (m, at, le) = known h c height.within in
                absurd (none-some m (sym e ∙ at))

    same_labels : costs_of marks ≡ costs_of labels
    same_labels = same_lists (costs_of marks) (costs_of labels) (length-map marks cost_in ∙ (are.one_each ∙ (sym low.one_each ∙ sym (length-map labels cost_in)))) label_is

    pub heights_found : AreLeastMarks g cost pats marks
    heights_found = record {
      one_each = are.one_each;
      least = λ c. subst (λ o. IsLeastCover g pats cost c o) (sym (label_is c)) (least_labels.2 c);
      potential = subst (λ ls. IsPotentialOf g pats cost ls) (sym same_labels) least_labels.0;
      heights = λ c m e. subst (λ ls. IsHeight (choices_of g cost.pin_counts pats) cost (labels_in ls) c m.height) (sym same_labels) (record {
        within = are.within c m e;
        least = λ k w. let (j, at, le) = known k c w in let same : j.height ≡ m.height = ap (λ (z : PlainMark). z.height) (same_Some j m (sym at ∙ e)) in omega (arith, le, same);
      });
      in_range = heights_in_range marks problem graph low are;
    }

-- The inputs' classes with their labels.
module _ (g : Graph) (labels : List (Option Mark)) where
  pub record AreStarted (count : ℕ) (marks : List (Option Mark)) : Type 0 where
    pub one_each : length marks ≡ length g.pairs
    pub only : (c : ℕ) (m : PlainMark) → marks_in marks c ≡ Some m → (marks_in labels c ≡ Some m) × ((i : ℕ) × (slice_get g.leaves i ≡ Some c))
    pub given : (i c : ℕ) → i < count → slice_get g.leaves i ≡ Some c → marks_in marks c ≡ marks_in labels c

  pub heights_start : (marks : List (Option Mark)) → marks ≡ replicate (length g.pairs) None → AreStarted 0 marks
  heights_start marks e = subst (λ ms. AreStarted 0 ms) (sym e) (record {
    one_each = length-replicate (length g.pairs) None;
    only = λ c m s. absurd (none_marked (length g.pairs) c m s);
    given = λ i c below at. absurd (omega arith);
  })

  pub heights_give : (i c : ℕ) (marks : List (Option Mark)) (new : Option Mark) → slice_get g.leaves i ≡ Some c → c < length marks → AreStarted i marks → new ≡ slice_index_or labels c None → AreStarted (i + 1) (slice_set marks c new)
  heights_give i c marks new leaf below are is = record {
    one_each = length-set marks c new ∙ are.one_each;
    only = λ b m e. only_at b m e (cases_eq b c);
    given = λ j b lt at. given_at j b lt at (cases_eq b c) (cases_eq j i);
  }
    where
      set_at : (b : ℕ) → b ≡ c → marks_in (slice_set marks c new) b ≡ marks_in labels b
      set_at b same = ap (λ n. marks_in (slice_set marks c new) n) same ∙ (mark_set_at marks c new below ∙ (ap (option_map plain_mark) is ∙ ap (λ n. marks_in labels n) (sym same)))

      only_at : (b : ℕ) (m : PlainMark) → marks_in (slice_set marks c new) b ≡ Some m → (b ≡ c) ⊎ (b ≡ c → ⊥) → (marks_in labels b ≡ Some m) × ((k : ℕ) × (slice_get g.leaves k ≡ Some b))
      only_at b m e (inl same) = (sym (set_at b same) ∙ e, (i, leaf ∙ ap (λ n. Some n) (sym same)))
      only_at b m e (inr other) = are.only b m (sym (mark_set_other marks c b new other) ∙ e)

      given_at : (j b : ℕ) → j < i + 1 → slice_get g.leaves j ≡ Some b → (b ≡ c) ⊎ (b ≡ c → ⊥) → (j ≡ i) ⊎ (j ≡ i → ⊥) → marks_in (slice_set marks c new) b ≡ marks_in labels b
      given_at j b lt at (inl same) either = set_at b same
      given_at j b lt at (inr other) (inl is) = absurd (other (same_Some b c (sym at ∙ (ap (λ n. slice_get g.leaves n) is ∙ leaf))))
      given_at j b lt at (inr other) (inr before) = mark_set_other marks c b new other ∙ are.given j b (omega arith) at

  pub heights_started : (cost : Cost) (pats : List Pattern) (count : ℕ) (marks : List (Option Mark)) → length g.leaves ≤ count → AreStarted count marks → AreLowering g cost pats labels → AreHeightMarks g cost pats labels marks
  heights_started cost pats count marks all are low = record {
    one_each = are.one_each;
    costs = λ c m e. label_of_mark labels c m (are.only c m e).0;
    within = λ c m e. let (at, (i, leaf)) = are.only c m e in subst (λ h. IsWithinSteps g cost pats labels c h) (sym (low.flat c m at)) (i, leaf);
    inputs = λ i c leaf.
        let inside = slice_get_within g.leaves i c leaf in
        let (l, label, le) = low.sound.inputs c i leaf in
        let (m, at, same) = mark_of_label labels c l label in
        let flat = low.flat c m at in
        (m, are.given i c (omega (arith, inside, all)) leaf ∙ at, omega (arith, flat));
    low = λ c m e. let flat = low.flat c m (are.only c m e).0 in omega (arith, flat);
  }
