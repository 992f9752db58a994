-- Passes that lower labels.
use Rattle.std.proofs.Common.{ℕ, zero, suc, ◌+◌, ◌<◌, ◌≤◌, ◌≡◌, ◌%◌, ◌⊎◌, inl, inr, Bool, true, false, IsTrue, IsFalse, List, [], ◌∷◌, length, Option, Some, None, option_map, slice_index_or, slice_set, refl, ap, sym, ◌∙◌, subst, arith, true≢false}
use Rattle.std.proofs.lemmas.List.{length-set, length-map}
use Rattle.std.proofs.lemmas.Bool.{cases_eq}
use native.Mathlib.Decide.{dec_lt}
use Rattle.lw_laws.specs.Graphs.{Graph}
use Rattle.lw_laws.specs.Costs.{Cost}
use Rattle.lw_laws.specs.Covers.{Pattern}
use Rattle.lw_laws.specs.Choices.{HaveLabels}
use Rattle.lw_laws.specs.Matches.{IsMatchAt}
use Rattle.lw_laws.specs.Marks.{Mark as PlainMark, costs_in}
use Rattle.lw_laws.specs.Rounds.{labels_in, label_weight, total_weight}
use Rattle.lw_laws.specs.Laws.{IsCoverProblem, AreSoundIn, AreBoundedIn, HasClasses}
use Rattle.lw_graph.specs.Graphs.{IsGraph}
use Rattle.lw_laws.proofs.Rounds.{total_weight_falls}
use Rattle.lw_laws.proofs.RoundLaws.{lowered_sound, values_capped, match_in}
use Rattle.std.proofs.lemmas.Option.{same_Some}
use Rattle.lw_cost.specs.declared.mark.Best.{Best}
use Rattle.lw_cost.specs.declared.mark.Mark.{Mark}
use Rattle.lw_cost.specs.Values.{plain_mark, marks_in}
use Rattle.lw_bounds.specs.Bounds.{BoundsState, BoundsFit, AreBounds, AreSettledAt, bounds_weight}
use Rattle.lw_match.specs.Cutting.{IsBeforeBound, IsLeastWithin}
use Rattle.lw_cost.specs.Least.{Priced, plain_best, IsPricedAt, IsPricedAtMost, IsLeastMatch}
use Rattle.lw_bounds.proofs.Settled.{settled_bounds_are_bounds}
use Rattle.lw_cost.specs.Labels.{cost_in, costs_of}
use Rattle.lw_label.specs.Lowering.{AreLowering, LabelState, state, state_weight, weight, IsBounded, IsLabelled, Lowers, Takes}
use Rattle.lw_label.specs.Passes.{Passes}
use Rattle.lw_label.proofs.Passing.{passes_lower}
use Rattle.lw_cost.proofs.MarksAsLabels.{label_of_mark, labels_of_marks, marks_of_labels, costs_set, mark_set_same, mark_set_other, priced, standing}

pub not_below : (m n : ℕ) → (m < n → ⊥) → n ≤ m
not_below m n not = cases (dec_lt m n)
  where
    cases : Dec (m < n) → n ≤ m
    cases (yes lt) = absurd (not lt)
    cases (no ge) = omega arith

-- no mark would be lower than that of the best match
pub at_most_cost : (a b : Priced) → IsPricedAtMost a b → a.mark.cost ≤ b.mark.cost
at_most_cost a b (inl lt) = omega arith
at_most_cost a b (inr (e, rest)) = omega arith

module _ (g : Graph) (cost : Cost) (pats : List Pattern) where
  pub bounded_without : (marks : List (Option Mark)) (c : ℕ) → IsLeastMatch g cost pats (marks_in marks) c None → IsBounded g cost pats marks c
  bounded_without marks c none cell ps ls m have =
      let (ms, with_marks, same) = marks_of_labels marks ps ls have in
      let (b, is, e) = priced g cost pats (marks_in marks) c cell ps ms m with_marks in
      absurd (none b is)

  pub bounded_under : (marks : List (Option Mark)) (c : ℕ) (o : Option Mark) → slice_index_or marks c None ≡ o → IsLeastWithin g cost pats (marks_in marks) c o None → IsBounded g cost pats marks c
  bounded_under marks c None at none cell ps ls m have = bounded_without marks c none cell ps ls m have
  bounded_under marks c (Some old) at none cell ps ls m have =
      let (ms, with_marks, same) = marks_of_labels marks ps ls have in
      let (b, is, e) = priced g cost pats (marks_in marks) c cell ps ms m with_marks in
      let value : b.mark.cost ≡ cost.value cell ls = ap (λ (k : PlainMark). k.cost) e ∙ ap (cost.value cell) same in
      let low : old.cost ≤ b.mark.cost = not_below b.mark.cost old.cost (λ lt. none b is (inl lt)) in
      (old.cost, label_of_mark marks c (plain_mark old) (ap (option_map plain_mark) at), omega (arith, low, value))

  -- a match whose mark is before that of the class, which has the height 0
  pub lower_under : (best : Mark) (o : Option Mark) → ((m : Mark) → o ≡ Some m → m.height ≡ 0) → IsBeforeBound o best → best.cost ≤ cost.cap → best.cost < label_weight cost.cap (cost_in o)
  lower_under best None flat before capped = let more : best.cost < suc cost.cap = omega (arith, capped) in more
  lower_under best (Some old) flat (inl lt) capped = lt
  lower_under best (Some old) flat (inr (e, lt)) capped = let zero_height = flat old refl in absurd (omega (arith, lt, zero_height))

  module _ (marks : List (Option Mark)) (c : ℕ) (best : Best) (problem : IsCoverProblem g pats cost) (low : AreLowering g cost pats marks) (below : c < length marks) (is : IsPricedAt g cost pats (marks_in marks) c (plain_best best)) where
    best_value : (plain_best best).mark.cost ≡ cost.value is.pattern.cell (costs_in is.pin_marks)
    best_value = ap (λ (k : PlainMark). k.cost) is.mark

    best_labels : HaveLabels (labels_in (costs_of marks)) (plain_best best).found.pins (costs_in is.pin_marks)
    best_labels = labels_of_marks marks (plain_best best).found.pins is.pin_marks is.have

    best_stands : IsMatchAt g cost.pin_counts pats c is.pattern.cell (plain_best best).found.pins
    best_stands = standing g cost pats (marks_in marks) c (plain_best best) is

    pub best_capped : best.mark.cost ≤ cost.cap
    best_capped = subst (λ v. v ≤ cost.cap) (sym best_value) (values_capped g pats cost (costs_of marks) c is.pattern.cell (plain_best best).found.pins (costs_in is.pin_marks) problem low.sound.attained best_stands best_labels)

    labels_fit : c < length (costs_of marks)
    labels_fit = let same : length (costs_of marks) ≡ length marks = length-map marks cost_in in omega arith

    module _ (new : Mark) (lt : best.mark.cost < label_weight cost.cap (labels_in (costs_of marks) c)) (same_cost : new.cost ≡ best.mark.cost) (no_height : new.height ≡ 0) where
      value_is : new.cost ≡ cost.value is.pattern.cell (costs_in is.pin_marks)
      value_is = same_cost ∙ best_value

      labels_set : costs_of (slice_set marks c (Some new)) ≡ slice_set (costs_of marks) c (Some (cost.value is.pattern.cell (costs_in is.pin_marks)))
      labels_set = costs_set marks c (Some new) ∙ ap (λ v. slice_set (costs_of marks) c (Some v)) value_is

      value_lower : cost.value is.pattern.cell (costs_in is.pin_marks) < label_weight cost.cap (labels_in (costs_of marks) c)
      value_lower = subst (λ v. v < label_weight cost.cap (labels_in (costs_of marks) c)) best_value lt

      pub lowered : AreLowering g cost pats (slice_set marks c (Some new))
      lowered = record {
        one_each = length-set marks c (Some new) ∙ low.one_each;
        sound = subst (λ ls. AreSoundIn g pats cost ls) (sym labels_set) (lowered_sound g pats cost (costs_of marks) c is.pattern.cell (plain_best best).found.pins (costs_in is.pin_marks) low.sound labels_fit best_stands best_labels value_lower);
        flat = λ b m e. flat_at b m e (cases_eq b c);
      }
        where
          flat_at : (b : ℕ) (m : PlainMark) → marks_in (slice_set marks c (Some new)) b ≡ Some m → (b ≡ c) ⊎ (b ≡ c → ⊥) → m.height ≡ 0
          flat_at b m e (inl same) = let same_mark : plain_mark new ≡ m = same_Some (plain_mark new) m (sym (mark_set_same marks c new below) ∙ (ap (λ n. marks_in (slice_set marks c (Some new)) n) (sym same) ∙ e)) in sym (ap (λ (k : PlainMark). k.height) same_mark) ∙ no_height
          flat_at b m e (inr other) = low.flat b m (sym (mark_set_other marks c b (Some new) other) ∙ e)

      pub weight_falls : weight cost (slice_set marks c (Some new)) < weight cost marks
      weight_falls = subst (λ ls. total_weight cost.cap ls < weight cost marks) (sym labels_set) (total_weight_falls cost.cap (costs_of marks) c (cost.value is.pattern.cell (costs_in is.pin_marks)) labels_fit value_lower)

  abbrev pub IsNumbered : LabelState → ℕ → Type 0
  IsNumbered s c = AreSettledAt s.bounds g s.marks c

  abbrev pub IsLow : LabelState → ℕ → Type 0
  IsLow s c = AreBounds s.bounds g s.marks → IsBounded g cost pats s.marks c

  -- the numbers of a class are renewed
  pub numbers_pass : (b next : BoundsState) (marks : List (Option Mark)) (c : ℕ) (renewed : Bool) → (IsTrue renewed → bounds_weight next < bounds_weight b) → (IsFalse renewed → next ≡ b) → (IsFalse renewed → AreSettledAt b g marks c) → Passes (state_weight cost) IsNumbered (state b marks) (state next marks) (λ n. n ≡ c) renewed
  numbers_pass b next marks c true fall same settled =
      let less = fall refl in
      passes_lower (state_weight cost) IsNumbered (state b marks) (state next marks) (λ n. n ≡ c) (let w : bounds_weight next + weight cost marks < bounds_weight b + weight cost marks = omega (arith, less) in w)
  numbers_pass b next marks c false fall same settled = record {
    falls = λ e. absurd (true≢false (sym e));
    same = λ e. ap (λ k. state k marks) (same refl);
    still = λ e n at. subst (λ a. AreSettledAt b g marks a) (sym at) (settled refl);
  }

  -- the label of a class is lowered
  pub label_pass : (b : BoundsState) (marks new : List (Option Mark)) (c : ℕ) (changed : Bool) → Takes g cost pats marks new changed → (changed ≡ false → AreBounds b g marks → IsBounded g cost pats marks c) → Passes (state_weight cost) IsLow (state b marks) (state b new) (λ n. n ≡ c) changed
  label_pass b marks new c changed takes bounded = record {
    falls = λ e. let less = takes.falls e in let w : bounds_weight b + weight cost new < bounds_weight b + weight cost marks = omega (arith, less) in w;
    same = λ e. ap (state b) (takes.same e);
    still = λ e n at are. subst (λ a. IsBounded g cost pats marks a) (sym at) (bounded e are);
  }

  -- a label that a search does not lower is the least
  pub label_stays : (b : BoundsState) (marks new : List (Option Mark)) (c : ℕ) (lowered still : Bool) → Takes g cost pats marks new lowered → (lowered ≡ false → still ≡ true) → (still ≡ true → AreBounds b g marks → IsBounded g cost pats new c) → lowered ≡ false → AreBounds b g marks → IsBounded g cost pats marks c
  label_stays b marks new c lowered still takes none bounded e are =
      subst (λ ms. IsBounded g cost pats ms c) (takes.same e) (bounded (none e) are)

  -- a label of no class in particular
  pub marks_pass : (b : BoundsState) (marks new : List (Option Mark)) (changed : Bool) → Takes g cost pats marks new changed → Lowers g cost pats (state b marks) (state b new) (λ n. ⊥) changed
  marks_pass b marks new changed takes = record {
    falls = λ e. let less = takes.falls e in let w : bounds_weight b + weight cost new < bounds_weight b + weight cost marks = omega (arith, less) in w;
    same = λ e. ap (state b) (takes.same e);
    still = λ e n none. absurd none;
  }

  -- once no number and no label would fall, the table is one of bounds, and no label would fall
  pub labelled_bounds : (s : LabelState) → IsGraph g → BoundsFit s.bounds pats g → ((c : ℕ) → c < length g.pairs → IsLabelled g cost pats s c) → AreBounds s.bounds g s.marks
  labelled_bounds s is fits labelled = settled_bounds_are_bounds s.bounds pats g s.marks is fits (λ c below. (labelled c below).0)

  pub label_is_cost : (marks : List (Option Mark)) (c : ℕ) → labels_in (costs_of marks) c ≡ cost_in (slice_index_or marks c None)
  label_is_cost [] c = refl
  label_is_cost (m ∷ marks) zero = refl
  label_is_cost (m ∷ marks) (suc c) = label_is_cost marks c

  -- once no class of the graph is lowered, none is
  pub bounded_all : (marks : List (Option Mark)) → length marks ≡ length g.pairs → HasClasses g (length (costs_of marks)) → ((c : ℕ) → c < length g.pairs → IsBounded g cost pats marks c) → AreBoundedIn g pats cost (costs_of marks)
  bounded_all marks one_each classes bounded c cell ps ls m have =
      let same : length (costs_of marks) ≡ length marks = length-map marks cost_in in
      let below = match_in g pats cost (costs_of marks) classes c cell ps ls m have in
      bounded c (omega (arith, below, same, one_each)) cell ps ls m have

  pub graph_classes : (marks : List (Option Mark)) → IsGraph g → length marks ≡ length g.pairs → HasClasses g (length (costs_of marks))
  graph_classes marks is one_each =
      let same : length (costs_of marks) ≡ length marks = length-map marks cost_in in
      let all : length g.pairs ≡ length (costs_of marks) = omega (arith, same, one_each) in
      record {
        all = all;
        even = subst (λ n. n % 2 ≡ 0) all is.even;
        one = subst (λ n. g.one < n) all is.one;
      }
