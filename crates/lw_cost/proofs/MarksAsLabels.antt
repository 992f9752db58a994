-- Marks as labels, and priced matches.
use Rattle.std.proofs.Common.{ℕ, zero, suc, ◌+◌, ◌<◌, ◌≤◌, ◌≡◌, List, [], ◌∷◌, length, Option, Some, None, slice_index_or, slice_set, sym, ◌∙◌, arith, ◌↔◌, option_map, refl, ap, ap₂, subst}
use Rattle.std.proofs.lemmas.List.{map-set}
use Rattle.std.proofs.lemmas.Option.{none-some, same_Some}
use Rattle.lw_facts.proofs.Lists.{contained_at}
use Rattle.lw_laws.specs.Graphs.{Graph}
use Rattle.lw_laws.specs.Costs.{Cost, IsCost}
use Rattle.lw_laws.specs.Covers.{Pattern, ArePatterns, HasPins}
use Rattle.lw_laws.specs.Choices.{HaveLabels}
use Rattle.lw_laws.specs.Matches.{IsMatchAt}
use Rattle.lw_laws.specs.Marks.{Mark as PlainMark, Marks, HaveMarks, costs_in, price, labels_of}
use Rattle.lw_laws.specs.Rounds.{labels_in}
use Rattle.lw_laws.specs.Laws.{IsCoverProblem}
use Rattle.lw_graph.specs.Graphs.{IsGraph}
use Rattle.lw_laws.specs.Trees.{HasLeaf}
use Rattle.lw_laws.proofs.Extracts.{listed_at}
use Rattle.lw_cost.specs.declared.mark.Mark.{Mark}
use Rattle.lw_cost.specs.Labels.{marked, costs_of, cost_in}
use Rattle.lw_cost.specs.Values.{marks_in, plain_mark}
use Rattle.lw_cost.specs.Least.{AreOfCells, IsPricedAt, Priced}

-- Numbers of marks and of heights.
pub marked_most : (marks : List (Option Mark)) → marked marks ≤ length marks
marked_most [] = omega arith
marked_most (None ∷ marks) = let ih = marked_most marks in omega arith
marked_most (Some m ∷ marks) = let ih = marked_most marks in omega arith

-- a class without a mark gets one
pub marked_more : (marks : List (Option Mark)) (c : ℕ) (new : Mark) → c < length marks → slice_index_or marks c None ≡ None → marked (slice_set marks c (Some new)) ≡ marked marks + 1
marked_more (None ∷ marks) zero new below e = let one : suc (marked marks) ≡ marked marks + 1 = omega arith in one
marked_more (Some m ∷ marks) zero new below e = absurd (none-some m (sym e))
marked_more (None ∷ marks) (suc c) new below e = marked_more marks c new (omega arith) e
marked_more (Some m ∷ marks) (suc c) new below e =
    let ih : marked (slice_set marks c (Some new)) ≡ marked marks + 1 = marked_more marks c new (omega arith) e in
    let one : suc (marked (slice_set marks c (Some new))) ≡ suc (marked marks) + 1 = omega (arith, ih) in one
marked_more [] c new below e = absurd (omega arith)

-- the labels of marks
pub label_at : (marks : List (Option Mark)) (c : ℕ) → labels_in (costs_of marks) c ≡ labels_of (marks_in marks) c
label_at [] c = refl
label_at (None ∷ marks) zero = refl
label_at (Some m ∷ marks) zero = refl
label_at (m ∷ marks) (suc c) = label_at marks c

pub label_of_mark : (marks : List (Option Mark)) (c : ℕ) (m : PlainMark) → marks_in marks c ≡ Some m → labels_in (costs_of marks) c ≡ Some m.cost
label_of_mark marks c m e = label_at marks c ∙ ap (option_map (λ (k : PlainMark). k.cost)) e

pub mark_of_label : (marks : List (Option Mark)) (c l : ℕ) → labels_in (costs_of marks) c ≡ Some l → (m : PlainMark) × (marks_in marks c ≡ Some m) × (m.cost ≡ l)
mark_of_label marks c l e = by_mark (marks_in marks c) refl (sym (label_at marks c) ∙ e)
  where
    by_mark : (o : Option PlainMark) → marks_in marks c ≡ o → option_map (λ (k : PlainMark). k.cost) o ≡ Some l → (m : PlainMark) × (marks_in marks c ≡ Some m) × (m.cost ≡ l)
    by_mark None s f = cc
    by_mark (Some m) s f = (m, s, cc)

pub labels_of_marks : (marks : List (Option Mark)) (ps : List ℕ) (ms : List PlainMark) → HaveMarks (marks_in marks) ps ms → HaveLabels (labels_in (costs_of marks)) ps (costs_in ms)
labels_of_marks marks [] [] a = tt
labels_of_marks marks [] (m ∷ ms) a = absurd a
labels_of_marks marks (p ∷ ps) [] a = absurd a
labels_of_marks marks (p ∷ ps) (m ∷ ms) (e, a) = (label_of_mark marks p m e, labels_of_marks marks ps ms a)

pub marks_of_labels : (marks : List (Option Mark)) (ps ls : List ℕ) → HaveLabels (labels_in (costs_of marks)) ps ls → (ms : List PlainMark) × HaveMarks (marks_in marks) ps ms × (costs_in ms ≡ ls)
marks_of_labels marks [] [] a = ([], tt, refl)
marks_of_labels marks [] (l ∷ ls) a = absurd a
marks_of_labels marks (p ∷ ps) [] a = absurd a
marks_of_labels marks (p ∷ ps) (l ∷ ls) (e, a) =
    let (k, at, s) = mark_of_label marks p l e in
    let (ms, have, t) = marks_of_labels marks ps ls a in
    (k ∷ ms, (at, have), ap₂ (λ x xs. x ∷ xs) s t)

pub costs_set : (marks : List (Option Mark)) (c : ℕ) (m : Option Mark) → costs_of (slice_set marks c m) ≡ slice_set (costs_of marks) c (cost_in m)
costs_set marks c m = map-set cost_in marks c m

-- what the mark of a class is behind a write
pub mark_set_same : (marks : List (Option Mark)) (c : ℕ) (m : Mark) → c < length marks → marks_in (slice_set marks c (Some m)) c ≡ Some (plain_mark m)
mark_set_same (o ∷ marks) zero m below = refl
mark_set_same (o ∷ marks) (suc c) m below = mark_set_same marks c m (omega arith)
mark_set_same [] c m below = absurd (omega arith)

pub mark_set_other : (marks : List (Option Mark)) (c b : ℕ) (m : Option Mark) → (b ≡ c → ⊥) → marks_in (slice_set marks c m) b ≡ marks_in marks b
mark_set_other [] c b m other = refl
mark_set_other (o ∷ marks) zero zero m other = absurd (other refl)
mark_set_other (o ∷ marks) zero (suc b) m other = refl
mark_set_other (o ∷ marks) (suc c) zero m other = refl
mark_set_other (o ∷ marks) (suc c) (suc b) m other = mark_set_other marks c b m (λ e. other (ap suc e))

-- patterns whose cells have the pins are patterns of the cells
pub patterns_of_cells : (pin_counts : List ℕ) (pats : List Pattern) → AreOfCells pin_counts pats → ArePatterns pin_counts pats
patterns_of_cells pin_counts pats of_cells p listed = record {
  pins = λ n k has. let is = of_cells p listed in subst (λ m. HasLeaf p.tree k ↔ (k < m)) (same_Some is.pin_count n (sym is.has ∙ has)) (is.pins k);
}

-- what covers are sought for
pub cover_problem : (g : Graph) (cost : Cost) (pats : List Pattern) → IsGraph g → IsCost cost → AreOfCells cost.pin_counts pats → IsCoverProblem g pats cost
cover_problem g cost pats graph is of_cells = record {
  few = graph.few_inputs;
  once = graph.once;
  patterns = patterns_of_cells cost.pin_counts pats of_cells;
  cost_is = is;
}

-- a priced match stands at its class
pub standing : (g : Graph) (cost : Cost) (pats : List Pattern) (marks : Marks) (c : ℕ) (b : Priced) → (is : IsPricedAt g cost pats marks c b) → IsMatchAt g cost.pin_counts pats c is.pattern.cell b.found.pins
standing g cost pats marks c b is = record {
  pattern = is.pattern;
  listed = listed_at pats b.found.pattern is.pattern is.matches.listed;
  cell_is = refl;
  pins = is.matches.pins;
  stands = is.matches.stands;
}

-- a match whose pins have marks is priced
pub priced : (g : Graph) (cost : Cost) (pats : List Pattern) (marks : Marks) (c cell : ℕ) (ps : List ℕ) (ms : List PlainMark) → IsMatchAt g cost.pin_counts pats c cell ps → HaveMarks marks ps ms → (b : Priced) × IsPricedAt g cost pats marks c b × (b.mark ≡ price cost cell ms)
priced g cost pats marks c cell ps ms m have =
    let (n, at) = contained_at pats m.pattern m.listed in (
      record { mark = price cost cell ms; found = record { pattern = n; pins = ps } },
      record {
        pattern = m.pattern;
        matches = record { listed = at; pins = subst (λ k. HasPins cost.pin_counts k (length ps)) (sym m.cell_is) m.pins; stands = m.stands };
        pin_marks = ms;
        have = have;
        mark = ap (λ k. price cost k ms) (sym m.cell_is);
      },
      refl,
    )
