-- What a search with a table finds, by the labels of its marks.
use Rattle.std.proofs.Common.{ℕ, zero, suc, ◌≤◌, ◌≡◌, inl, inr, List, [], ◌∷◌, map, Option, Some, None, slice_index_or, refl, ap, sym, ◌∙◌, subst, arith}
use Rattle.std.proofs.lemmas.Option.{same_Some, none-some}
use Rattle.lw_laws.specs.Graphs.{Graph}
use Rattle.lw_laws.specs.Costs.{Cost}
use Rattle.lw_laws.specs.Covers.{Pattern}
use Rattle.lw_laws.specs.Marks.{Mark as PlainMark, costs_in}
use Rattle.lw_laws.specs.Rounds.{labels_in}
use Rattle.lw_cost.specs.declared.mark.Best.{Best}
use Rattle.lw_cost.specs.declared.mark.Mark.{Mark}
use Rattle.lw_match.specs.Cutting.{IsBeforeBound, IsLeastWithin}
use Rattle.lw_cost.specs.Least.{IsLeastMatch, IsPricedAt, plain_best}
use Rattle.lw_cost.specs.Values.{AreInRange, marks_in}
use Rattle.lw_cost.specs.Labels.{cost_in, costs_of}
use Rattle.lw_label.proofs.Falling.{at_most_cost, bounded_under, label_is_cost}
use Rattle.lw_cost.proofs.MarksAsLabels.{labels_of_marks, marks_of_labels, priced, standing}
use Rattle.lw_check.specs.Failing.{IsAbove, IsMatchCost}
use Rattle.lw_check.specs.Least.{AreFlat, IsLeastOf, IsLow, flat_mark}
use Rattle.lw_check.proofs.Failures.{at_most_not_above}

module _ (g : Graph) (cost : Cost) (pats : List Pattern) (marks : List (Option Mark)) where
  -- a priced match costs what its labels give
  priced_cost : (c : ℕ) (best : Best) → IsPricedAt g cost pats (marks_in marks) c (plain_best best) → IsMatchCost g cost pats (labels_in (costs_of marks)) c best.mark.cost
  priced_cost c best is = record {
    cell = is.pattern.cell;
    pins = (plain_best best).found.pins;
    stands = standing g cost pats (marks_in marks) c (plain_best best) is;
    pin_labels = costs_in is.pin_marks;
    have = labels_of_marks marks (plain_best best).found.pins is.pin_marks is.have;
    value = ap (λ (m : PlainMark). m.cost) is.mark;
  }

  pub low_found : AreFlat marks → (c : ℕ) (best : Best) → IsPricedAt g cost pats (marks_in marks) c (plain_best best) → (o : Option Mark) → slice_index_or marks c None ≡ o → IsBeforeBound o best.mark → IsLow g cost pats (labels_in (costs_of marks)) c
  low_found flat c best is o at before = (best.mark.cost, priced_cost c best is, subst (λ l. IsAbove l best.mark.cost) (sym (label_is_cost g cost pats marks c ∙ ap cost_in at)) (by_bound o at before))
    where
      by_bound : (o : Option Mark) → slice_index_or marks c None ≡ o → IsBeforeBound o best.mark → IsAbove (cost_in o) best.mark.cost
      by_bound None at before = tt
      by_bound (Some old) at (inl lt) = lt
      by_bound (Some old) at (inr (e, lt)) = let none = flat c old at in absurd (omega arith)

  pub none_low : (c : ℕ) (o : Option Mark) → slice_index_or marks c None ≡ o → IsLeastWithin g cost pats (marks_in marks) c o None → IsLow g cost pats (labels_in (costs_of marks)) c → ⊥
  none_low c o at none (d, m, above) =
      at_most_not_above (labels_in (costs_of marks)) c (cost.value m.cell m.pin_labels) (bounded_under g cost pats marks c o at none m.cell m.pins m.pin_labels m.stands m.have) (subst (λ z. IsAbove (labels_in (costs_of marks) c) z) m.value above)

  pub least_found : (c : ℕ) (best : Best) → IsLeastMatch g cost pats (marks_in marks) c (Some best) → IsLeastOf (IsMatchCost g cost pats (labels_in (costs_of marks)) c) (Some best.mark.cost)
  least_found c best (is, least) = (
    priced_cost c best is,
    λ d m.
        let (ms, have, same) = marks_of_labels marks m.pins m.pin_labels m.have in
        let (b, priced', e) = priced g cost pats (marks_in marks) c m.cell m.pins ms m.stands have in
        let low = at_most_cost (plain_best best) b (least b priced') in
        let value : b.mark.cost ≡ d = ap (λ (k : PlainMark). k.cost) e ∙ (ap (cost.value m.cell) same ∙ sym m.value) in
        omega (arith, low, value),
  )

  pub none_given : (c : ℕ) → IsLeastMatch g cost pats (marks_in marks) c None → IsLeastOf (IsMatchCost g cost pats (labels_in (costs_of marks)) c) None
  none_given c none = λ d m.
      let (ms, have, same) = marks_of_labels marks m.pins m.pin_labels m.have in
      let (b, priced', e) = priced g cost pats (marks_in marks) c m.cell m.pins ms m.stands have in
      none b priced'

-- marks without heights
pub flat_costs : (labels : List (Option ℕ)) → costs_of (map flat_mark labels) ≡ labels
flat_costs [] = refl
flat_costs (None ∷ labels) = ap (λ ls. None ∷ ls) (flat_costs labels)
flat_costs (Some l ∷ labels) = ap (λ ls. Some l ∷ ls) (flat_costs labels)

pub flat_marks : (labels : List (Option ℕ)) → AreFlat (map flat_mark labels)
flat_marks [] c m e = absurd (none-some m e)
flat_marks (None ∷ labels) zero m e = absurd (none-some m e)
flat_marks (Some l ∷ labels) zero m e = sym (ap (λ (k : Mark). k.height) (same_Some (record { cost = l; height = 0 }) m e))
flat_marks (l ∷ labels) (suc c) m e = flat_marks labels c m e

pub flat_in_range : (cap : ℕ) (labels : List (Option ℕ)) → ((c l : ℕ) → labels_in labels c ≡ Some l → l ≤ cap) → AreInRange cap (map flat_mark labels)
flat_in_range cap [] low c m e = absurd (none-some m e)
flat_in_range cap (None ∷ labels) low zero m e = absurd (none-some m e)
flat_in_range cap (Some l ∷ labels) low zero m e =
    let same = same_Some (record { cost = l; height = 0 }) m e in
    let cost : l ≡ m.cost = ap (λ (k : PlainMark). k.cost) same in
    let height : 0 ≡ m.height = ap (λ (k : PlainMark). k.height) same in
    let le = low 0 l refl in
    (omega arith, omega arith)
flat_in_range cap (l ∷ labels) low (suc c) m e = flat_in_range cap labels (λ d. low (suc d)) c m e
