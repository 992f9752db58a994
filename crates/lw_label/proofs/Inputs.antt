-- The labels of the inputs' classes.
use Rattle.std.proofs.Common.{ℕ, ◌+◌, ◌<◌, ◌≤◌, ◌≡◌, ◌⊎◌, inl, inr, List, length, Option, Some, None, option_map, slice_get, slice_index_or, slice_set, refl, ap, sym, ◌∙◌, subst, arith}
use Rattle.std.proofs.lemmas.List.{length-set, set-get_or}
use Rattle.std.proofs.lemmas.Bool.{cases_eq}
use Rattle.std.proofs.lemmas.Option.{same_Some, none-some, slice_get_within}
use Rattle.lw_laws.specs.Graphs.{Graph}
use Rattle.lw_laws.specs.Costs.{Cost}
use Rattle.lw_laws.specs.Covers.{Pattern}
use Rattle.lw_laws.specs.Marks.{Mark as PlainMark}
use Rattle.lw_laws.specs.Laws.{IsLeafCost}
use Rattle.lw_laws.proofs.RoundLaws.{first_sound}
use Rattle.lw_cost.specs.declared.mark.Mark.{Mark}
use Rattle.lw_cost.specs.Values.{plain_mark, marks_in}
use Rattle.lw_cost.specs.Labels.{costs_of}
use Rattle.lw_label.specs.Lowering.{AreLowering, HasCostAtMost, IsLowerOf}
use Rattle.lw_cost.proofs.MarksAsLabels.{label_of_mark, mark_of_label, mark_set_same, mark_set_other}

-- The first inputs have given their classes their costs.
pub record AreInputs (g : Graph) (cost : Cost) (count : ℕ) (marks : List (Option Mark)) : Type 0 where
  pub one_each : length marks ≡ length g.pairs
  pub only : (c : ℕ) (m : PlainMark) → marks_in marks c ≡ Some m → (m.height ≡ 0) × IsLeafCost g cost c m.cost
  pub given : (i c : ℕ) → i < count → slice_get g.leaves i ≡ Some c → (m : PlainMark) × (marks_in marks c ≡ Some m) × (m.cost ≤ cost.leaf i)

module _ (g : Graph) (cost : Cost) where
  -- an input whose class has a cost that is not above its own
  pub inputs_keep : (i c : ℕ) (marks : List (Option Mark)) → slice_get g.leaves i ≡ Some c → AreInputs g cost i marks → HasCostAtMost (slice_index_or marks c None) (cost.leaf i) → AreInputs g cost (i + 1) marks
  inputs_keep i c marks leaf are (m, e, low) = record {
    one_each = are.one_each;
    only = are.only;
    given = λ j b below at. at_input j b (cases_eq j i) below at;
  }
    where
      at_input : (j b : ℕ) → (j ≡ i) ⊎ (j ≡ i → ⊥) → j < i + 1 → slice_get g.leaves j ≡ Some b → (k : PlainMark) × (marks_in marks b ≡ Some k) × (k.cost ≤ cost.leaf j)
      at_input j b (inl same) below at =
          let class : c ≡ b = same_Some c b (sym leaf ∙ (ap (λ n. slice_get g.leaves n) (sym same) ∙ at)) in
          (plain_mark m, ap (λ n. marks_in marks n) (sym class) ∙ ap (option_map plain_mark) e, subst (λ n. m.cost ≤ cost.leaf n) (sym same) low)
      at_input j b (inr other) below at = are.given j b (omega arith) at

  -- an input that gives its class its cost
  pub inputs_set : (i c : ℕ) (marks : List (Option Mark)) (new : Mark) → slice_get g.leaves i ≡ Some c → c < length marks → AreInputs g cost i marks → ((m : PlainMark) → marks_in marks c ≡ Some m → cost.leaf i ≤ m.cost) → new.cost ≡ cost.leaf i → new.height ≡ 0 → AreInputs g cost (i + 1) (slice_set marks c (Some new))
  inputs_set i c marks new leaf below are high cost_is flat = record {
    one_each = length-set marks c (Some new) ∙ are.one_each;
    only = λ b m e. only_at b m e (cases_eq b c);
    given = λ j b lt at. given_at j b lt at (cases_eq b c) (cases_eq j i);
  }
    where
      set_at : (b : ℕ) → b ≡ c → marks_in (slice_set marks c (Some new)) b ≡ Some (plain_mark new)
      set_at b same = ap (λ n. marks_in (slice_set marks c (Some new)) n) same ∙ mark_set_same marks c new below

      only_at : (b : ℕ) (m : PlainMark) → marks_in (slice_set marks c (Some new)) b ≡ Some m → (b ≡ c) ⊎ (b ≡ c → ⊥) → (m.height ≡ 0) × IsLeafCost g cost b m.cost
      only_at b m e (inl same) =
          let is : plain_mark new ≡ m = same_Some (plain_mark new) m (sym (set_at b same) ∙ e) in
          (sym (ap (λ (k : PlainMark). k.height) is) ∙ flat, (i, leaf ∙ ap (λ n. Some n) (sym same), sym (ap (λ (k : PlainMark). k.cost) is) ∙ cost_is))
      only_at b m e (inr other) = are.only b m (sym (mark_set_other marks c b (Some new) other) ∙ e)

      given_at : (j b : ℕ) → j < i + 1 → slice_get g.leaves j ≡ Some b → (b ≡ c) ⊎ (b ≡ c → ⊥) → (j ≡ i) ⊎ (j ≡ i → ⊥) → (k : PlainMark) × (marks_in (slice_set marks c (Some new)) b ≡ Some k) × (k.cost ≤ cost.leaf j)
      given_at j b lt at (inl same) (inl is) = (plain_mark new, set_at b same, subst (λ n. new.cost ≤ cost.leaf n) (sym is) (omega (arith, cost_is)))
      given_at j b lt at (inl same) (inr before) =
          let (m, e, low) = are.given j b (omega arith) at in
          let above = high m (ap (λ n. marks_in marks n) (sym same) ∙ e) in
          (plain_mark new, set_at b same, omega (arith, above, low, cost_is))
      given_at j b lt at (inr other) (inl is) = absurd (other (same_Some b c (sym at ∙ (ap (λ n. slice_get g.leaves n) is ∙ leaf))))
      given_at j b lt at (inr other) (inr before) =
          let (m, e, low) = are.given j b (omega arith) at in
          (m, mark_set_other marks c b (Some new) other ∙ e, low)

  -- all inputs have given their classes their costs
  pub inputs_end : (pats : List Pattern) (count : ℕ) (marks : List (Option Mark)) → length g.leaves ≤ count → AreInputs g cost count marks → AreLowering g cost pats marks
  inputs_end pats count marks all are = record {
    one_each = are.one_each;
    sound = first_sound g pats cost (costs_of marks)
        (λ c l e. let (m, at, s) = mark_of_label marks c l e in subst (λ d. IsLeafCost g cost c d) s ((are.only c m at).1))
        (λ c i at. let inside = slice_get_within g.leaves i c at in let (m, e, low) = are.given i c (omega (arith, inside, all)) at in (m.cost, label_of_mark marks c m e, low));
    flat = λ c m e. (are.only c m e).0;
  }

  -- an input, by the mark that its class gets
  pub inputs_lower : (i c : ℕ) (marks : List (Option Mark)) (new : Mark) → slice_get g.leaves i ≡ Some c → c < length marks → AreInputs g cost i marks → IsLowerOf (slice_index_or marks c None) (cost.leaf i) new → AreInputs g cost (i + 1) (slice_set marks c (Some new))
  inputs_lower i c marks new leaf below are (inl (same, low)) =
      let kept : slice_set marks c (Some new) ≡ marks = ap (λ o. slice_set marks c o) (sym same) ∙ set-get_or marks c None in
      subst (λ ms. AreInputs g cost (i + 1) ms) (sym kept) (inputs_keep i c marks leaf are (new, same, low))
  inputs_lower i c marks new leaf below are (inr (is, above)) =
      inputs_set i c marks new leaf below are (λ m e. not_above m e) (ap (λ (m : Mark). m.cost) is) (ap (λ (m : Mark). m.height) is)
    where
      not_above : (m : PlainMark) → marks_in marks c ≡ Some m → cost.leaf i ≤ m.cost
      not_above m e = by_mark (slice_index_or marks c None) refl e
        where
          by_mark : (o : Option Mark) → slice_index_or marks c None ≡ o → option_map plain_mark o ≡ Some m → cost.leaf i ≤ m.cost
          by_mark None s f = absurd (none-some m f)
          by_mark (Some k) s f =
              let less = above k s in
              let same : k.cost ≡ m.cost = ap (λ (j : PlainMark). j.cost) (same_Some (plain_mark k) m f) in
              omega (arith, less, same)
