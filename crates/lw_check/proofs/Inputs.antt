-- The classes of inputs, and what inputs cost.
use Rattle.std.proofs.Common.{ℕ, ◌+◌, ◌<◌, ◌≤◌, ◌≡◌, ◌⊎◌, inl, inr, length, Option, Some, slice_get, refl, ap, sym, ◌∙◌, subst, arith}
use Rattle.std.proofs.lemmas.Bool.{cases_eq}
use Rattle.std.proofs.lemmas.Option.{same_Some, slice_get_within}
use Rattle.lw_laws.specs.Graphs.{Graph}
use Rattle.lw_laws.specs.Costs.{Cost}
use Rattle.lw_laws.specs.Choices.{Labels}
use Rattle.lw_laws.specs.Laws.{IsLeafCost}
use Rattle.lw_check.specs.Failing.{IsAbove}
use Rattle.lw_check.specs.Least.{IsLate, IsLeastOf, lesser_of}
use Rattle.lw_check.proofs.Lesser.{lesser_least, least_same}

-- the same label and the same cost
pub above_on : (a b : Option ℕ) (d e : ℕ) → a ≡ b → d ≡ e → IsAbove a d → IsAbove b e
above_on a b d e labels costs is = subst (λ z. IsAbove b z) costs (subst (λ o. IsAbove o d) labels is)

pub not_above_on : (a b : Option ℕ) (d e : ℕ) → a ≡ b → d ≡ e → (IsAbove a d → ⊥) → IsAbove b e → ⊥
not_above_on a b d e labels costs not above = not (above_on b a e d (sym labels) (sym costs) above)

-- the least of the same number
pub least_on : (P : ℕ → Type 0) (a b : Option ℕ) → a ≡ b → IsLeastOf P b → IsLeastOf P a
least_on P a b same is = subst (λ o. IsLeastOf P o) (sym same) is

module _ (g : Graph) (cost : Cost) where
  -- one of the first inputs, of the class, costs less than its label
  abbrev pub IsLateBefore : Labels → ℕ → ℕ → Type 0
  IsLateBefore labels n c = (i : ℕ) × (i < n) × (slice_get g.leaves i ≡ Some c) × IsAbove (labels c) (cost.leaf i)

  -- one of the first inputs, of the class, costs so much
  abbrev pub IsLeafCostBefore : ℕ → ℕ → ℕ → Type 0
  IsLeafCostBefore c n d = (i : ℕ) × (i < n) × (slice_get g.leaves i ≡ Some c) × (d ≡ cost.leaf i)

  module _ (labels : Labels) where
    late_last : (n c class : ℕ) → slice_get g.leaves n ≡ Some class → IsLateBefore labels (n + 1) c → IsLateBefore labels n c ⊎ ((c ≡ class) × IsAbove (labels class) (cost.leaf n))
    late_last n c class at (i, lt, here, above) = by_place (cases_eq i n)
      where
        by_place : (i ≡ n) ⊎ (i ≡ n → ⊥) → IsLateBefore labels n c ⊎ ((c ≡ class) × IsAbove (labels class) (cost.leaf n))
        by_place (inl same) =
            let one : c ≡ class = same_Some c class (sym here ∙ (ap (λ j. slice_get g.leaves j) same ∙ at)) in
            inr (one, subst (λ b. IsAbove (labels b) (cost.leaf n)) one (subst (λ j. IsAbove (labels c) (cost.leaf j)) same above))
        by_place (inr other) = inl (i, omega arith, here, above)

    late_sooner : (n c : ℕ) → IsLateBefore labels n c → IsLateBefore labels (n + 1) c
    late_sooner n c (i, lt, here, above) = (i, omega arith, here, above)

    pub late_more : (n class : ℕ) (o : Option ℕ) → slice_get g.leaves n ≡ Some class → IsAbove (labels class) (cost.leaf n) → IsLeastOf (IsLateBefore labels n) o → IsLeastOf (IsLateBefore labels (n + 1)) (lesser_of o (Some class))
    late_more n class o at above least =
        least_same (λ c. IsLateBefore labels n c ⊎ (c ≡ class)) (IsLateBefore labels (n + 1)) (lesser_of o (Some class))
        (λ c h. elim h [ inl before ↦ late_sooner n c before | inr same ↦ (n, omega arith, at ∙ ap Some (sym same), subst (λ b. IsAbove (labels b) (cost.leaf n)) (sym same) above) ])
        (λ c h. elim (late_last n c class at h) [ inl before ↦ inl before | inr last ↦ inr last.0 ])
        (lesser_least (IsLateBefore labels n) (λ c. c ≡ class) o (Some class) least (refl, λ c e. omega arith))

    pub late_same : (n class : ℕ) (o : Option ℕ) → slice_get g.leaves n ≡ Some class → (IsAbove (labels class) (cost.leaf n) → ⊥) → IsLeastOf (IsLateBefore labels n) o → IsLeastOf (IsLateBefore labels (n + 1)) o
    late_same n class o at not least =
        least_same (IsLateBefore labels n) (IsLateBefore labels (n + 1)) o (late_sooner n)
        (λ c h. elim (late_last n c class at h) [ inl before ↦ before | inr last ↦ absurd (not last.1) ])
        least

    pub late_all : (n : ℕ) (o : Option ℕ) → length g.leaves ≤ n → IsLeastOf (IsLateBefore labels n) o → IsLeastOf (IsLate g cost labels) o
    late_all n o all least =
        least_same (IsLateBefore labels n) (IsLate g cost labels) o
        (λ c (i, lt, here, above). (cost.leaf i, (i, here, refl), above))
        (λ c (d, (i, here, e), above). (i, (let lt = slice_get_within g.leaves i c here in omega arith), here, subst (λ z. IsAbove (labels c) z) e above))
        least

  module _ (c : ℕ) where
    cost_last : (n d class : ℕ) → slice_get g.leaves n ≡ Some class → IsLeafCostBefore c (n + 1) d → IsLeafCostBefore c n d ⊎ ((class ≡ c) × (d ≡ cost.leaf n))
    cost_last n d class at (i, lt, here, e) = by_place (cases_eq i n)
      where
        by_place : (i ≡ n) ⊎ (i ≡ n → ⊥) → IsLeafCostBefore c n d ⊎ ((class ≡ c) × (d ≡ cost.leaf n))
        by_place (inl same) = inr (same_Some class c (sym at ∙ (ap (λ j. slice_get g.leaves j) (sym same) ∙ here)), e ∙ ap cost.leaf same)
        by_place (inr other) = inl (i, omega arith, here, e)

    cost_sooner : (n d : ℕ) → IsLeafCostBefore c n d → IsLeafCostBefore c (n + 1) d
    cost_sooner n d (i, lt, here, e) = (i, omega arith, here, e)

    cost_here : (n class : ℕ) (o : Option ℕ) → slice_get g.leaves n ≡ Some class → class ≡ c → IsLeastOf (IsLeafCostBefore c n) o → IsLeastOf (IsLeafCostBefore c (n + 1)) (lesser_of o (Some (cost.leaf n)))
    cost_here n class o at same least =
        least_same (λ d. IsLeafCostBefore c n d ⊎ (d ≡ cost.leaf n)) (IsLeafCostBefore c (n + 1)) (lesser_of o (Some (cost.leaf n)))
        (λ d h. elim h [ inl before ↦ cost_sooner n d before | inr e ↦ (n, omega arith, at ∙ ap Some same, e) ])
        (λ d h. elim (cost_last n d class at h) [ inl before ↦ inl before | inr last ↦ inr last.1 ])
        (lesser_least (IsLeafCostBefore c n) (λ d. d ≡ cost.leaf n) o (Some (cost.leaf n)) least (refl, λ d e. omega arith))

    pub cost_more : (n class d : ℕ) (o : Option ℕ) → slice_get g.leaves n ≡ Some class → class ≡ c → d ≡ cost.leaf n → IsLeastOf (IsLeafCostBefore c n) o → IsLeastOf (IsLeafCostBefore c (n + 1)) (lesser_of o (Some d))
    cost_more n class d o at same e least = subst (λ z. IsLeastOf (IsLeafCostBefore c (n + 1)) (lesser_of o (Some z))) (sym e) (cost_here n class o at same least)

    pub cost_same : (n class : ℕ) (o : Option ℕ) → slice_get g.leaves n ≡ Some class → (class ≡ c → ⊥) → IsLeastOf (IsLeafCostBefore c n) o → IsLeastOf (IsLeafCostBefore c (n + 1)) o
    cost_same n class o at other least =
        least_same (IsLeafCostBefore c n) (IsLeafCostBefore c (n + 1)) o (cost_sooner n)
        (λ d h. elim (cost_last n d class at h) [ inl before ↦ before | inr last ↦ absurd (other last.0) ])
        least

    pub cost_all : (n : ℕ) (o : Option ℕ) → length g.leaves ≤ n → IsLeastOf (IsLeafCostBefore c n) o → IsLeastOf (IsLeafCost g cost c) o
    cost_all n o all least =
        least_same (IsLeafCostBefore c n) (IsLeafCost g cost c) o
        (λ d (i, lt, here, e). (i, here, e))
        (λ d (i, here, e). (i, (let lt = slice_get_within g.leaves i c here in omega arith), here, e))
        least
