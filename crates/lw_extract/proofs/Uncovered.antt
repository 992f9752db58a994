-- The first root without a mark.
use Rattle.std.proofs.Common.{ℕ, ◌+◌, ◌<◌, ◌≤◌, ◌≡◌, ◌⊎◌, inl, inr, false, List, length, All, Option, Some, None, IsSome, is_some, Result, Ok, Err, ◌↔◌, slice_get, slice_index_or, get_or, ap, sym, ◌∙◌, subst, arith}
use Rattle.std.proofs.lemmas.Bool.{cases_eq}
use Rattle.std.proofs.lemmas.Option.{same_Some, none-some, slice_get-get_or}
use Rattle.lw_facts.proofs.Tests.{none_when_not_some}
use Rattle.lw_facts.proofs.Lists.{all_at}
use Rattle.lw_pool.specs.declared.id.ClassId.{ClassId}
use Rattle.lw_cost.specs.declared.mark.Mark.{Mark}
use Rattle.lw_extract.specs.declared.ports.Cover.{Cover}
use Rattle.lw_extract.specs.declared.fault.ExtractFault.{ExtractFault}
use Rattle.lw_extract.specs.declared.fault.ExtractFault.TheVariants.{NoCover, Memory}
use Rattle.lw_extract.specs.Covers.{IsFirstUncovered}
use Rattle.lw_extract.proofs.ClassNets.{some_is, some_of}

module _ (marks : List (Option Mark)) (roots : List ClassId) where
  -- the first roots have marks
  abbrev pub AreCoveredBelow : ℕ → Type 0
  AreCoveredBelow k = (i : ℕ) (c : ClassId) → i < k → slice_get roots i ≡ Some c → (m : Mark) × (slice_index_or marks c.0 None ≡ Some m)

  pub covered_more : (k : ℕ) (d : ClassId) → k < length roots → IsSome (slice_index_or marks (get_or roots k d).0 None) → AreCoveredBelow k → AreCoveredBelow (k + 1)
  covered_more k d inside here before = λ i c below at. by_place i c below at (cases_eq i k)
    where
      by_place : (i : ℕ) (c : ClassId) → i < k + 1 → slice_get roots i ≡ Some c → (i ≡ k) ⊎ (i ≡ k → ⊥) → (m : Mark) × (slice_index_or marks c.0 None ≡ Some m)
      by_place i c below at (inl same) =
          let is : get_or roots k d ≡ c = same_Some (get_or roots k d) c (sym (slice_get-get_or roots k d inside) ∙ (ap (λ j. slice_get roots j) (sym same) ∙ at)) in
          some_of (slice_index_or marks c.0 None) (subst (λ (q : ClassId). IsSome (slice_index_or marks q.0 None)) is here)
      by_place i c below at (inr other) = before i c (omega arith) at

  pub covered_all : (k : ℕ) → length roots ≤ k → AreCoveredBelow k → All (λ root. IsSome (slice_index_or marks root.0 None)) roots
  covered_all k all before = λ i d inside.
      let (m, e) = before i (get_or roots i d) (omega arith) (slice_get-get_or roots i d inside) in
      some_is (slice_index_or marks (get_or roots i d).0 None) m e

  pub uncovered_here : (k : ℕ) (d : ClassId) → k < length roots → is_some (slice_index_or marks (get_or roots k d).0 None) ≡ false → AreCoveredBelow k → IsFirstUncovered marks roots k
  uncovered_here k d inside here before = record {
    root = get_or roots k d;
    at = slice_get-get_or roots k d inside;
    uncovered = none_when_not_some (slice_index_or marks (get_or roots k d).0 None) here;
    first = before;
  }

  -- there is no such root where all have marks
  pub none_uncovered : (k : ℕ) → All (λ root. IsSome (slice_index_or marks root.0 None)) roots → IsFirstUncovered marks roots k → ⊥
  none_uncovered k all is =
      let here = all_at (λ (root : ClassId). IsSome (slice_index_or marks root.0 None)) roots k is.root all is.at in
      let (m, e) = some_of (slice_index_or marks is.root.0 None) here in
      none-some m (sym is.uncovered ∙ e)

-- a result with a cover tells of no root, where all roots have marks
module _ (marks : List (Option Mark)) (roots : List ClassId) (all : All (λ root. IsSome (slice_index_or marks root.0 None)) roots) where
  pub covered_ok : (cover : Cover) (k : ℕ) → ◌≡◌ {A = Result Cover ExtractFault} (Ok cover) (Err (NoCover k)) ↔ IsFirstUncovered marks roots k
  covered_ok cover k = (λ e. cc, λ is. absurd (none_uncovered marks roots k all is))

  pub covered_memory : (k : ℕ) → ◌≡◌ {A = Result Cover ExtractFault} (Err Memory) (Err (NoCover k)) ↔ IsFirstUncovered marks roots k
  covered_memory k = (λ e. cc, λ is. absurd (none_uncovered marks roots k all is))
