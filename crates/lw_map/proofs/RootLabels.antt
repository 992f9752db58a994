-- The labels of some classes, one after another, until one has none.
use Rattle.std.proofs.Common.{ℕ, zero, suc, ◌+◌, ◌<◌, ◌≤◌, ◌≡◌, ◌⊎◌, inl, inr, List, [], ◌∷◌, ◌++◌, length, length-append, Option, Some, None, slice_get, slice_index_or, refl, sym, subst, arith}
use Rattle.std.proofs.lemmas.Bool.{cases_lt}
use Rattle.std.proofs.lemmas.Option.{get_or_from_slice_get, slice_get-get_or}
use Rattle.lw_pool.specs.declared.id.ClassId.{ClassId}
use Rattle.lw_fixed.specs.declared.micro.Micro.{Micro}
use Rattle.lw_cost.specs.declared.mark.Mark.{Mark}
use Rattle.lw_extract.specs.Covers.{IsFirstUncovered}
use Rattle.lw_map.specs.Trading.{HaveLabelsTo}

kept_at : {X : Type 0} (xs : List X) (y : X) (i : ℕ) (x : X) → slice_get xs i ≡ Some x → slice_get (xs ++ y ∷ []) i ≡ Some x
kept_at [] y i x e = cc
kept_at (z ∷ xs) y zero x e = e
kept_at (z ∷ xs) y (suc i) x e = kept_at xs y i x e

last_at : {X : Type 0} (xs : List X) (y : X) (k : ℕ) → length xs ≡ k → slice_get (xs ++ y ∷ []) k ≡ Some y
last_at [] y zero e = refl
last_at [] y (suc k) e = cc
last_at (z ∷ xs) y zero e = cc
last_at (z ∷ xs) y (suc k) e = last_at xs y k (omega (arith, e))

no_mark : (o : Option Mark) → ((m : Mark) → o ≡ Some m → ⊥) → o ≡ None
no_mark None none = refl
no_mark (Some m) none = absurd (none m refl)

pub have_none : (marks : List (Option Mark)) (roots : List ClassId) → HaveLabelsTo marks roots 0 []
have_none marks roots = record { count = refl; each = λ i c below at. absurd (omega (arith, below)) }

module _ (marks : List (Option Mark)) (roots : List ClassId) (k : ℕ) (labels : List Micro) (d : ClassId) (lt : k < length roots) (have : HaveLabelsTo marks roots k labels) where
  pub have_more : (m : Mark) → slice_index_or marks (slice_index_or roots k d).0 None ≡ Some m → HaveLabelsTo marks roots (k + 1) (labels ++ (record { 0 = m.cost }) ∷ [])
  have_more m marked = record {
    count = let n = length-append labels ((record { 0 = m.cost }) ∷ []) in let count = have.count in omega (arith, n, count);
    each = λ i c below at. by_order i c at below (cases_lt i k);
  }
    where
      by_order : (i : ℕ) (c : ClassId) → slice_get roots i ≡ Some c → i < k + 1 → (i < k) ⊎ (k ≤ i) → (n : Mark) × (slice_index_or marks c.0 None ≡ Some n) × (slice_get (labels ++ (record { 0 = m.cost }) ∷ []) i ≡ Some (record { 0 = n.cost }))
      by_order i c at below (inl less) =
          let (n, is, label) = have.each i c less at in
          (n, is, kept_at labels (record { 0 = m.cost }) i (record { 0 = n.cost }) label)
      by_order i c at below (inr more) =
          let same : i ≡ k = omega (arith, below, more) in
          let root : slice_index_or roots k d ≡ c = get_or_from_slice_get roots k c d (subst (λ j. slice_get roots j ≡ Some c) same at) in (
            m,
            subst (λ (r : ClassId). slice_index_or marks r.0 None ≡ Some m) root marked,
            subst (λ j. slice_get (labels ++ (record { 0 = m.cost }) ∷ []) j ≡ Some (record { 0 = m.cost })) (sym same) (last_at labels (record { 0 = m.cost }) k have.count),
          )

  pub first_without : ((m : Mark) → slice_index_or marks (slice_index_or roots k d).0 None ≡ Some m → ⊥) → IsFirstUncovered marks roots k
  first_without none = record {
    root = slice_index_or roots k d;
    at = slice_get-get_or roots k d lt;
    uncovered = no_mark (slice_index_or marks (slice_index_or roots k d).0 None) none;
    first = λ i c below at. let (m, is, label) = have.each i c below at in (m, is);
  }
