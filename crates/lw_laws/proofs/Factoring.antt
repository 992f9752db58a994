-- The factored form in terms of factored forms alone.
use Rattle.std.proofs.Common.{ℕ, zero, suc, ◌+◌, ◌<◌, ◌≤◌, ◌≡◌, Bool, true, false, not, ltb, List, [], ◌∷◌, map, filter, length, Option, Some, None, refl, ap, ap₂, arith, ltb-true}
use Rattle.std.specs.List.{AllByRecursion}
use Rattle.lw_laws.specs.Forms.{Form, conjunction, disjunction}
use Rattle.lw_laws.specs.Signals.{Literal, literals, has_at, has, cleared_at, cleared, count_having, literals_from, most_common, shared_literal, literal_form, factored_by, factored_within, factored, literal_count}

-- a row loses one literal
cleared_length : (fs : List Form) (column : ℕ) (sign : Bool) (row : List (Option Bool)) → column < length fs → has_at column sign row ≡ true → suc (length (literals fs (cleared_at column row))) ≡ length (literals fs row)
cleared_length [] column sign row lt s = absurd (omega arith)
cleared_length (f ∷ fs) column sign [] lt s = cc
cleared_length (f ∷ fs) zero sign (None ∷ row) lt s = cc
cleared_length (f ∷ fs) zero sign (Some b ∷ row) lt s = refl
cleared_length (f ∷ fs) (suc k) sign (None ∷ row) lt s = cleared_length fs k sign row (omega arith) s
cleared_length (f ∷ fs) (suc k) sign (Some b ∷ row) lt s = ap suc (cleared_length fs k sign row (omega arith) s)

-- the literals of so many columns
pub literals_within : (column n k : ℕ) → column + n ≤ k → AllByRecursion (λ l. l.column < k) (literals_from column n)
literals_within column zero k le = tt
literals_within column (suc n) k le = (omega arith, (omega arith, literals_within (column + 1) n k (omega arith)))

module _ (fs : List Form) where
  abbrev having : Literal → List (List (Option Bool)) → List (List (Option Bool))
  having l rows = map (cleared l) (filter (has l) rows)

  abbrev others : Literal → List (List (Option Bool)) → List (List (Option Bool))
  others l rows = filter (λ row. not (has l row)) rows

  counts_add : (l : Literal) (rows : List (List (Option Bool))) → l.column < length fs → literal_count fs (having l rows) + literal_count fs (others l rows) + count_having l rows ≡ literal_count fs rows
  counts_add l [] lt = refl
  counts_add l (row ∷ rows) lt = by_test (has l row) refl (counts_add l rows lt) where
    by_test : (t : Bool) → has l row ≡ t → literal_count fs (having l rows) + literal_count fs (others l rows) + count_having l rows ≡ literal_count fs rows → literal_count fs (having l (row ∷ rows)) + literal_count fs (others l (row ∷ rows)) + count_having l (row ∷ rows) ≡ literal_count fs (row ∷ rows)
    by_test true s ih = let c = cleared_length fs l.column l.sign row lt s in rw s (omega arith)
    by_test false s ih = rw s (omega arith)

  -- the literal that is factored out is one of a column, and stands in some row
  abbrev IsCommon : List (List (Option Bool)) → Option Literal → Type 0
  IsCommon rows None = Unit {0}
  IsCommon rows (Some l) = (l.column < length fs) × (1 ≤ count_having l rows)

  most_is_common : (rows : List (List (Option Bool))) (ls : List Literal) (n : ℕ) (best : Option Literal) → AllByRecursion (λ l. l.column < length fs) ls → IsCommon rows best → IsCommon rows (most_common rows ls n best)
  most_is_common rows [] n best a w = w
  most_is_common rows (l ∷ ls) n best (p, a) w =
      by_test (ltb n (count_having l rows)) refl (λ c. most_is_common rows ls (count_having l rows) (Some l) a (p, c)) (most_is_common rows ls n best a w)
    where
      by_test : (t : Bool) → ltb n (count_having l rows) ≡ t → (1 ≤ count_having l rows → IsCommon rows (most_common rows ls (count_having l rows) (Some l))) → IsCommon rows (most_common rows ls n best) → IsCommon rows (elim t [ true ↦ most_common rows ls (count_having l rows) (Some l) | false ↦ most_common rows ls n best ])
      by_test true s p q = let lt = ltb-true n (count_having l rows) s in p (omega arith)
      by_test false s p q = q

  shared_is_common : (rows : List (List (Option Bool))) → IsCommon rows (shared_literal (length fs) rows)
  shared_is_common rows = most_is_common rows (literals_from 0 (length fs)) 1 None (literals_within 0 (length fs) (length fs) (omega arith)) tt

  module _ (width : ℕ) where
    factored_by_same : (a b : List (List (Option Bool)) → Form) (rows : List (List (Option Bool))) → ((rest : List (List (Option Bool))) → literal_count fs rest < literal_count fs rows → a rest ≡ b rest) → (l : Option Literal) → IsCommon rows l → factored_by a width fs rows l ≡ factored_by b width fs rows l
    factored_by_same a b rows h None c = refl
    factored_by_same a b rows h (Some l) (lt, some) =
        let sum = counts_add l rows lt in
        let q = h (having l rows) (omega arith) in
        let r = h (others l rows) (omega arith) in
        ap₂ (λ x y. disjunction width (conjunction width (literal_form fs l ∷ x ∷ []) ∷ y ∷ [])) q r

    factored_within_same : (n m : ℕ) (rows : List (List (Option Bool))) → literal_count fs rows < n → literal_count fs rows < m → factored_within n width fs rows ≡ factored_within m width fs rows
    factored_within_same zero m rows p q = absurd (omega arith)
    factored_within_same (suc n) zero rows p q = absurd (omega arith)
    factored_within_same (suc n) (suc m) rows p q =
        factored_by_same (λ rest. factored_within n width fs rest) (λ rest. factored_within m width fs rest) rows (λ rest lt. factored_within_same n m rest (omega arith) (omega arith)) (shared_literal (length fs) rows) (shared_is_common rows)

    pub factored_step : (rows : List (List (Option Bool))) → factored width fs rows ≡ factored_by (factored width fs) width fs rows (shared_literal (length fs) rows)
    factored_step rows =
        factored_by_same (λ rest. factored_within (literal_count fs rows) width fs rest) (factored width fs) rows (λ rest lt. factored_within_same (literal_count fs rows) (suc (literal_count fs rest)) rest (omega arith) (omega arith)) (shared_literal (length fs) rows) (shared_is_common rows)
