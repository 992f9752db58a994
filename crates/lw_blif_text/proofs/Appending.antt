-- What one more line adds to the lines that are read, and to their faults.
use Rattle.std.proofs.Common.{ℕ, ◌≡◌, List, [], ◌∷◌, ◌++◌, Option, Some, None, refl, ap, sym, ◌∙◌, append-nil, append_assoc}
use Rattle.lw_words.specs.Lines.{LogicalLine}
use Rattle.lw_blif_text.specs.FirstFaults.{FaultAt, fault_or, first_fault_by}

module _ {K : Type 0} where
  -- no fault here, and none behind
  pub fault_or_none : (number : ℕ) (o : Option K) (r : Option (FaultAt K)) → fault_or number o r ≡ None → (o ≡ None) × (r ≡ None)
  fault_or_none number (Some kind) r e = cc
  fault_or_none number None r e = (refl, e)

  fault_or_some : (number : ℕ) (o : Option K) (r q : Option (FaultAt K)) (f : FaultAt K) → (r ≡ Some f → q ≡ Some f) → fault_or number o r ≡ Some f → fault_or number o q ≡ Some f
  fault_or_some number (Some kind) r q f step e = e
  fault_or_some number None r q f step e = step e

module _ {K : Type 0} (fault : List LogicalLine → LogicalLine → Option K) where
  -- where lines have no fault, the first fault of more lines is that of the others behind them
  pub first_fault-later : (before xs ys : List LogicalLine) → first_fault_by fault before xs ≡ None → first_fault_by fault before (xs ++ ys) ≡ first_fault_by fault (before ++ xs) ys
  unfolding first_fault_by
  first_fault-later before [] ys e = ap (λ b. first_fault_by fault b ys) (sym (append-nil before))
  first_fault-later before (x ∷ xs) ys e =
      let parts = fault_or_none x.number (fault before x) (first_fault_by fault (before ++ x ∷ []) xs) e in
      ap (λ o. fault_or x.number o (first_fault_by fault (before ++ x ∷ []) (xs ++ ys))) parts.0
      ∙ (first_fault-later (before ++ x ∷ []) xs ys parts.1 ∙ ap (λ b. first_fault_by fault b ys) (append_assoc before (x ∷ []) xs))

  -- a fault stays the first
  pub first_fault-earlier : (before xs ys : List LogicalLine) (f : FaultAt K) → first_fault_by fault before xs ≡ Some f → first_fault_by fault before (xs ++ ys) ≡ Some f
  unfolding first_fault_by
  first_fault-earlier before [] ys f e = cc
  first_fault-earlier before (x ∷ xs) ys f e =
      fault_or_some x.number (fault before x) (first_fault_by fault (before ++ x ∷ []) xs) (first_fault_by fault (before ++ x ∷ []) (xs ++ ys)) f (first_fault-earlier (before ++ x ∷ []) xs ys f) e

  -- the fault of one more line
  pub first_fault-next : (lines : List LogicalLine) (line : LogicalLine) → first_fault_by fault [] lines ≡ None → first_fault_by fault [] (lines ++ line ∷ []) ≡ fault_or line.number (fault lines line) None
  unfolding first_fault_by
  first_fault-next lines line e = first_fault-later [] lines (line ∷ []) e
