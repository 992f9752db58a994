-- Pieces that are put one after another.
use Rattle.std.proofs.Common.{◌≡◌, ◌++◌, ℕ, List, [], Option, append_assoc, subst}
use Rattle.lw_io.specs.declared.writer.Writer.{Writer}
use Rattle.lw_io.specs.Writers.{Writes}
use Rattle.lw_io.proofs.Putting.{Writes-both}

-- what is put behind a number
module _ {S : Type 0} (taken : S → Option (List ℕ)) (faults : S → ℕ) (before number rest : List ℕ) where
  same : (before ++ (number ++ [])) ++ rest ≡ before ++ (number ++ rest)
  same = simp append_assoc

  pub number_then : {u v w : Writer S} → Writes taken faults u v (before ++ (number ++ [])) → Writes taken faults v w rest → Writes taken faults u w (before ++ (number ++ rest))
  number_then {u} {v} {w} a b = subst (λ (text : List ℕ). Writes taken faults u w text) same (Writes-both a b)
