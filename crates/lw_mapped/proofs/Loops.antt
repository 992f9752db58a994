-- One more step of a loop over a list.
use Rattle.std.proofs.Common.{ℕ, zero, suc, ◌≡◌, ◌<◌, Bool, false, ◌&&◌, List, [], ◌∷◌, get_or, length, ap, ◌∙◌, arith}
use Rattle.std.specs.List.{list_all}
use Rattle.std.proofs.Math.Bool.{and-false}

pub all-fails : {A : Type 0} (p : A → Bool) (xs : List A) (k : ℕ) (d : A) → k < length xs → p (get_or xs k d) ≡ false → list_all p xs ≡ false
all-fails p (x ∷ xs) zero d below miss = ap (λ b. b && list_all p xs) miss
all-fails p (x ∷ xs) (suc k) d below miss = ap (λ b. p x && b) (all-fails p xs k d (omega arith) miss) ∙ and-false (p x)
all-fails p [] k d below miss = absurd (omega arith)
