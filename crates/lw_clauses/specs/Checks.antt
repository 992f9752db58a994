-- What the check of a clause knows as it goes on.
use Rattle.std.specs.Prelude.{ℕ, ◌≡◌, ◌⊎◌, Bool, true, false, ⊤, List, All, Contains}
use Rattle.lw_aig.specs.declared.gate.Gate.{Gate}
use Rattle.lw_aig.specs.declared.literal.Literal.{Literal}
use Rattle.lw_aig.specs.Aigs.{AreNodeValues}
use Rattle.lw_aig.specs.Literals.{literal_value}
use Rattle.lw_clauses.specs.declared.denied.Left.{Left}
use Rattle.lw_clauses.specs.declared.denied.Left.TheVariants.{Nothing, One, More}
use Rattle.lw_clauses.specs.Clauses.{clause_value}

-- all of these literals are false
abbrev pub AreFalse : (ℕ → Bool) → List Literal → Type 0
AreFalse v lits = All (λ l. literal_value v l ≡ false) lits

-- Wherever the clause is false, so are these literals.
pub record Denies (gates : List Gate) (clause denied : List Literal) : Type 0 where
  pub always : (v : ℕ → Bool) → AreNodeValues gates v → clause_value v clause ≡ false → AreFalse v denied

-- what is left of an antecedent without the literals that are denied
abbrev pub IsLeft : List Literal → List Literal → Left → Type 0
IsLeft denied antecedent Nothing = All (Contains denied) antecedent
IsLeft denied antecedent (One m) = All (λ l. (l ≡ m) ⊎ Contains denied l) antecedent
IsLeft denied antecedent More = ⊤

-- what is known wherever the denied literals are false
abbrev pub Tells : List Gate → List Literal → Left → Type 0
Tells gates denied Nothing = (v : ℕ → Bool) → AreNodeValues gates v → AreFalse v denied → ⊥
Tells gates denied (One m) = (v : ℕ → Bool) → AreNodeValues gates v → AreFalse v denied → literal_value v m ≡ true
Tells gates denied More = ⊤
