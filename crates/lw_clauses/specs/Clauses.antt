-- Clauses, and what it is that they hold.
use Rattle.std.specs.Prelude.{ℕ, ◌≡◌, Bool, true, List}
use Rattle.std.specs.List.{list_any}
use Rattle.lw_aig.specs.declared.gate.Gate.{Gate}
use Rattle.lw_aig.specs.declared.literal.Literal.{Literal}
use Rattle.lw_aig.specs.Aigs.{AreNodeValues}
use Rattle.lw_aig.specs.Literals.{literal_value}

-- the value of a clause: some literal is true
abbrev pub clause_value : (ℕ → Bool) → List Literal → Bool
clause_value v clause = list_any (literal_value v) clause

-- The clause is true, whatever the values of the inputs are.
pub record Holds (gates : List Gate) (clause : List Literal) : Type 0 where
  pub always : (v : ℕ → Bool) → AreNodeValues gates v → clause_value v clause ≡ true
