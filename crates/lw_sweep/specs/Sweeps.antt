-- Literals that stand for nodes, and graphs that grow.
use Rattle.std.specs.Prelude.{ℕ, ◌<◌, ◌≤◌, ◌≡◌, Bool, Some, List, ◌∷◌, length, replicate, slice_get, slice_index_or}
use Rattle.lw_aig.specs.declared.gate.Gate.{Gate}
use Rattle.lw_aig.specs.declared.gate.Gate.TheVariants.{Zero, Input}
use Rattle.lw_aig.specs.declared.literal.Literal.{Literal}
use Rattle.lw_aig.specs.Aigs.{AreNodeValues, IsAig, IsBelow, IsConjunction}
use Rattle.lw_aig.specs.Literals.{literal_value}

-- Nodes keep their gates, and more may come behind them.
pub record IsExtended (old new : List Gate) : Type 0 where
  pub kept : (n : ℕ) (gate : Gate) → slice_get old n ≡ Some gate → slice_get new n ≡ Some gate
  pub longer : length old ≤ length new

-- A literal has the value of a node, whatever the values of the inputs are.
pub record StandsFor (gates : List Gate) (n : ℕ) (l : Literal) : Type 0 where
  pub within : IsBelow (length gates) l
  pub always : (v : ℕ → Bool) → AreNodeValues gates v → literal_value v l ≡ v n

-- By node, a literal that stands for it.
pub record AreStanding (gates : List Gate) (stands : List Literal) : Type 0 where
  pub one_each : length stands ≡ length gates
  pub each : (n : ℕ) (d : Literal) → n < length stands → StandsFor gates n (slice_index_or stands n d)

-- the constant and some inputs
abbrev pub inputs_alone : ℕ → List Gate
inputs_alone inputs = Zero ∷ replicate inputs Input

-- in each graph that has both literals, this one is their conjunction
abbrev pub IsAlwaysConjunction : Literal → Literal → Literal → Type 0
IsAlwaysConjunction left right l =
    (gates : List Gate) → IsAig gates → IsBelow (length gates) left → IsBelow (length gates) right →
    IsConjunction gates left right l
