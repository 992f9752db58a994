-- Networks that are laid over the inputs of a side: a literal for each net.
use Rattle.std.specs.Prelude.{ℕ, ◌+◌, ◌<◌, ◌≡◌, Bool, Some, List, [], length, map, slice_get, slice_index_or, All}
use Rattle.lw_aig.specs.declared.gate.Gate.{Gate}
use Rattle.lw_aig.specs.declared.gate.Gate.TheVariants.{Input}
use Rattle.lw_aig.specs.declared.literal.Literal.{Literal}
use Rattle.lw_aig.specs.Aigs.{AreNodeValues, IsBelow}
use Rattle.lw_joint.specs.Joint.{AreInputs, Carry}
use Rattle.lw_equal.specs.declared.placing.Laid.{Laid}
use Rattle.lw_equal.specs.declared.side.Logic.{Logic}
use Rattle.lw_equal.specs.declared.side.Side.{Side}
use Rattle.lw_equal.specs.Sides.{AreValuesOf, AreValuesUnder, inputs_of}

-- by name, its place among others
pub record ArePlaces (all names : List (List ℕ)) (places : List ℕ) : Type 0 where
  pub one_each : length places ≡ length names
  pub each : (j : ℕ) → j < length names → slice_get all (slice_index_or places j 0) ≡ Some (slice_index_or names j [])

-- The literals have the values of a side's nets, wherever those of its inputs have the values of the inputs.
pub record HaveValuesOf (gates : List Gate) (logic : Logic) (inputs lits : List Literal) : Type 0 where
  pub within : All (IsBelow (length gates)) lits
  pub always : (v x : ℕ → Bool) (values : List Bool) → AreNodeValues gates v → AreInputs v inputs x
      → AreValuesOf logic x values → Carry v lits values

-- the graph begins with so many inputs
abbrev pub BeginsWith : List Gate → ℕ → Type 0
BeginsWith gates inputs = (i : ℕ) → i < inputs → slice_get gates (i + 1) ≡ Some Input

-- the inputs of the graph have the values that x gives the names
abbrev pub GivesNames : (ℕ → Bool) → List (List ℕ) → (List ℕ → Bool) → Type 0
GivesNames v all x = (i : ℕ) → i < length all → v (i + 1) ≡ x (slice_index_or all i [])

-- The literals have the values of a side's nets, whatever values the names have.
pub record IsLaid (gates : List Gate) (all : List (List ℕ)) (side : Side) (laid : Laid) : Type 0 where
  pub places : ArePlaces all (inputs_of side.logic) laid.places.items
  pub within : All (IsBelow (length gates)) laid.literals.items
  pub always : (v : ℕ → Bool) (x : List ℕ → Bool) (values : List Bool) → AreNodeValues gates v → GivesNames v all x
      → AreValuesUnder side x values → Carry v laid.literals.items values
