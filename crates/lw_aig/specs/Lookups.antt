-- What a look-up of a conjunction answers.
use Rattle.std.specs.Prelude.{ℕ, ◌≡◌, Some, List, slice_get}
use Rattle.lw_aig.specs.declared.gate.Gate.{Gate}
use Rattle.lw_aig.specs.declared.gate.Gate.TheVariants.{And}
use Rattle.lw_aig.specs.declared.literal.Literal.{Literal}

-- this node is the conjunction of these two literals
abbrev pub IsGateOf : List Gate → Literal → Literal → ℕ → Type 0
IsGateOf gates a b n = slice_get gates n ≡ Some (And a b)
