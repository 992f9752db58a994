-- Literals of cells, and of the nets of a netlist.
use Rattle.std.specs.Prelude.{ℕ, ◌+◌, ◌-◌, ◌<◌, ◌≡◌, Bool, false, not, List, map, length, slice_index_or, All}
use Rattle.std.specs.List.{list_all, list_any}
use Rattle.lw_aig.specs.declared.gate.Gate.{Gate}
use Rattle.lw_aig.specs.declared.literal.Literal.{Literal}
use Rattle.lw_aig.specs.Aigs.{AreNodeValues, IsBelow}
use Rattle.lw_aig.specs.Literals.{literal_value}
use Rattle.lw_genlib.specs.declared.op.ExprOp.{ExprOp}
use Rattle.lw_genlib.specs.declared.op.ExprOp.TheVariants.{Const, Pin, Not, And, Or}
use Rattle.lw_genlib.specs.Postfix.{arity, stepped}
use Rattle.lw_joint.specs.Joint.{AreInputs, Carry}
use Rattle.lw_pool.specs.declared.id.NetId.{NetId}
use Rattle.lw_pool.specs.Numbers.{net_number}
use Rattle.lw_laws.specs.Netlists.{AreNetlistValues, CellTruth, Netlist}

abbrev pub itself : Bool → Bool
itself b = b

-- what a step makes of truths, given those of the pins
abbrev pub truth_by : List Bool → ExprOp → List Bool → Bool
truth_by pins (Const b) parts = b
truth_by pins (Pin k) parts = slice_index_or pins k false
truth_by pins Not parts = not (slice_index_or parts 0 false)
truth_by pins (And n) parts = list_all itself parts
truth_by pins (Or n) parts = list_any itself parts

-- the values of literals
abbrev pub values_of : (ℕ → Bool) → List Literal → List Bool
values_of v lits = map (literal_value v) lits

-- The literal has the value that f makes of those of other literals.
pub record Makes (gates : List Gate) (lits : List Literal) (f : List Bool → Bool) (l : Literal) : Type 0 where
  pub within : IsBelow (length gates) l
  pub always : (v : ℕ → Bool) → AreNodeValues gates v → literal_value v l ≡ f (values_of v lits)

-- The literal of a step.
pub record IsMade (gates : List Gate) (pins : List Literal) (op : ExprOp) (parts : List Literal)
    (l : Literal) : Type 0 where
  pub within : IsBelow (length gates) l
  pub always : (v : ℕ → Bool) → AreNodeValues gates v
      → literal_value v l ≡ truth_by (values_of v pins) op (values_of v parts)

-- the literals of some nets
abbrev pub literals_at : List Literal → List NetId → List Literal
literals_at lits nets = map (λ net. slice_index_or lits net (record { 0 = 0 })) (map net_number nets)

-- A step puts its literal in the place of those that it takes.
pub record IsStep (gates : List Gate) (pins : List Literal) (op : ExprOp) (old new : List Literal) : Type 0 where
  pub within : All (IsBelow (length gates)) new
  pub long : length new ≡ length old - arity op + 1
  pub always : (v : ℕ → Bool) → AreNodeValues gates v
      → values_of v new ≡ stepped (truth_by (values_of v pins)) op (values_of v old)

-- The literals have the values of the nets of a netlist, from the first net on, wherever those of its inputs have the
-- values of the inputs.
pub record HaveNetlistValues (gates : List Gate) (truth : CellTruth) (n : Netlist)
    (inputs lits : List Literal) : Type 0 where
  pub within : All (IsBelow (length gates)) lits
  pub always : (v x : ℕ → Bool) (values : List Bool) → AreNodeValues gates v → AreInputs v inputs x
      → AreNetlistValues truth n x values → Carry v lits values
