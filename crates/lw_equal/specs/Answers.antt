-- What an answer claims of two sides.
use Rattle.std.specs.Prelude.{ℕ, ◌<◌, ◌≡◌, ◌≢◌, Bool, false, ⊤, Option, Some, None, List, length, slice_index_or, All}
use Rattle.std.specs.Prelude.{Contains}
use Rattle.std.specs.List.{position_or_len}
use Rattle.std.specs.Str.{bytes_eq}
use Rattle.lw_equal.specs.declared.answer.Answer.{Answer}
use Rattle.lw_equal.specs.declared.answer.Answer.TheVariants.{Equal, Differ, Undecided}
use Rattle.lw_equal.specs.declared.answer.Fault.{Fault}
use Rattle.lw_equal.specs.declared.answer.Fault.TheVariants.{Ports, Memory}
use Rattle.lw_equal.specs.declared.answer.PortFault.{PortFault}
use Rattle.lw_equal.specs.declared.point.Point.{Point}
use Rattle.lw_equal.specs.declared.side.Side.{Side}
use Rattle.lw_equal.specs.Ports.{both_faults, first_port_fault}
use Rattle.lw_equal.specs.Sides.{AreValuesUnder, IsNetAt, inputs_of}

-- Whatever values the names have, net k of the one side and net m of the other have one value.
pub record HaveOneValue (one other : Side) (k m : ℕ) : Type 0 where
  pub always : (x : List ℕ → Bool) (vs ws : List Bool) → AreValuesUnder one x vs → AreValuesUnder other x ws
      → slice_index_or vs k false ≡ slice_index_or ws m false

-- At a point at which both sides have a net, both nets have one value. Nothing is said of a point at which only one has
-- a net.
abbrev pub AgreeAt : Side → Side → Point → Type 0
AgreeAt one other point = (k m : ℕ) → IsNetAt one point k → IsNetAt other point m → HaveOneValue one other k m

-- the value of a name, where these names have these values
abbrev pub named_value : List (List ℕ) → List Bool → List ℕ → Bool
named_value names values name = slice_index_or values (position_or_len (bytes_eq name) names) false

-- With these values of the inputs of the one side, and those of the same names of the other, the sides have different
-- values at the point.
pub record IsDifference (one other : Side) (point : Point) (inputs : List Bool) : Type 0 where
  pub one_each : length inputs ≡ length (inputs_of one.logic)
  pub left : ℕ
  pub is_left : IsNetAt one point left
  pub right : ℕ
  pub is_right : IsNetAt other point right
  pub lefts : List Bool
  pub are_lefts : AreValuesUnder one (named_value (inputs_of one.logic) inputs) lefts
  pub rights : List Bool
  pub are_rights : AreValuesUnder other (named_value (inputs_of one.logic) inputs) rights
  pub differ : slice_index_or lefts left false ≢ slice_index_or rights right false

-- both sides have a net at the point
pub record IsShared (one other : Side) (point : Point) : Type 0 where
  pub left : ℕ
  pub is_left : IsNetAt one point left
  pub right : ℕ
  pub is_right : IsNetAt other point right

-- There is a point that is told, both sides have a net at each that is, and they agree at each other point.
pub record LeavesUndecided (one other : Side) (points : List Point) : Type 0 where
  pub some : 0 < length points
  pub shared : All (IsShared one other) points
  pub others : (point : Point) → (Contains points point → ⊥) → AgreeAt one other point

-- The sides agree at each point, or they differ, or they agree at each point that is not told.
abbrev pub Claims : Side → Side → Answer → Type 0
Claims one other Equal = (point : Point) → AgreeAt one other point
Claims one other (Differ d) = IsDifference one other d.point d.inputs.items
Claims one other (Undecided points) = LeavesUndecided one other points

-- Both sides have the same inputs, outputs and latches, and what the answer claims of them holds.
-- So each output, and what each latch stores, is compared. A control is where both sides' latches have one. Kinds and
-- initial values of latches are not compared.
pub record IsAnswer (one other : Side) (answer : Answer) : Type 0 where
  pub ports : both_faults one other ≡ None
  pub claims : Claims one other answer

-- the port is refused, or memory ran out
abbrev pub Refuses : Option PortFault → Fault → Type 0
Refuses first (Ports fault) = first ≡ Some fault
Refuses first Memory = ⊤

-- the first port that is not right, or that memory ran out
abbrev pub HasFault : Side → Side → List Side → Fault → Type 0
HasFault one other more fault = Refuses (first_port_fault one other more) fault
