-- Cases in hand, and what is known of pairs of nets.
use Rattle.std.specs.Prelude.{ℕ, ◌<◌, ◌≡◌, ⊤, Bool, Some, List, [], length, slice_get, slice_index_or, All, Contains}
use Rattle.lw_aig.specs.declared.gate.Gate.{Gate}
use Rattle.lw_equal.specs.declared.answer.Answer.{Answer}
use Rattle.lw_equal.specs.declared.answer.Answer.TheVariants.{Equal, Differ, Undecided}
use Rattle.lw_equal.specs.declared.deciding.Case.{Case}
use Rattle.lw_equal.specs.declared.deciding.Judgement.{Judgement}
use Rattle.lw_equal.specs.declared.deciding.Judgement.TheVariants.{Same, Apart, Open}
use Rattle.lw_equal.specs.declared.pairing.Pair.{Pair}
use Rattle.lw_equal.specs.declared.point.Point.{Point}
use Rattle.lw_equal.specs.declared.side.Side.{Side}
use Rattle.lw_equal.specs.declared.trying.Ends.{Ends}
use Rattle.lw_equal.specs.Answers.{HaveOneValue, IsDifference, IsShared}
use Rattle.lw_equal.specs.Known.{IsKnown}
use Rattle.lw_equal.specs.Laid.{ArePlaces, BeginsWith, IsLaid}
use Rattle.lw_equal.specs.Sides.{IsSide, inputs_of}

abbrev pub one_of : Case → Side
one_of case = case.one.now.side.now

abbrev pub other_of : Case → Side
other_of case = case.other.now

-- assignments can be looked at
pub record IsLooked (case : Case) : Type 0 where
  pub known : IsKnown case.one.now
  pub other : IsSide case.other.now
  pub places : ArePlaces (inputs_of (one_of case).logic) (inputs_of (other_of case).logic) case.right.now.places.items

-- both sides are laid in the graph
pub record IsCase (gates : List Gate) (case : Case) : Type 0 where
  pub looked : IsLooked case
  pub begins : BeginsWith gates (length (inputs_of (one_of case).logic))
  pub left : IsLaid gates (inputs_of (one_of case).logic) (one_of case) case.left.now
  pub right : IsLaid gates (inputs_of (one_of case).logic) (other_of case) case.right.now

-- what a judgement claims of a pair
abbrev pub Judges : Side → Side → Pair → Judgement → Type 0
Judges one other pair Same = HaveOneValue one other pair.left.0 pair.right.0
Judges one other pair (Apart inputs) = IsDifference one other pair.point inputs.items
Judges one other pair Open = ⊤

abbrev pub point_of : Pair → Point
point_of pair = pair.point

-- each pair has one value, or its point is undecided
abbrev pub AreJudged : Side → Side → List Pair → List Point → Type 0
AreJudged one other pairs undecided =
    (pair : Pair) → Contains pairs pair → (Contains undecided pair.point → ⊥)
    → HaveOneValue one other pair.left.0 pair.right.0

-- There is a point that is undecided, both sides have a net at each that is, and each other pair has one value.
pub record LeavesOpen (one other : Side) (pairs : List Pair) (undecided : List Point) : Type 0 where
  pub some : 0 < length undecided
  pub shared : All (IsShared one other) undecided
  pub judged : AreJudged one other pairs undecided

-- what an answer claims of pairs
abbrev pub Settles : Side → Side → List Pair → Answer → Type 0
Settles one other pairs Equal = AreJudged one other pairs []
Settles one other pairs (Differ d) = IsDifference one other d.point d.inputs.items
Settles one other pairs (Undecided undecided) = LeavesOpen one other pairs undecided

-- the literals of both nets of a pair
pub record AreEndsOf (case : Case) (pair : Pair) (both : Ends) : Type 0 where
  pub left : slice_get case.left.now.literals.items pair.left.0 ≡ Some both.left
  pub right : slice_get case.right.now.literals.items pair.right.0 ≡ Some both.right

-- by pair, the literals of both nets
pub record AreEnds (case : Case) (pairs : List Pair) (ends : List Ends) : Type 0 where
  pub one_each : length ends ≡ length pairs
  pub each : (j : ℕ) (p : Pair) (d : Ends) → j < length pairs
      → AreEndsOf case (slice_index_or pairs j p) (slice_index_or ends j d)
