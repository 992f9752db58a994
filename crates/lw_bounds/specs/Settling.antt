-- Tables of bounds whose numbers fall until none falls any more.
use Rattle.std.specs.Prelude.{ℕ, ◌<◌, ◌≡◌, Bool, true, false, length}
use Rattle.lw_bounds.specs.declared.settling.Basis.{Basis}
use Rattle.lw_bounds.specs.declared.settling.Table.{Table}
use Rattle.lw_bounds.specs.Bounds.{BoundsState, AreSettledAt, IsTableAfter, IsTableWithTimes, bounds_weight}

-- a table of these patterns and this graph, with a mark or none for each class, and so many times
abbrev pub IsTableOf : Basis → Table → Type 0
IsTableOf basis t =
    IsTableWithTimes t.bounds t.times basis.pats.now basis.graph.now basis.marks.now

-- so it is after, a number fell or the table is the same, and where a whole step let none fall the class is settled
pub record IsClassRenewed (basis : Basis) (c : ℕ) (whole : Bool) (old new : Table) (fell : Bool) : Type 0 where
  pub timed : IsTableOf basis new
  pub after : IsTableAfter old.bounds new.bounds fell
  pub settled : whole ≡ true → fell ≡ false → AreSettledAt old.bounds basis.graph.now basis.marks.now c

-- the table is settled at each class
abbrev pub IsSettled : Basis → BoundsState → Type 0
IsSettled basis b =
    (c : ℕ) → c < length basis.graph.now.pairs → AreSettledAt b basis.graph.now basis.marks.now c

-- a round has gone through all classes, and where it was whole and nothing fell, the table is settled at each
pub record IsRoundDone (basis : Basis) (whole : Bool) (old new : Table) (fell : Bool) : Type 0 where
  pub timed : IsTableOf basis new
  pub after : IsTableAfter old.bounds new.bounds fell
  pub settled : whole ≡ true → fell ≡ false → IsSettled basis new.bounds

-- rounds until none lets a number fall: one fell in the last, and the sum is less, or the table is settled
pub record AreRoundsDone (basis : Basis) (old new : Table) (fell : Bool) : Type 0 where
  pub timed : IsTableOf basis new
  pub falls : fell ≡ true → bounds_weight new.bounds < bounds_weight old.bounds
  pub settled : fell ≡ false → IsSettled basis new.bounds
