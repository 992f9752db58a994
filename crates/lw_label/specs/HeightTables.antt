-- Heights that fall: what visits and rounds do to them and to the table of bounds that cuts their searches, and what
-- marks are begun with.
use Rattle.std.specs.Prelude.{ℕ, ◌≡◌, ◌<◌, ◌/◌, Bool, true, false, List, length, Option, IfSome, Some, None, option_map}
use Rattle.std.specs.Prelude.{replicate, slice_index_or}
use Rattle.lw_laws.specs.Costs.{Cost}
use Rattle.lw_laws.specs.Graphs.{Graph}
use Rattle.lw_laws.specs.Covers.{Pattern}
use Rattle.lw_laws.specs.Flip.{flip}
use Rattle.lw_laws.specs.Laws.{AreBoundedIn}
use Rattle.lw_laws.specs.Rounds.{labels_in}
use Rattle.lw_cost.specs.declared.mark.Best.{Best}
use Rattle.lw_cost.specs.declared.mark.Mark.{Mark}
use Rattle.lw_bounds.specs.Bounds.{AreZero, BoundsFit}
use Rattle.lw_match.specs.Cutting.{AreKnown, IsMatchWithin, TopsState}
use Rattle.lw_bounds.specs.HeightBounds.{AreFlat, heights_of}
use Rattle.lw_cost.specs.Least.{AreOfCells}
use Rattle.lw_cost.specs.Values.{marks_in}
use Rattle.lw_label.specs.declared.heights.Given.{Given}
use Rattle.lw_label.specs.declared.heights.HeightRounds.{HeightRounds}
use Rattle.lw_label.specs.declared.heights.Heights.{Heights}
use Rattle.lw_label.specs.declared.heights.Visit.{Visit}
use Rattle.lw_label.specs.declared.labelling.Task.{Task}
use Rattle.lw_label.specs.declared.labels.Room.{Room}
use Rattle.lw_label.specs.Heights.{AreGiven, AreHeightMarks, AreSameBut, AreStill, IsHeightSearch, IsReachedFrom}
use Rattle.lw_label.specs.Heights.{LowersFrom, TakesFrom, TakesHeight, height_limit, heights_weight, with_mark}
use Rattle.lw_cost.specs.Labels.{costs_of}
use Rattle.lw_label.specs.Lowering.{AreLowering, LabelState, state}
use Rattle.lw_label.specs.OneVisit.{AreBoundsAround, AreZeroOrSettled}
use Rattle.lw_label.specs.Orders.{VisitState, places_of}

-- the marks of the table are the heights of these marks
abbrev pub HasHeightsOf : List (Option Mark) → LabelState → Type 0
HasHeightsOf marks t = t.marks ≡ heights_of marks

-- a table for the graph and the patterns, whose numbers are all 0, where no class has a mark
pub record IsNewTable (g : Graph) (pats : List Pattern) (t : LabelState) : Type 0 where
  pub none : t.marks ≡ replicate (length g.pairs) None
  pub fits : BoundsFit t.bounds pats g
  pub flat : AreFlat t.bounds.gaps
  pub zero : AreZero t.bounds.numbers

-- a table for the graph and the patterns, where the numbers of each class are 0, or none would fall and the parts are
-- still
pub record IsHeightTable (g : Graph) (pats : List Pattern) (still : List Bool) (t : LabelState) : Type 0 where
  pub one_each : length t.marks ≡ length g.pairs
  pub fits : BoundsFit t.bounds pats g
  pub flat : AreFlat t.bounds.gaps
  pub numbers : AreZeroOrSettled g t still

-- a table of bounds on the heights of these marks, whatever heights the classes of the place have
pub record IsTableAround (g : Graph) (pats : List Pattern) (marks : List (Option Mark)) (place : ℕ)
    (t : LabelState) : Type 0 where
  pub heights : HasHeightsOf marks t
  pub fits : BoundsFit t.bounds pats g
  pub flat : AreFlat t.bounds.gaps
  pub around : AreBoundsAround t.bounds g t.marks place

-- the table with the heights of these marks
abbrev pub with_heights : List (Option Mark) → Option LabelState → Option LabelState
with_heights marks table = option_map (λ (t : LabelState). state t.bounds (heights_of marks)) table

-- What heights are found by, where some places are still, with a table of heights or none.
pub record AreHeightsFalling {C : _} (cost : Cost) (d : Given C) (tops : TopsState) (table : Option LabelState)
    (marks : List (Option Mark)) (still : List Bool) : Type 0 where
  pub search : IsHeightSearch cost d tops marks
  pub kept : AreStill d.task.now.graph.now cost d.task.now.pats.now d.labels.now marks still
  pub heights : IfSome table (HasHeightsOf marks)
  pub numbers : IfSome table (IsHeightTable d.task.now.graph.now d.task.now.pats.now still)

-- heights can be lowered at a place, and a table of heights, where there is one, is one of bounds whatever heights its
-- classes have
pub record MayLowerHeights {C : Type 0} (costs : C → Cost) (d : Given C) (h : Heights) (place : ℕ) : Type 0 where
  pub search : IsHeightSearch (costs d.task.now.cost.now) d h.tops.now h.marks.items
  pub table : IfSome h.table (IsTableAround d.task.now.graph.now d.task.now.pats.now h.marks.items place)

-- no match at the class would lower its height
abbrev pub IsReachedIn : {C : Type 0} → (C → Cost) → Given C → Heights → ℕ → Type 0
IsReachedIn costs d h c = IsReachedFrom (costs d.task.now.cost.now) d h.marks.items c

-- a class gets the mark of a match that was found, and the table its height
pub record PutsHeight (old new : Heights) (class : ℕ) (found : Option Best) (lowered : Bool) : Type 0 where
  pub takes : (g : Graph) (cost : Cost) (pats : List Pattern) (labels : List (Option Mark)) (bound : Mark)
      → AreBoundedIn g pats cost (costs_of labels) → AreHeightMarks g cost pats labels old.marks.items
      → labels_in (costs_of labels) class ≡ Some bound.cost
      → bound.height ≡ height_limit (slice_index_or old.marks.items class None)
      → IsMatchWithin g cost pats (marks_in old.marks.items) class (Some bound) found
      → TakesHeight g cost pats labels old.marks.items new.marks.items lowered
  pub none : lowered ≡ false → found ≡ None
  pub marks : new.marks.items ≡ with_mark old.marks.items class found
  pub table : new.table ≡ with_heights new.marks.items old.table
  pub tops : new.tops.now ≡ old.tops.now

-- what a search at one class does: it lowers the height or not, and no match would lower it then, if it is still
pub record LowersHeight {C : Type 0} (costs : C → Cost) (d : Given C) (old new : Heights) (class : ℕ)
    (visit : Visit) : Type 0 where
  pub search : IsHeightSearch (costs d.task.now.cost.now) d new.tops.now new.marks.items
  pub takes : TakesFrom (costs d.task.now.cost.now) d old.marks.items new.marks.items visit.lowered
  pub reached : visit.lowered ≡ false → IsReachedIn costs d old class
  pub still : visit.is_still ≡ true → IsReachedIn costs d new class
  pub others : AreSameBut (λ c. c ≡ class) old.marks.items new.marks.items
  pub table : new.table ≡ with_heights new.marks.items old.table

-- so it does; and where the answer is false, none would lower the height of the complement if none would before
pub record LowersHeightBeside {C : Type 0} (costs : C → Cost) (d : Given C) (old new : Heights) (class : ℕ)
    (result : Visit × Bool) : Type 0 where
  pub lowers : LowersHeight costs d old new class result.0
  pub beside : result.1 ≡ false → IsReachedIn costs d old (flip class) → IsReachedIn costs d new (flip class)

-- what those at the two classes of a place do
pub record LowersHeightPair {C : Type 0} (costs : C → Cost) (d : Given C) (old new : Heights) (place : ℕ)
    (visit : Visit) : Type 0 where
  pub search : IsHeightSearch (costs d.task.now.cost.now) d new.tops.now new.marks.items
  pub lowers : LowersFrom (costs d.task.now.cost.now) d old.marks.items new.marks.items
      (λ c. c / 2 ≡ place) visit.lowered
  pub still : visit.is_still ≡ true → (c : ℕ) → c / 2 ≡ place → IsReachedIn costs d new c
  pub others : AreSameBut (λ c. c / 2 ≡ place) old.marks.items new.marks.items
  pub table : new.table ≡ with_heights new.marks.items old.table

-- no class has a mark, each has a place among the labels, and the table, where there is one, has no height
pub record MayStart {C : Type 0} (d : Given C) (h : Heights) : Type 0 where
  pub none : h.marks.items ≡ replicate (length d.task.now.graph.now.pairs) None
  pub one_each : length d.labels.now ≡ length d.task.now.graph.now.pairs
  pub table : IfSome h.table (HasHeightsOf h.marks.items)

-- the inputs' classes have got their labels and the height 0
pub record HaveStarted {C : Type 0} (d : Given C) (old new : Heights) : Type 0 where
  pub heights : (cost : Cost) (pats : List Pattern) → AreLowering d.task.now.graph.now cost pats d.labels.now
      → AreHeightMarks d.task.now.graph.now cost pats d.labels.now new.marks.items
  pub table : new.table ≡ with_heights new.marks.items old.table
  pub tops : new.tops.now ≡ old.tops.now

-- visits of the places of a graph, and heights that fall
pub record AreHeightRounds {C : Type 0} (costs : C → Cost) (d : Given C) (r : HeightRounds) : Type 0 where
  pub places : r.visits.places ≡ places_of d.task.now.graph.now
  pub falling : AreHeightsFalling
      (costs d.task.now.cost.now) d r.heights.tops.now r.heights.table r.heights.marks.items r.visits.still

-- what heights are begun with: what is given, what is known of gaps, no marks, and a table without heights or none
pub record MayStartRounds {C : Type 0} (costs : C → Cost) (d : Given C) (v : VisitState) (t : Option LabelState)
    (marks : List (Option Mark)) (tops : TopsState) : Type 0 where
  pub places : v.places ≡ places_of d.task.now.graph.now
  pub given : AreGiven d.task.now.graph.now (costs d.task.now.cost.now) d.task.now.pats.now d.bounds.now d.labels.now
  pub known : AreKnown (costs d.task.now.cost.now) d.task.now.pats.now d.bounds.now.gaps tops
  pub none : marks ≡ replicate (length d.task.now.graph.now.pairs) None
  pub table : IfSome t (IsNewTable d.task.now.graph.now d.task.now.pats.now)

-- the visits have the same order, and heights fall still: some have fallen, or none has and none would at these classes
pub record LowersHeightsAt {C : Type 0} (costs : C → Cost) (d : Given C) (old new : HeightRounds) (at : ℕ → Type 0)
    (changed : Bool) : Type 0 where
  pub order : new.visits.order ≡ old.visits.order
  pub rounds : AreHeightRounds costs d new
  pub lowers : LowersFrom (costs d.task.now.cost.now) d old.heights.marks.items new.heights.marks.items at changed

-- a round does so, at no class in particular or, if it is a whole one, at each
abbrev pub LowersHeightRound : {C : Type 0} → (C → Cost) → Given C → HeightRounds → HeightRounds → Bool → Bool → Type 0
LowersHeightRound costs d old new whole changed =
    LowersHeightsAt costs d old new (λ c. (whole ≡ true) × (c < length d.task.now.graph.now.pairs)) changed

-- rounds until none changes a height, in the same order: the last has lowered one, or none would fall
pub record LowersHeightRounds {C : Type 0} (costs : C → Cost) (d : Given C) (old new : HeightRounds)
    (changed : Bool) : Type 0 where
  pub order : new.visits.order ≡ old.visits.order
  pub rounds : AreHeightRounds costs d new
  pub falls : changed ≡ true → heights_weight new.heights.marks.items < heights_weight old.heights.marks.items
  pub reached : changed ≡ false → (c : ℕ) → c < length d.task.now.graph.now.pairs → IsReachedIn costs d new.heights c

-- a table may get its rows at a place that is not still
pub record MaySetRows {C : Type 0} (d : Given C) (v : VisitState) (t : Option LabelState) (place : ℕ) : Type 0 where
  pub within : place < places_of d.task.now.graph.now
  pub places : v.places ≡ places_of d.task.now.graph.now
  pub moving : slice_index_or v.still place false ≡ false
  pub table : IfSome t (IsHeightTable d.task.now.graph.now d.task.now.pats.now v.still)

-- the table is one for the graph still, and has the same heights
pub record SetsRows {C : Type 0} (d : Given C) (v : VisitState) (old new : Option LabelState) : Type 0 where
  pub table : IfSome new (IsHeightTable d.task.now.graph.now d.task.now.pats.now v.still)
  pub heights : (marks : List (Option Mark)) → IfSome old (HasHeightsOf marks) → IfSome new (HasHeightsOf marks)

-- all that is filled in, as it is before anything is found
pub record IsUnmarked {C : Type 0} (t : Task C) (r : Room) : Type 0 where
  pub places : r.visits.places ≡ places_of t.graph.now
  pub still : r.visits.still ≡ replicate (places_of t.graph.now) false
  pub fits : BoundsFit r.bounds t.pats.now t.graph.now
  pub zero : AreZero r.bounds.numbers
  pub table : IfSome r.table (IsNewTable t.graph.now t.pats.now)
  pub no_labels : r.labels.items ≡ replicate (length t.graph.now.pairs) None
  pub no_marks : r.marks.items ≡ replicate (length t.graph.now.pairs) None

-- so it is, the patterns are of the cells that the costs are for, and gaps are known as far as the numbers say
pub record MayMark {C : Type 0} (costs : C → Cost) (t : Task C) (r : Room) (tops : TopsState) : Type 0 where
  pub cells : AreOfCells (costs t.cost.now).pin_counts t.pats.now
  pub unmarked : IsUnmarked t r
  pub known : AreKnown (costs t.cost.now) t.pats.now r.bounds.gaps tops
