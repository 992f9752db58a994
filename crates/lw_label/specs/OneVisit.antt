-- Labels that are found by one visit of each place.
use Rattle.std.specs.Prelude.{ℕ, ◌<◌, ◌≤◌, ◌≡◌, ◌⊎◌, ◌/◌, Bool, List, length, Option, Some, None, slice_set}
use Rattle.lw_laws.specs.Graphs.{Graph, HoldsPair}
use Rattle.lw_laws.specs.Costs.{Cost}
use Rattle.lw_laws.specs.Covers.{Pattern}
use Rattle.lw_laws.specs.Laws.{IsCoverProblem}
use Rattle.lw_graph.specs.Graphs.{IsGraph}
use Rattle.lw_cost.specs.declared.mark.Best.{Best}
use Rattle.lw_cost.specs.declared.mark.Mark.{Mark}
use Rattle.lw_bounds.specs.Numbers.{number_from, start_of}
use Rattle.lw_bounds.specs.Bounds.{BoundsState, AreBounds, AreRows, AreSettledAt, BoundsFit, IsTableBut}
use Rattle.lw_match.specs.Cutting.{AreKnown, TopsState}
use Rattle.lw_cost.specs.Least.{AreOfCells}
use Rattle.lw_label.specs.Heights.{AreSameBut}
use Rattle.lw_label.specs.Lowering.{AreLowering, IsBounded, LabelState}
use Rattle.lw_label.specs.Orders.{ArePartsStill, IsStillAt, VisitState, places_of}

-- the marks, where a class gets the cost of a match that was found
abbrev pub with_label : List (Option Mark) → ℕ → Option Best → List (Option Mark)
with_label marks c None = marks
with_label marks c (Some best) =
    slice_set marks c (Some (record { cost = best.mark.cost; height = 0 }))

-- only the numbers and the marks of these classes are others
pub record IsSameBut (at : ℕ → Type 0) (old new : LabelState) : Type 0 where
  pub table : IsTableBut at old.bounds new.bounds
  pub marks : AreSameBut at old.marks new.marks

-- the places that are still have parts that are still, and no number and no label would fall there
pub record AreLabelsStill (g : Graph) (cost : Cost) (pats : List Pattern) (s : LabelState)
    (still : List Bool) : Type 0 where
  pub parts : (c : ℕ) → IsStillAt still c → ArePartsStill g still c
  pub settled : (c : ℕ) → IsStillAt still c → AreSettledAt s.bounds g s.marks c
  pub bounded : (c : ℕ) → IsStillAt still c → IsBounded g cost pats s.marks c

-- labels are sought: a graph with the patterns of cells, a table of these, and labels so far
pub record AreSought (g : Graph) (cost : Cost) (pats : List Pattern) (b : BoundsState)
    (marks : List (Option Mark)) : Type 0 where
  pub of_cells : AreOfCells cost.pin_counts pats
  pub problem : IsCoverProblem g pats cost
  pub fits : BoundsFit b pats g
  pub lowering : AreLowering g cost pats marks

-- so they are, and something is known of gaps
pub record IsSearch (g : Graph) (cost : Cost) (pats : List Pattern) (b : BoundsState) (tops : TopsState)
    (marks : List (Option Mark)) : Type 0 where
  pub sought : AreSought g cost pats b marks
  pub known : AreKnown cost pats b.gaps tops

-- so it is in a graph, some of whose places are still
pub record AreFalling (g : Graph) (cost : Cost) (pats : List Pattern) (s : LabelState) (tops : TopsState)
    (still : List Bool) : Type 0 where
  pub graph : IsGraph g
  pub search : IsSearch g cost pats s.bounds tops s.marks
  pub kept : AreLabelsStill g cost pats s still

-- the numbers of the class are 0
abbrev pub IsZeroAt : BoundsState → ℕ → Type 0
IsZeroAt b c =
    (n : ℕ) → n < length b.parts → number_from b.numbers n (start_of b.starts c) ≡ 0

-- the numbers of each class are 0, or none of them would fall and the parts are still
abbrev pub AreZeroOrSettled : Graph → LabelState → List Bool → Type 0
AreZeroOrSettled g s still =
    (c : ℕ) → IsZeroAt s.bounds c ⊎ (AreSettledAt s.bounds g s.marks c × ArePartsStill g still c)

-- the table is one of bounds, whatever marks the classes of the place have
abbrev pub AreBoundsAround : BoundsState → Graph → List (Option Mark) → ℕ → Type 0
AreBoundsAround b g marks place =
    (other : List (Option Mark)) → AreSameBut (λ c. c / 2 ≡ place) marks other → AreBounds b g other

-- the parts of the place are other places
abbrev pub ArePartsElsewhere : Graph → ℕ → Type 0
ArePartsElsewhere g place =
    (c x y : ℕ) → c / 2 ≡ place → HoldsPair g c x y → (x / 2 ≡ place → ⊥) × (y / 2 ≡ place → ⊥)

-- the first mark costs no less than the other, so that no match at the other's class with it at a pin costs less
abbrev pub IsNoCheaper : Option Mark → Option Mark → Type 0
IsNoCheaper mark other =
    (m : Mark) → mark ≡ Some m → (o : Mark) × (other ≡ Some o) × (o.cost ≤ m.cost)

-- labels are sought at a place, and the table is one of bounds whatever marks its classes have
pub record IsSearchAround (g : Graph) (cost : Cost) (pats : List Pattern) (b : BoundsState) (tops : TopsState)
    (marks : List (Option Mark)) (place : ℕ) : Type 0 where
  pub search : IsSearch g cost pats b tops marks
  pub around : AreBoundsAround b g marks place

-- a table with the rows of the graph, and as many marks as classes, where the parts of the place are other places
pub record AreRowsAround (g : Graph) (b : BoundsState) (marks : List (Option Mark)) (place : ℕ) : Type 0 where
  pub one_each : length marks ≡ length g.pairs
  pub rows : AreRows b.parts b.starts b.numbers g
  pub elsewhere : ArePartsElsewhere g place

-- only the numbers of the classes of the place are others, and none of them would fall
pub record AreSetAt (g : Graph) (marks : List (Option Mark)) (place : ℕ) (old new : BoundsState) : Type 0 where
  pub others : IsTableBut (λ c. c / 2 ≡ place) old new
  pub settled : (c : ℕ) → c / 2 ≡ place → AreSettledAt new g marks c

-- visits of the places of a graph, and labels that fall
pub record IsRound (g : Graph) (cost : Cost) (pats : List Pattern) (v : VisitState) (s : LabelState)
    (tops : TopsState) : Type 0 where
  pub places : v.places ≡ places_of g
  pub falling : AreFalling g cost pats s tops v.still

-- the visits are the same, and labels fall still
pub record IsRoundAfter (g : Graph) (cost : Cost) (pats : List Pattern) (old new : VisitState) (s : LabelState)
    (tops : TopsState) : Type 0 where
  pub visits : new ≡ old
  pub falling : AreFalling g cost pats s tops old.still

-- a round in which each class has the numbers 0, or its numbers are settled
pub record IsFirstRound (g : Graph) (cost : Cost) (pats : List Pattern) (v : VisitState) (s : LabelState)
    (tops : TopsState) : Type 0 where
  pub round : IsRound g cost pats v s tops
  pub numbers : AreZeroOrSettled g s v.still
