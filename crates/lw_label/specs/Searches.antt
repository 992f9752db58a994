-- Labels that fall: what searches, visits and rounds do to them.
use Rattle.std.specs.Prelude.{ℕ, ◌<◌, ◌≡◌, ◌/◌, Bool, true, false, List, Option, None, length, replicate}
use Rattle.std.specs.Prelude.{slice_index_or}
use Rattle.lw_laws.specs.Costs.{Cost}
use Rattle.lw_laws.specs.Covers.{Pattern}
use Rattle.lw_laws.specs.Flip.{flip}
use Rattle.lw_laws.specs.Graphs.{Graph}
use Rattle.lw_laws.specs.Laws.{IsCoverProblem}
use Rattle.lw_cost.specs.declared.mark.Best.{Best}
use Rattle.lw_bounds.specs.Bounds.{AreBounds, AreZero, BoundsFit}
use Rattle.lw_match.specs.Cutting.{AreKnown, IsMatchWithin}
use Rattle.lw_cost.specs.Least.{AreOfCells}
use Rattle.lw_cost.specs.Values.{marks_in}
use Rattle.lw_label.specs.declared.heights.Visit.{Visit}
use Rattle.lw_label.specs.declared.labelling.LabelRounds.{LabelRounds}
use Rattle.lw_label.specs.declared.labelling.Labelling.{Labelling}
use Rattle.lw_label.specs.declared.labelling.Task.{Task}
use Rattle.lw_label.specs.Heights.{AreGiven, AreSameBut}
use Rattle.lw_label.specs.Lowering.{AreLowering, IsBounded, IsLabelled, LabelState, Lowers, Takes, state, state_weight}
use Rattle.lw_label.specs.Orders.{places_of}
use Rattle.lw_label.specs.OneVisit.{AreSetAt, IsFirstRound, IsRound, IsRoundAfter, IsSameBut, IsSearch, IsSearchAround}
use Rattle.lw_label.specs.OneVisit.{with_label}

-- the patterns are of the cells that the costs are for
abbrev pub HasCells : {C : Type 0} → (C → Cost) → Task C → Type 0
HasCells costs t = AreOfCells (costs t.cost.now).pin_counts t.pats.now

-- the table of bounds, and the marks
abbrev pub state_of : Labelling → LabelState
state_of l = state l.bounds l.marks.items

-- matches can be sought that lower labels
abbrev pub MayLower : {C : Type 0} → (C → Cost) → Task C → Labelling → Type 0
MayLower costs t l = IsSearch t.graph.now (costs t.cost.now) t.pats.now l.bounds l.tops.now l.marks.items

-- so they can, and the table is one of bounds whatever marks the classes of the place have
abbrev pub MayLowerAround : {C : Type 0} → (C → Cost) → Task C → Labelling → ℕ → Type 0
MayLowerAround costs t l place =
    IsSearchAround t.graph.now (costs t.cost.now) t.pats.now l.bounds l.tops.now l.marks.items place

-- no match at the class would lower its label
abbrev pub IsBoundedIn : {C : Type 0} → (C → Cost) → Task C → Labelling → ℕ → Type 0
IsBoundedIn costs t l c = IsBounded t.graph.now (costs t.cost.now) t.pats.now l.marks.items c

-- a class gets the cost of a match that was found
pub record PutsLabel (old new : Labelling) (class : ℕ) (found : Option Best) (lowered : Bool) : Type 0 where
  pub takes : (g : Graph) (cost : Cost) (pats : List Pattern) → IsCoverProblem g pats cost
      → AreLowering g cost pats old.marks.items → IsMatchWithin g cost pats (marks_in old.marks.items) class
      (slice_index_or old.marks.items class None) found → Takes g cost pats old.marks.items new.marks.items lowered
  pub none : lowered ≡ false → found ≡ None
  pub marks : new.marks.items ≡ with_label old.marks.items class found
  pub table : new.bounds ≡ old.bounds
  pub tops : new.tops.now ≡ old.tops.now

-- only the marks of these classes are others, and one has fallen, or none has changed
pub record LowersMarks {C : Type 0} (costs : C → Cost) (t : Task C) (old new : Labelling) (at : ℕ → Type 0)
    (changed : Bool) : Type 0 where
  pub search : MayLower costs t new
  pub table : new.bounds ≡ old.bounds
  pub takes : Takes t.graph.now (costs t.cost.now) t.pats.now old.marks.items new.marks.items changed
  pub others : AreSameBut at old.marks.items new.marks.items

-- what a search at one class does: it lowers the label or not, and no match would lower it then, by a table of bounds,
-- if it is still
pub record LowersMark {C : Type 0} (costs : C → Cost) (t : Task C) (old new : Labelling) (class : ℕ)
    (visit : Visit) : Type 0 where
  pub marks : LowersMarks costs t old new (λ c. c ≡ class) visit.lowered
  pub none : visit.lowered ≡ false → visit.is_still ≡ true
  pub bounded : visit.is_still ≡ true → AreBounds old.bounds t.graph.now old.marks.items → IsBoundedIn costs t new class

-- what a visit of a place does in rounds: only its numbers and labels are others, and some have fallen, or none would
pub record LowersPair {C : Type 0} (costs : C → Cost) (t : Task C) (old new : Labelling) (place : ℕ)
    (changed : Bool) : Type 0 where
  pub search : MayLower costs t new
  pub lowers : Lowers t.graph.now (costs t.cost.now) t.pats.now (state_of old) (state_of new)
      (λ c. c / 2 ≡ place) changed
  pub others : IsSameBut (λ c. c / 2 ≡ place) (state_of old) (state_of new)

-- the classes of the place have got the numbers that their pairs give
pub record SetsNumbers (g : Graph) (old new : Labelling) (place : ℕ) : Type 0 where
  pub set : AreSetAt g old.marks.items place old.bounds new.bounds
  pub marks : new.marks.items ≡ old.marks.items
  pub tops : new.tops.now ≡ old.tops.now

-- the labels of these classes alone are others, and the search can go on by the same table
pub record AreFoundAt {C : Type 0} (costs : C → Cost) (t : Task C) (old new : Labelling)
    (at : ℕ → Type 0) : Type 0 where
  pub search : MayLower costs t new
  pub table : new.bounds ≡ old.bounds
  pub others : AreSameBut at old.marks.items new.marks.items

-- that of the class has been lowered until no match would lower it
pub record IsFound {C : Type 0} (costs : C → Cost) (t : Task C) (old new : Labelling) (class : ℕ)
    (lowered : Bool) : Type 0 where
  pub found : AreFoundAt costs t old new (λ c. c ≡ class)
  pub same : lowered ≡ false → new.marks.items ≡ old.marks.items
  pub bounded : IsBoundedIn costs t new class

-- so it has been; and where the answer is false, no match would lower that of its complement if none would before
pub record IsFoundBeside {C : Type 0} (costs : C → Cost) (t : Task C) (old new : Labelling) (class : ℕ)
    (may_fall : Bool) : Type 0 where
  pub found : AreFoundAt costs t old new (λ c. c ≡ class)
  pub bounded : IsBoundedIn costs t new class
  pub beside : may_fall ≡ false → IsBoundedIn costs t old (flip class) → IsBoundedIn costs t new (flip class)

-- those of the two classes of the place have been lowered, and no match would lower one if that is told
pub record ArePairFound {C : Type 0} (costs : C → Cost) (t : Task C) (old new : Labelling) (place : ℕ)
    (is_found : Bool) : Type 0 where
  pub found : AreFoundAt costs t old new (λ c. c / 2 ≡ place)
  pub bounded : is_found ≡ true → (c : ℕ) → c / 2 ≡ place → IsBoundedIn costs t new c

-- visits of the places of the graph, and labels that fall
abbrev pub AreRounds : {C : Type 0} → (C → Cost) → Task C → LabelRounds → Type 0
AreRounds costs t r =
    IsRound t.graph.now (costs t.cost.now) t.pats.now r.visits (state_of r.labelling) r.labelling.tops.now

-- the visits are the same, and labels fall still
abbrev pub AreRoundsAfter : {C : Type 0} → (C → Cost) → Task C → LabelRounds → LabelRounds → Type 0
AreRoundsAfter costs t old new = IsRoundAfter t.graph.now (costs t.cost.now) t.pats.now old.visits new.visits
    (state_of new.labelling) new.labelling.tops.now

-- such visits, where each class has the numbers 0, or its numbers are settled
abbrev pub AreFirstRounds : {C : Type 0} → (C → Cost) → Task C → LabelRounds → Type 0
AreFirstRounds costs t r =
    IsFirstRound t.graph.now (costs t.cost.now) t.pats.now r.visits (state_of r.labelling) r.labelling.tops.now

-- labels fall still: some number or label has fallen, or none has and none would at these classes
pub record LowersAt {C : Type 0} (costs : C → Cost) (t : Task C) (old new : LabelRounds) (at : ℕ → Type 0)
    (changed : Bool) : Type 0 where
  pub after : AreRoundsAfter costs t old new
  pub lowers : Lowers t.graph.now (costs t.cost.now) t.pats.now (state_of old.labelling)
      (state_of new.labelling) at changed

-- a round does so, at no class in particular or, if it is a whole one, at each
abbrev pub LowersRound : {C : Type 0} → (C → Cost) → Task C → LabelRounds → LabelRounds → Bool → Bool → Type 0
LowersRound costs t old new whole changed =
    LowersAt costs t old new (λ c. (whole ≡ true) × (c < length t.graph.now.pairs)) changed

-- rounds until none changes something: the last has lowered something, or no number and no label would fall
pub record LowersRounds {C : Type 0} (costs : C → Cost) (t : Task C) (old new : LabelRounds)
    (changed : Bool) : Type 0 where
  pub after : AreRoundsAfter costs t old new
  pub falls : changed ≡ true → state_weight (costs t.cost.now) (state_of new.labelling) < state_weight
      (costs t.cost.now) (state_of old.labelling)
  pub labelled : changed ≡ false → (c : ℕ) → c < length t.graph.now.pairs
      → IsLabelled t.graph.now (costs t.cost.now) t.pats.now (state_of new.labelling) c

-- nothing is found yet: no class has a label, no place is still, and the numbers are 0
pub record AreUnlabelled {C : Type 0} (costs : C → Cost) (t : Task C) (r : LabelRounds) : Type 0 where
  pub cells : HasCells costs t
  pub places : r.visits.places ≡ places_of t.graph.now
  pub still : r.visits.still ≡ replicate (places_of t.graph.now) false
  pub fits : BoundsFit r.labelling.bounds t.pats.now t.graph.now
  pub zero : AreZero r.labelling.bounds.numbers
  pub known : AreKnown (costs t.cost.now) t.pats.now r.labelling.bounds.gaps r.labelling.tops.now
  pub none : r.labelling.marks.items ≡ replicate (length t.graph.now.pairs) None

-- no match would lower a label, and the table is one of bounds
pub record AreLabelled {C : Type 0} (costs : C → Cost) (t : Task C) (old new : LabelRounds) : Type 0 where
  pub places : new.visits.places ≡ old.visits.places
  pub known : AreKnown (costs t.cost.now) t.pats.now new.labelling.bounds.gaps new.labelling.tops.now
  pub given : AreGiven t.graph.now (costs t.cost.now) t.pats.now new.labelling.bounds new.labelling.marks.items
