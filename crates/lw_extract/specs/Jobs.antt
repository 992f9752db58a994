-- What a cover is made from, and what is said of a job: its choices, and its cover.
use Rattle.std.specs.Prelude.{ℕ, ◌<◌, ◌≡◌, List, length, Option, Some, None, slice_index_or}
use Rattle.lw_laws.specs.Graphs.{Graph}
use Rattle.lw_laws.specs.Costs.{Cost}
use Rattle.lw_laws.specs.Extracts.{IsLeafClass}
use Rattle.lw_cost.specs.declared.mark.Mark.{Mark}
use Rattle.lw_cost.specs.declared.mark.Match.{Match}
use Rattle.lw_bounds.specs.Bounds.{AreBounds, BoundsFit, BoundsState}
use Rattle.lw_extract.specs.declared.job.Job.{Job}
use Rattle.lw_extract.specs.declared.choosing.Chosen.{Chosen}
use Rattle.lw_extract.specs.declared.ports.Cover.{Cover}
use Rattle.lw_extract.specs.Choosing.{AreChosen, IsChoice, RootsHaveMarks}
use Rattle.lw_extract.specs.Covers.{AreFit, AreLibraryLabels, IsCoverBy}

-- the labels are least for patterns of the library's cells, with the starts of the inputs
abbrev pub AreJobLabels : {C : Type 0} → (C → Cost) → Job C → Type 0
AreJobLabels costs job = AreLibraryLabels job.graph.now (costs job.cost.now) job.pats.now job.lib.now job.marks.now

-- and the ports fit, and each root has a label
pub record CanCover {C : Type 0} (costs : C → Cost) (job : Job C) : Type 0 where
  pub labels : AreJobLabels costs job
  pub fit : AreFit job.graph.now job.ports.now
  pub covered : RootsHaveMarks job.marks.now job.ports.now.roots

-- the table has bounds for the labels
pub record AreJobBounds {C : Type 0} (job : Job C) (table : BoundsState) : Type 0 where
  pub fits : BoundsFit table job.pats.now job.graph.now
  pub are : AreBounds table job.graph.now job.marks.now

-- a class of the graph that is no input's
pub record IsInnerClass (g : Graph) (c : ℕ) : Type 0 where
  pub within : c < length g.pairs
  pub no_leaf : IsLeafClass g c → ⊥

-- where the class has a mark, what is found is its chosen match
abbrev pub FindsChoice : {C : Type 0} → (C → Cost) → Job C → ℕ → Option Match → Type 0
FindsChoice costs job c result =
    (mark : Mark) → slice_index_or job.marks.now c None ≡ Some mark
    → (found : Match) × (result ≡ Some found) × IsChoice job.graph.now
    (costs job.cost.now) job.pats.now job.marks.now c found

-- the classes with a gate, in order, each with its chosen match
abbrev pub AreJobChoices : {C : Type 0} → (C → Cost) → Job C → List Chosen → Type 0
AreJobChoices costs job chosen =
    AreChosen job.graph.now (costs job.cost.now) job.pats.now job.marks.now job.ports.now.roots chosen

-- the cover that the labels give
abbrev pub IsJobCover : {C : Type 0} → (C → Cost) → Job C → Cover → Type 0
IsJobCover costs job made =
    IsCoverBy job.graph.now (costs job.cost.now) job.pats.now job.lib.now job.marks.now job.ports.now made
