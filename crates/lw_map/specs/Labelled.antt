-- Labels that were found, the table of bounds for them, and how often stored matches were read.
use Rattle.std.specs.Prelude.{ℕ, ◌≡◌, List, Option, None, IfSome}
use Rattle.lw_laws.specs.Choices.{Labels}
use Rattle.lw_laws.specs.Covers.{Pattern}
use Rattle.lw_laws.specs.Costs.{Cost}
use Rattle.lw_laws.specs.Graphs.{Graph}
use Rattle.lw_laws.specs.Rounds.{labels_in}
use Rattle.lw_bounds.specs.Bounds.{AreBounds, BoundsFit}
use Rattle.lw_cost.specs.Labels.{AreLeastMarks, costs_of}
use Rattle.lw_settle.specs.Steps.{AreSteps}
use Rattle.lw_map.specs.declared.labelling.Labeller.{Labeller}
use Rattle.lw_map.specs.declared.labelling.Labeller.TheVariants.{Rounds, Store}
use Rattle.lw_map.specs.declared.labelling.Labelled.{Labelled}
use Rattle.lw_map.specs.declared.problem.Problem.{Problem}

-- In rounds no stored match is read.
abbrev pub AreStepsBy : Labeller → Graph → List Pattern → Labels → Option ℕ → Type 0
AreStepsBy Rounds g pats labels steps = steps ≡ None
AreStepsBy Store g pats labels steps = AreSteps g pats labels steps

-- The labels are least, and a table, where there is one, bounds what matches cost under them.
pub record HasLeastLabels (cost : Cost) (p : Problem) (l : Labelled) : Type 0 where
  pub least : AreLeastMarks p.choices.now.graph cost p.pats l.labels
  pub fits : IfSome l.bounds (λ b. BoundsFit b p.pats p.choices.now.graph)
  pub bounds : IfSome l.bounds (λ b. AreBounds b p.choices.now.graph l.labels)

-- The labels are least and were found in this way.
pub record AreFoundBy (labeller : Labeller) (cost : Cost) (p : Problem) (l : Labelled) : Type 0 where
  pub labels : HasLeastLabels cost p l
  pub steps : AreStepsBy labeller p.choices.now.graph p.pats (labels_in (costs_of l.labels)) l.steps
