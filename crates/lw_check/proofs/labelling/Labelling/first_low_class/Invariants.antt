use Rattle.std.proofs.Common.{ℕ, ◌<◌}
use Rattle.lw_laws.specs.Rounds.{labels_in}
use Rattle.lw_check.specs.Least.{IsLow}
use Rattle.lw_check.proofs.labelling.Labelling.first_low_class.Given as goal

abbrev pub invariant-loop-number : goal.invariant-loop-number
invariant-loop-number g l = (b : ℕ) → b < l.number → IsLow l.self.graph.now (g.C.Cost.costs l.self.by.cost.now) l.self.by.pats.now (labels_in l.self.labels.now) b → ⊥
