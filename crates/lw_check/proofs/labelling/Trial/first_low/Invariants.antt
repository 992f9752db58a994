use Rattle.std.proofs.Common.{ℕ, ◌<◌}
use Rattle.lw_laws.specs.Rounds.{labels_in}
use Rattle.lw_check.specs.Least.{IsLow}
use Rattle.lw_check.proofs.labelling.Trial.first_low.Given as goal

abbrev pub invariant-loop-number : goal.invariant-loop-number
invariant-loop-number g l = (b : ℕ) → b < l.number → IsLow l.self.given.now.graph.now (g.C.Cost.costs l.self.given.now.by.cost.now) l.self.given.now.by.pats.now (labels_in l.self.given.now.labels.now) b → ⊥
