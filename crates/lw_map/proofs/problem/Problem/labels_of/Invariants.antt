use Rattle.lw_map.specs.Trading.{HaveLabelsTo}
use Rattle.lw_map.proofs.problem.Problem.labels_of.Given as goal

abbrev pub invariant-loop-k : goal.invariant-loop-k
invariant-loop-k l = HaveLabelsTo l.marks l.self.choices.now.roots l.k l.labels.items
