use Rattle.std.proofs.Common.{◌≡◌, ◌++◌, map, take, drop}
use Rattle.lw_laws.specs.Patterns.{tree_by}
use Rattle.lw_pattern.specs.Steps.{law_operator}
use Rattle.lw_pattern.proofs.shapes.Shapes.join_each.Given as goal

abbrev pub invariant-loop-shape : goal.invariant-loop-shape
invariant-loop-shape l = l.shape-items ≡ map (λ t. tree_by (law_operator l.operator) t l.other) (take l.shape-index l.fn.self) ++ drop l.shape-index l.fn.self
