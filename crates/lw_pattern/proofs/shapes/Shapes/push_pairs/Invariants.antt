use Rattle.std.proofs.Common.{◌≡◌, ◌++◌, take}
use Rattle.lw_laws.specs.Patterns.{all_pairs}
use Rattle.lw_pattern.specs.Steps.{law_operator}
use Rattle.lw_pattern.proofs.shapes.Shapes.push_pairs.Given as goal

abbrev pub invariant-loop-first : goal.invariant-loop-first
invariant-loop-first l = l.self ≡ l.fn.self ++ all_pairs (law_operator l.operator) (take l.first-index l.left) l.right
