use Rattle.std.proofs.Common.{◌≡◌, ◌++◌, take}
use Rattle.lw_laws.specs.Patterns.{each_with}
use Rattle.lw_pattern.specs.Steps.{law_operator}
use Rattle.lw_pattern.proofs.shapes.Shapes.push_each.Given as goal

abbrev pub invariant-loop-other : goal.invariant-loop-other
invariant-loop-other l = l.self-inside.items.items ≡ l.fn.self ++ each_with (law_operator l.operator) l.first (take l.other-index l.others)
