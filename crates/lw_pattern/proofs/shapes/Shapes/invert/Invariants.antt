use Rattle.std.proofs.Common.{◌≡◌, ◌++◌, map, take, drop}
use Rattle.lw_laws.specs.Patterns.{inverted}
use Rattle.lw_pattern.proofs.shapes.Shapes.invert.Given as goal

abbrev pub invariant-loop-shape : goal.invariant-loop-shape
invariant-loop-shape l = l.shape-items ≡ map inverted (take l.shape-index l.fn.self) ++ drop l.shape-index l.fn.self
