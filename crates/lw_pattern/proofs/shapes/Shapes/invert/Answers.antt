use Rattle.std.proofs.Common.{arith}
use Rattle.lw_laws.specs.Patterns.{inverted}
use Rattle.lw_pattern.proofs.Bracketings.{changed_next}
use Rattle.lw_pattern.proofs.shapes.Shapes.invert.Goals as goal

pub loop-shape-preserved : goal.loop-shape-preserved
loop-shape-preserved c = changed_next inverted c.loop-shape.shape-items c.args.self.now c.loop-shape.shape-index c.shape-item.result c.invert.new.self c.loop-shape.invariant (omega arith) c.in_ok-invert.ensures
