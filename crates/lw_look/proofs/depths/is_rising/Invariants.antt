use Rattle.std.proofs.Common.{◌↔◌, drop}
use Rattle.lw_look.specs.Depths.{IsRisingFrom}
use Rattle.lw_look.proofs.depths.is_rising.Given as goal

abbrev pub invariant-loop-depth : goal.invariant-loop-depth
invariant-loop-depth l = IsRisingFrom 0 l.depths ↔ IsRisingFrom l.last (drop l.depth-index l.depths)
