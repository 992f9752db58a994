use Rattle.std.proofs.Common.{take}
use Rattle.lw_needed.specs.Needed.{HasAlso}
use Rattle.lw_needed.proofs.needed.need.Given as goal

abbrev pub invariant-loop-class : goal.invariant-loop-class
invariant-loop-class l = HasAlso l.fn.needed (take l.class-index l.classes) l.needed
