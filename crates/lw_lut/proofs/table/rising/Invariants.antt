use Rattle.std.proofs.Common.{take}
use Rattle.lw_lut.proofs.RisingClasses.{AreGathered}
use Rattle.lw_lut.proofs.table.rising.Given as goal

abbrev pub invariant-loop-class : goal.invariant-loop-class
invariant-loop-class l = AreGathered (take l.class-index l.class-items) l.rising.items
