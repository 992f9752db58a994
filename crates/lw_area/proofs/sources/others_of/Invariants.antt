use Rattle.std.proofs.Common.{take}
use Rattle.lw_area.specs.Sources.{AreOthersOf}
use Rattle.lw_area.proofs.sources.others_of.Given as goal

abbrev pub invariant-loop-one : goal.invariant-loop-one
invariant-loop-one l = AreOthersOf (take l.one-index l.further) l.others.items
