use Rattle.std.proofs.Common.{take}
use Rattle.std.specs.List.{list_any}
use Rattle.lw_sweep.specs.Sweeps.{IsExtended}
use Rattle.lw_equal.specs.Cells.{Makes, itself}
use Rattle.lw_equal.proofs.cells.some_of.Given as goal

abbrev pub invariant-parts : goal.invariant-parts
invariant-parts l = record { grown : IsExtended l.fn.sweep l.sweep; makes : Makes l.sweep (take l.part-index l.parts) (list_any itself) l.some }
