use Rattle.std.proofs.Common.{◌≡◌, take}
use Rattle.lw_lut.proofs.making.copy_of.Given as goal

abbrev pub invariant-loop-name : goal.invariant-loop-name
invariant-loop-name l = l.copies.items ≡ take l.name-index l.name-items
