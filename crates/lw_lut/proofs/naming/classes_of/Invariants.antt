use Rattle.std.proofs.Common.{◌≡◌, take}
use Rattle.lw_lut.specs.Nets.{table_classes}
use Rattle.lw_lut.proofs.naming.classes_of.Given as goal
use Rattle.lw_pool.specs.Numbers.{numbers}

abbrev pub invariant-loop-x : goal.invariant-loop-x
invariant-loop-x l = numbers l.classes.items ≡ table_classes (take l.x-index l.tables)
