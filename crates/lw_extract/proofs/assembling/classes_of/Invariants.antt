use Rattle.std.proofs.Common.{◌≡◌, take}
use Rattle.lw_extract.specs.Choosing.{chosen_classes}
use Rattle.lw_extract.proofs.assembling.classes_of.Given as goal
use Rattle.lw_pool.specs.Numbers.{numbers}

abbrev pub invariant-loop-x : goal.invariant-loop-x
invariant-loop-x l = numbers l.classes.items ≡ chosen_classes (take l.x-index l.chosen)
