use Rattle.std.proofs.Common.{◌≡◌, take}
use Rattle.lw_lut.proofs.making.inputs_of.Given as goal
use Rattle.lw_pool.specs.Numbers.{numbers}

abbrev pub invariant-loop-input : goal.invariant-loop-input
invariant-loop-input l = numbers l.classes.items ≡ take l.input l.graph.leaves
