use Rattle.std.proofs.Common.{◌≡◌, take}
use Rattle.lw_lut.specs.Cuts.{spelled}
use Rattle.lw_lut.specs.Tables.{given}
use Rattle.lw_lut.proofs.table.spelled.Given as goal
use Rattle.lw_pool.specs.Numbers.{numbers}

abbrev pub invariant-loop-pin : goal.invariant-loop-pin
invariant-loop-pin l = l.number ≡ spelled (given (numbers l.fanins.classes.now) l.place) (numbers (take l.pin-index l.classes))
