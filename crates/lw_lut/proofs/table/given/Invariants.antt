use Rattle.std.proofs.Common.{◌≡◌, drop}
use Rattle.lw_lut.specs.Tables.{given}
use Rattle.lw_lut.proofs.table.given.Given as goal
use Rattle.lw_pool.specs.Numbers.{numbers}

abbrev pub invariant-loop-k : goal.invariant-loop-k
invariant-loop-k l = given (numbers l.classes) l.place l.class.0 ≡ given (numbers (drop l.k l.classes)) l.place l.class.0
