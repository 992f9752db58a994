use Rattle.std.proofs.Common.{◌≡◌, ◌^◌, ◌-◌, length}
use Rattle.lw_lut.specs.Packed.{packed}
use Rattle.lw_lut.specs.Tables.{table_value}
use Rattle.lw_lut.proofs.table.bits_over.Given as goal
use Rattle.lw_pool.specs.Numbers.{numbers}

abbrev pub invariant-loop-place : goal.invariant-loop-place
invariant-loop-place l = l.bits ≡ packed (table_value l.cut l.fn.class.0 (numbers l.fanins.classes.now)) l.place (2 ^ length l.fanins.classes.now - l.place)
