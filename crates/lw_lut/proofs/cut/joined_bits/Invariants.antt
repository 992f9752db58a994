use Rattle.std.proofs.Common.{◌≡◌, ◌+◌, ◌^◌, ◌-◌, length}
use Rattle.lw_lut.specs.Packed.{packed, joined_value}
use Rattle.lw_lut.proofs.cut.joined_bits.Given as goal

abbrev pub invariant-loop-place : goal.invariant-loop-place
invariant-loop-place l =
    l.bits ≡ packed (joined_value l.of.x.now l.of.pair.x.0 l.of.y.now l.of.pair.y.0 l.of.class.0) l.place (2 ^ (length l.of.x.now.pins + length l.of.y.now.pins) - l.place)
