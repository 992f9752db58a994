use Rattle.std.proofs.Common.{◌≡◌, ◌++◌, take}
use Rattle.lw_lut.specs.Packed.{joined_bits}
use Rattle.lw_lut.proofs.cut.joined.Given as goal

abbrev pub invariant-loop-pin : goal.invariant-loop-pin
invariant-loop-pin l = record {
  pins : l.cut.pins ≡ l.fn.of.x.now.pins ++ take l.pin-index l.pin-items;
  bits : l.cut.bits ≡ joined_bits l.fn.of.x.now l.fn.of.pair.x.0 l.fn.of.y.now l.fn.of.pair.y.0 l.fn.of.class.0;
}
