use Rattle.std.proofs.Common.{◌≡◌, length, take}
use Rattle.lw_lut.specs.Texts.{binary}
use Rattle.lw_lut.proofs.rows.binary.Given as goal

abbrev pub invariant-loop-k : goal.invariant-loop-k
invariant-loop-k l = record {
  long : length l.digits ≡ 6;
  same : take l.k l.digits ≡ take l.k (binary l.fn.bits.count l.fn.place);
}
