use Rattle.std.proofs.Common.{◌==◌, ap, sym, arith}
use Rattle.std.proofs.lemmas.Nat.Bits.{bit_at_above}
use Rattle.lw_lut.proofs.cut.is_set.Goals as goal

pub returns-then-place-ge64 : goal.returns-then-place-ge64
returns-then-place-ge64 c = ap (λ n. n == 1) (sym (bit_at_above c.args.bits 64 c.args.place c.ranges.bits.fits (omega (arith, c.if-place-ge64.true))))
