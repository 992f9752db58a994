use Rattle.std.proofs.Common.{◌==◌, ap, sym, arith}
use Rattle.std.proofs.lemmas.Nat.Bits.{bit_at_above}
use Rattle.lw_report.proofs.outputs.is_set.Goals as goal

pub returns-then-k-ge64 : goal.returns-then-k-ge64
returns-then-k-ge64 c = ap (λ n. n == 1) (sym (bit_at_above c.args.word 64 c.args.k c.ranges.word.fits (omega (arith, c.if-k-ge64.true))))
