use Rattle.std.proofs.Common.{◌≡◌, ◌++◌, ◌+◌, ◌%◌, ◌/◌, ◌∙◌, ap, length, arith}
use Rattle.std.specs.Prelude.{decimal}
use Rattle.std.proofs.lemmas.Fmt.{length-decimal-le}
use Rattle.lw_fixed.proofs.Six.{seven}
use Rattle.lw_fixed.proofs.Written.{point_over}
use Rattle.lw_fixed.proofs.printing.write_in_full.Goals as goal

pub write_digits-requires : goal.write_digits-requires
write_digits-requires c =
    let size : length (decimal (1000000 + c.args.value % 1000000)) ≡ 7 = seven (c.args.value % 1000000) (omega arith) in
    (omega arith, omega arith)

pub write_digits-requires-2 : goal.write_digits-requires-2
write_digits-requires-2 c =
    (length-decimal-le 14 (c.args.value / 1000000) (omega arith) (omega arith) (omega arith), omega arith)

pub returns-clause-text : goal.returns-clause-text
returns-clause-text c =
    c.write_digits-2.ensures.written ∙ ap (λ r. decimal (c.args.value / 1000000) ++ r)
    (point_over (c.args.value % 1000000) c.write_digits.result c.args.text.now c.write_digits.new.buf (omega arith) (omega arith) c.write_digits.ensures.start c.write_digits.ensures.written (omega arith))
