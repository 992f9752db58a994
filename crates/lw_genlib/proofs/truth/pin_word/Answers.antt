use Rattle.std.proofs.Common.{◌∙◌, sym}
use Rattle.std.proofs.lemmas.Bool.{eq-eqb, ne_eqb}
use Rattle.lw_genlib.proofs.Bits.{bit_ones, bit_zero}
use Rattle.lw_genlib.proofs.Assignments.{low_pin, high_pin}
use Rattle.lw_genlib.proofs.truth.pin_word.Goals as goal

pub returns-then-pin-lt6 : goal.returns-then-pin-lt6
returns-then-pin-lt6 c = low_pin c.args.block c.args.pin c.if-pin-lt6.true

pub returns-then-block-pin-eq1 : goal.returns-then-block-pin-eq1
returns-then-block-pin-eq1 c k lt = bit_ones k lt ∙ sym (high_pin c.args.block c.args.pin c.if-pin-lt6.false k lt ∙ eq-eqb _ _ c.if-block-pin-eq1.true)

pub returns-else-block-pin-eq1 : goal.returns-else-block-pin-eq1
returns-else-block-pin-eq1 c k lt = bit_zero k lt ∙ sym (high_pin c.args.block c.args.pin c.if-pin-lt6.false k lt ∙ ne_eqb _ _ c.if-block-pin-eq1.false)
