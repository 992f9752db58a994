use Rattle.std.proofs.Common.{◌∙◌, sym}
use Rattle.std.proofs.lemmas.Bool.{eq-eqb, ne_eqb}
use Rattle.lw_genlib.proofs.Assignments.{high_pin, low_pin}
use Rattle.lw_genlib.proofs.Bits.{bit_ones, bit_zero}
use Rattle.lw_equal.proofs.trying.input_word.Goals as goal

pub returns-then-input-lt6 : goal.returns-then-input-lt6
returns-then-input-lt6 c = low_pin c.args.block c.args.input c.if-input-lt6.true

pub returns-then-block-input-eq1 : goal.returns-then-block-input-eq1
returns-then-block-input-eq1 c k lt = bit_ones k lt ∙ sym (high_pin c.args.block c.args.input c.if-input-lt6.false k lt ∙ eq-eqb _ _ c.if-block-input-eq1.true)

pub returns-else-block-input-eq1 : goal.returns-else-block-input-eq1
returns-else-block-input-eq1 c k lt = bit_zero k lt ∙ sym (high_pin c.args.block c.args.input c.if-input-lt6.false k lt ∙ ne_eqb _ _ c.if-block-input-eq1.false)
