use Rattle.std.proofs.Common.{◌∙◌, ap, sym}
use Rattle.std.specs.List.{before_first, after_first}
use Rattle.lw_fixed.specs.Decimals.{is_point}
use Rattle.lw_fixed.proofs.Verdicts.{is_shape, is_large, is_fine, is_below, is_read}
use Rattle.lw_fixed.proofs.reading.read.Goals as goal

pub returns-then-not-has_digits-clause-value : goal.returns-then-not-has_digits-clause-value
returns-then-not-has_digits-clause-value c =
    is_shape _ _ _ _ (c.around_point.ensures.before ∙ ap (before_first is_point) c.after_sign.ensures) (c.around_point.ensures.after ∙ ap (after_first is_point) c.after_sign.ensures)
    (sym c.has_digits.ensures ∙ c.if-not-has_digits.true)

pub returns-then-whole-units-clause-value : goal.returns-then-whole-units-clause-value
returns-then-whole-units-clause-value c =
    is_large _ _ _ _ (c.around_point.ensures.before ∙ ap (before_first is_point) c.after_sign.ensures) (c.around_point.ensures.after ∙ ap (after_first is_point) c.after_sign.ensures)
    _ (sym c.has_digits.ensures ∙ c.if-not-has_digits.false) c.capped_value-whole.ensures c.if-whole-units.true

pub returns-then-is_finer-clause-value : goal.returns-then-is_finer-clause-value
returns-then-is_finer-clause-value c =
    is_fine _ _ _ _ (c.around_point.ensures.before ∙ ap (before_first is_point) c.after_sign.ensures) (c.around_point.ensures.after ∙ ap (after_first is_point) c.after_sign.ensures)
    _ (sym c.has_digits.ensures ∙ c.if-not-has_digits.false) c.capped_value-whole.ensures c.if-whole-units.false (sym c.is_finer.ensures ∙ c.if-is_finer.true)

pub returns-then-is_below_zero-clause-value : goal.returns-then-is_below_zero-clause-value
returns-then-is_below_zero-clause-value c =
    is_below _ _ _ _ (c.around_point.ensures.before ∙ ap (before_first is_point) c.after_sign.ensures) (c.around_point.ensures.after ∙ ap (after_first is_point) c.after_sign.ensures)
    _ (sym c.has_digits.ensures ∙ c.if-not-has_digits.false) c.capped_value-whole.ensures c.if-whole-units.false
    _ (sym c.is_finer.ensures ∙ c.if-is_finer.false) c.value_of_decimals.ensures.value (sym c.is_below_zero.ensures ∙ c.if-is_below_zero.true)

pub returns-clause-value : goal.returns-clause-value
returns-clause-value c =
    is_read _ _ _ _ (c.around_point.ensures.before ∙ ap (before_first is_point) c.after_sign.ensures) (c.around_point.ensures.after ∙ ap (after_first is_point) c.after_sign.ensures)
    _ (sym c.has_digits.ensures ∙ c.if-not-has_digits.false) c.capped_value-whole.ensures c.if-whole-units.false
    _ (sym c.is_finer.ensures ∙ c.if-is_finer.false) c.value_of_decimals.ensures.value (sym c.is_below_zero.ensures ∙ c.if-is_below_zero.false)
