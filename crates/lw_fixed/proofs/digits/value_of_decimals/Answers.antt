use Rattle.std.proofs.Common.{refl, ◌-◌, ◌∙◌, ap, arith}
use Rattle.lw_fixed.specs.Decimals.{value_of_decimals}
use Rattle.lw_fixed.proofs.Values.{padded_step, one_more}
use Rattle.lw_fixed.proofs.digits.value_of_decimals.Goals as goal

pub loop-place-preserved : goal.loop-place-preserved
loop-place-preserved c =
    (padded_step c.args.decimals.now c.loop-place.place c.loop-place.value c.from.result _ c.requires (omega arith) c.loop-place.invariant.0 (c.from.ensures ∙ ap (λ d. d - 48) c.digit_or_zero.ensures.digit) refl, one_more _ _ _ c.loop-place.invariant.1 (omega arith))

pub returns-clause-value : goal.returns-clause-value
unfolding value_of_decimals
returns-clause-value c = grind arith
