use Rattle.std.proofs.Common.{◌<◌, ◌≤◌, ◌≡◌, ◌-◌, ◌^◌, ◌∙◌, length, ap, ap₂, subst, sym, arith}
use Rattle.lw_lut.specs.Cuts.{spelled, is_set, turned}
use Rattle.lw_lut.specs.Tables.{table_value, given}
use Rattle.lw_lut.proofs.Bits.{few_numbers, packed_fits, packed_before}
use Rattle.lw_lut.proofs.table.bits_over.Goals as goal
use Rattle.lw_pool.specs.Numbers.{numbers}

pub appended-bits-requires : goal.appended-bits-requires
appended-bits-requires c =
    let f = table_value c.args.cut.now c.args.class.0 (numbers c.args.fanins.now.classes.now) in
    let all = 2 ^ length c.args.fanins.now.classes.now in
    let place = c.loop-place.place in
    let few : all ≤ 64 = few_numbers (length c.args.fanins.now.classes.now) c.args.fanins.now.few in
    subst (λ n. n < 2 ^ 63) (sym c.loop-place.invariant) (packed_fits f place (all - place) (omega (arith, few, c.loop-place-test.true)))

pub loop-place-preserved : goal.loop-place-preserved
loop-place-preserved c =
    let fs = numbers c.args.fanins.now.classes.now in
    let cut = c.args.cut.now in
    let f = table_value cut c.args.class.0 fs in
    let all = 2 ^ length c.args.fanins.now.classes.now in
    let place = c.loop-place.place in
    let within : place ≤ all = subst (λ n. place ≤ n) c.numbers_of-place.ensures c.loop-place.auto.place in
    let number : c.spelled-number.result ≡ spelled (given fs (place - 1)) (numbers cut.pins) = c.spelled-number.ensures.same ∙ ap (λ ps. spelled (given fs (place - 1)) (numbers ps)) c.pins.ensures.pins in
    let value : c.turned.result ≡ f (place - 1) = c.turned.ensures ∙ ap₂ (λ o b. turned o b) c.is_odd.ensures (c.is_set-value.ensures ∙ ap₂ is_set c.bits.ensures number) in
    c.appended-bits.ensures ∙ packed_before f place all c.loop-place.bits c.loop-place-test.true within c.loop-place.invariant c.turned.result value
