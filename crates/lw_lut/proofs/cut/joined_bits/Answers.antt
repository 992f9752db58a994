use Rattle.std.proofs.Common.{◌<◌, ◌≤◌, ◌≡◌, ◌-◌, ◌^◌, ◌+◌, ◌∙◌, length, ap₂, subst, sym, arith}
use Rattle.lw_lut.specs.Packed.{joined_value}
use Rattle.lw_lut.proofs.Bits.{few_numbers, packed_fits, packed_before}
use Rattle.lw_lut.proofs.cut.joined_bits.Goals as goal

pub appended-bits-requires : goal.appended-bits-requires
appended-bits-requires c =
    let f = joined_value c.args.of.now.x.now c.args.of.now.pair.x.0 c.args.of.now.y.now c.args.of.now.pair.y.0 c.args.of.now.class.0 in
    let all = 2 ^ (length c.args.of.now.x.now.pins + length c.args.of.now.y.now.pins) in
    let place = c.loop-place.place in
    let few : all ≤ 64 = few_numbers (length c.args.of.now.x.now.pins + length c.args.of.now.y.now.pins) c.args.of.now.few in
    subst (λ n. n < 2 ^ 63) (sym c.loop-place.invariant) (packed_fits f place (all - place) (omega (arith, few, c.loop-place-test.true)))

pub loop-place-preserved : goal.loop-place-preserved
loop-place-preserved c =
    let f = joined_value c.args.of.now.x.now c.args.of.now.pair.x.0 c.args.of.now.y.now c.args.of.now.pair.y.0 c.args.of.now.class.0 in
    let all = 2 ^ (length c.args.of.now.x.now.pins + length c.args.of.now.y.now.pins) in
    let place = c.loop-place.place in
    let same : c.numbers_of-place.result ≡ all = c.numbers_of-place.ensures ∙ ap₂ (λ xs ys. 2 ^ (length xs + length ys)) c.pins.ensures.pins c.pins-2.ensures.pins in
    let within : place ≤ all = subst (λ n. place ≤ n) same c.loop-place.auto.place in
    c.appended-bits.ensures ∙ packed_before f place all c.loop-place.bits c.loop-place-test.true within c.loop-place.invariant c.joined_value-value.result c.joined_value-value.ensures
