use Rattle.std.proofs.Common.{◌≡◌, ◌-◌, length, eqb, arith}
use Rattle.std.specs.List.{suffix_len}
use Rattle.std.proofs.lemmas.Bool.{eq-eqb, ne_eqb}
use Rattle.std.proofs.lemmas.List.Sums.{suffix_len_is}
use Rattle.lw_fixed.proofs.printing.places_kept.Goals as goal

pub returns-else-digits-places-eq48 : goal.returns-else-digits-places-eq48
returns-else-digits-places-eq48 c =
    let is : suffix_len (λ d. eqb d 48) c.args.digits.now ≡ length c.args.digits.now - c.loop-places.places =
    suffix_len_is (λ d. eqb d 48) c.args.digits.now c.loop-places.places 0 c.loop-places.invariant.0
    (λ k le lt. eq-eqb _ _ (c.loop-places.invariant.1 k le lt)) (λ some. ne_eqb _ _ c.if-digits-places-eq48.false) in
    omega arith

pub returns-after-loop-places : goal.returns-after-loop-places
returns-after-loop-places c =
    let is : suffix_len (λ d. eqb d 48) c.args.digits.now ≡ length c.args.digits.now - c.loop-places.places =
    suffix_len_is (λ d. eqb d 48) c.args.digits.now c.loop-places.places 0 c.loop-places.invariant.0
    (λ k le lt. eq-eqb _ _ (c.loop-places.invariant.1 k le lt)) (λ some. absurd (omega arith)) in
    omega arith
