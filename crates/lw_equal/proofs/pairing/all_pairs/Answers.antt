use Rattle.std.proofs.Common.{All, Contains, arith, subst, sym}
use Rattle.lw_equal.specs.Pairs.{IsPair}
use Rattle.lw_equal.specs.declared.point.Kind.TheVariants.{Output, Data}
use Rattle.lw_equal.proofs.Paired.{all_covered, covered_later, grow_twice}
use Rattle.lw_equal.proofs.pairing.all_pairs.Goals as goal

pub returns : goal.returns
returns c =
    let one = c.args.one.now.side.now in
    let other = c.args.other.now.side.now in
    let a = c.add_pairs.new.pairs.items in
    let b = c.add_pairs-2.new.pairs.items in
    let d = c.add_pairs-3.new.pairs.items in
    let first = c.in_ok-add_pairs.ensures in
    let second = c.in_ok-add_pairs-2.ensures in
    let third = c.in_ok-add_pairs-3.ensures in
    let outputs = c.names-outputs.ensures in
    let latches = c.names-latches.ensures in
    all_covered one other d
    (third.grows.sound (second.grows.sound (first.grows.sound (λ k d lt. absurd (omega (arith, lt))))))
    (λ n has. covered_later one other Output n a d (grow_twice one other a b d second.grows third.grows) (first.covers n (subst (λ ns. Contains ns n) (sym outputs) has)))
    (λ n has. covered_later one other Data n b d third.grows (second.covers n (subst (λ ns. Contains ns n) (sym latches) has)))
    (λ n has. third.covers n (subst (λ ns. Contains ns n) (sym latches) has))
