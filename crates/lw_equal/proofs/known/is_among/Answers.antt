use Rattle.std.proofs.Common.{◌≡◌, None, Some, arith, sym}
use Rattle.std.specs.List.{position}
use Rattle.std.specs.Str.{bytes_eq}
use Rattle.lw_equal.proofs.Names.{is_in, is_outside, is_nowhere}
use Rattle.lw_equal.proofs.known.is_among.Goals as goal

pub returns-in_default : goal.returns-in_default
returns-in_default c = sym (is_nowhere c.args.set.now.keys c.args.from c.args.to c.args.name.now c.requires (sym c.in_default.ensures.index))

pub returns-then-place-from : goal.returns-then-place-from
returns-then-place-from c = sym (is_outside c.args.set.now.keys c.args.from c.args.to c.in-Some.place c.args.name.now c.requires (sym c.in-Some.ensures.index) (λ low high. omega (arith, low, c.if-place-from.true)))

pub returns-then-place-to : goal.returns-then-place-to
returns-then-place-to c = sym (is_outside c.args.set.now.keys c.args.from c.args.to c.in-Some.place c.args.name.now c.requires (sym c.in-Some.ensures.index) (λ low high. omega (arith, high, c.if-place-to.true)))

pub returns : goal.returns
returns c = sym (is_in c.args.set.now.keys c.args.from c.args.to c.in-Some.place c.args.name.now (sym c.in-Some.ensures.index) (omega (arith, c.if-place-from.false)) (omega (arith, c.if-place-to.false)))
