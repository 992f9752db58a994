use Rattle.std.proofs.Common.{◌∙◌, arith}
use native.Mathlib.Decide.{dec_lt}
use Rattle.lw_lut.proofs.search.Search.lower_all.Goals as goal

pub lower_round-span-requires-clause-may : goal.lower_round-span-requires-clause-may
lower_round-span-requires-clause-may c =
    let (d, are) = c.requires.may.counts in
    record { low = c.requires.may.low; counts = (d, c.loop-span.invariant.counts d are) }

pub loop-span-preserved : goal.loop-span-preserved
loop-span-preserved c = record {
  counts = λ d are. c.lower_round-span.ensures.counts d (c.loop-span.invariant.counts d are);
  depths = c.lower_round-span.ensures.depths ∙ c.loop-span.invariant.depths;
  within = λ d i. c.join-swept.ensures.one d (c.loop-span.invariant.within d i);
  now = λ d i. c.join-swept.ensures.other d i;
  elsewhere = λ k out. c.lower_round-span.ensures.elsewhere k (λ d e i. out d e (c.join-swept.ensures.one d (c.loop-span.invariant.now d i))) ∙ c.loop-span.invariant.elsewhere k (λ d e i. out d e (c.join-swept.ensures.one d i));
  bounded = c.lower_round-span.ensures.bounded;
}

pub loop-span-smaller : goal.loop-span-smaller
loop-span-smaller c =
    let few = c.lower_round-span.ensures.fewer in
    let some = c.loop-span-test.true in
    let next = c.lower_round-span.result in
    elim (dec_lt next.low next.high) [
      | yes lt ↦ let less = c.lower_round-span.ensures.falls next.low (record { first = omega arith; last = lt }) in omega (arith, less, some)
      | no ge ↦ omega (arith, few, ge, some)
    ]

pub returns : goal.returns
returns c =
    let inv = c.loop-span.invariant in
    record {
      counts = inv.counts;
      depths = inv.depths;
      bounded = λ d lt. inv.bounded d lt (λ i. let f = i.first in let l = i.last in let end = c.loop-span-test.false in omega (arith, f, l, end));
      within = inv.within;
      elsewhere = inv.elsewhere;
    }
