use Rattle.std.proofs.Common.{◌<◌, ◌≤◌, inl, inr, refl, ◌∙◌, subst, sym, arith}
use Rattle.std.proofs.lemmas.Bool.{cases_eq}
use native.Mathlib.Decide.{dec_lt}
use Rattle.lw_lut.specs.Reaches.{IsIn}
use Rattle.lw_lut.specs.Searches.{total}
use Rattle.lw_lut.specs.declared.search.Search.{Search}
use Rattle.lw_lut.specs.declared.span.Span.{Span}
use Rattle.lw_lut.proofs.search.Search.lower_round.Goals as goal

pub loop-class-init : goal.loop-class-init
loop-class-init c = record {
  counts = λ d are. are;
  depths = refl;
  bounded = λ d lt out known. c.requires.bounded d lt (λ i. elim known [
    | inl before ↦ let f = i.first in omega (arith, f, before)
    | inr not ↦ not i
  ]);
  elsewhere = λ k out. refl;
  fewer = omega arith;
  falls = λ d i. absurd (c.nothing-next.ensures d i);
}

pub lower_at-next-requires-clause-may : goal.lower_at-next-requires-clause-may
lower_at-next-requires-clause-may c =
    let (d, are) = c.requires.may.counts in
    record { low = c.requires.may.low; counts = (d, c.loop-class.invariant.counts d are) }

pub loop-class-preserved : goal.loop-class-preserved
loop-class-preserved c =
    let inv = c.loop-class.invariant in
    let step = c.lower_at-next.ensures in
    let few = inv.fewer in
    record {
      counts = λ d are. step.counts d (inv.counts d are);
      depths = step.depths ∙ inv.depths;
      bounded = λ d lt out known. step.bounded d out (elim (cases_eq d c.loop-class.class) [
        | inl e ↦ inl e
        | inr ne ↦ inr (inv.bounded d lt (λ i. out (step.grown d i)) (elim known [ inl b ↦ inl (omega (arith, b, ne)) | inr not ↦ inr not ]))
      ]);
      elsewhere = λ k out. step.elsewhere k (λ e. let lt = c.loop-class-test.true in let top = c.min-class-end.ensures in out c.loop-class.class (sym e) (record { first = c.loop-class.auto.class; last = omega (arith, lt, top) })) ∙ inv.elsewhere k out;
      fewer = elim step.falls [
        | inl less ↦ omega (arith, less, few)
        | inr (r, s) ↦ subst (λ (t : Search). total t.counts.items ≤ total c.args.self.now.counts.items) (sym s) few
      ];
      falls = λ d i. elim step.falls [
        | inl less ↦ omega (arith, less, few)
        | inr (r, s) ↦ subst (λ (t : Search). total t.counts.items < total c.args.self.now.counts.items) (sym s) (inv.falls d (subst (λ (p : Span). IsIn p d) r i))
      ];
    }

pub returns : goal.returns
returns c =
    let inv = c.loop-class.invariant in
    record {
      counts = inv.counts;
      depths = inv.depths;
      bounded = λ d lt out.
          let end = c.loop-class-test.false in
          let top = c.min-class-end.ensures in
          let all = c.classes.ensures.classes in
          inv.bounded d lt out (elim (dec_lt d c.loop-class.class) [
            | yes before ↦ inl before
            | no after ↦ inr (λ i. let l = i.last in omega (arith, l, after, end, top, all, lt))
          ]);
      elsewhere = inv.elsewhere;
      fewer = inv.fewer;
      falls = inv.falls;
    }
