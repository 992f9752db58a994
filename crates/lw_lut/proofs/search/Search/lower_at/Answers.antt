use Rattle.std.proofs.Common.{◌/◌, inl, inr, refl, subst, sym}
use Rattle.lw_lut.specs.Reaches.{FallsAt, IsIn, span_at}
use Rattle.lw_lut.specs.Searches.{IsBoundedAt}
use Rattle.lw_lut.specs.declared.search.Search.{Search}
use Rattle.lw_lut.proofs.Reaching.{still_bounded}
use Rattle.lw_lut.proofs.search.Search.lower_at.Goals as goal

pub returns-then-not-lower : goal.returns-then-not-lower
returns-then-not-lower c =
    let falls = c.lower.ensures.falls in
    let same = falls.same c.if-not-lower.true in
    record {
      counts = c.lower.ensures.counts;
      depths = c.lower.ensures.depths;
      elsewhere = c.lower.ensures.elsewhere;
      grown = λ d i. i;
      falls = inr (refl, same);
      bounded = λ d out known. subst (λ (s : Search). IsBoundedAt c.args.task.now.graph.now s.counts.items d) (sym same) (elim known [
        | inl e ↦ falls.bounded c.if-not-lower.true d e
        | inr b ↦ b
      ]);
    }

pub returns : goal.returns
returns c =
    let reach = c.args.task.now.reach.now in
    let place = c.args.class.0 / 2 in
    let falls : FallsAt reach c.args.self.now.counts.items c.lower.new.self.counts.items place c.with.result = record {
      fewer = c.lower.ensures.fewer;
      elsewhere = c.lower.ensures.elsewhere;
      seen = λ ne q i. c.with.ensures.one q (c.join.ensures.other q (subst (λ k. IsIn (span_at reach k) q) (sym c.place_of.ensures) i));
    } in
    record {
      counts = c.lower.ensures.counts;
      depths = c.lower.ensures.depths;
      elsewhere = c.lower.ensures.elsewhere;
      grown = λ d i. c.with.ensures.one d (c.join.ensures.one d i);
      falls = inl (c.lower.ensures.falls.falls c.if-not-lower.false);
      bounded = λ d out known. elim known [
        | inl e ↦ absurd (out (subst (λ k. IsIn c.with.result k) (sym e) c.with.ensures.class))
        | inr b ↦ still_bounded c.args.task.now.graph.now reach c.args.task.now.reaches.reaches c.args.self.now.counts.items c.lower.new.self.counts.items place c.with.result falls d out b
      ];
    }
