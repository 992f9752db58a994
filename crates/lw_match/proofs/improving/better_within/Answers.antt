use Rattle.std.proofs.Common.{sym, subst, arith}
use Rattle.lw_bounds.specs.Cuts.{CutsState, AreCutsOf}
use Rattle.lw_match.specs.Cutting.{AreKnown}
use Rattle.lw_match.specs.Sites.{AreKnownAt, IsSite}
use Rattle.lw_bounds.proofs.CutsOfBounds.{bounds_cut_well}
use Rattle.lw_match.proofs.Sites.{bounds_site, outcome_of}
use Rattle.lw_match.proofs.improving.better_within.Goals as goal

pub find_better_at-requires-clause-site : goal.find_better_at-requires-clause-site
find_better_at-requires-clause-site g c = subst (IsSite g.C.Cost.CAP g.C.Cost.costs) (sym c.new-site.ensures) (bounds_site g.C.Cost.costs g.C.Cost.CAP _ c.args.bounds.now c.requires.may c.cuts-cuts.ensures.state c.cuts-cuts.ensures.roots (record { capped = omega arith; below = λ b i. omega arith }))

pub find_better_at-requires-clause-known : goal.find_better_at-requires-clause-known
find_better_at-requires-clause-known g c =
    let known = subst (λ (cuts : CutsState). AreKnown (g.C.Cost.costs c.args.cost.now) c.args.pats.now cuts.gaps c.args.tops.now) (sym c.cuts-cuts.ensures.state) c.requires.known in
    subst (λ s. AreKnownAt g.C.Cost.costs s c.args.tops.now) (sym c.new-site.ensures) known

pub returns-clause-known : goal.returns-clause-known
returns-clause-known g c =
    let known = subst (λ s. AreKnownAt g.C.Cost.costs s c.find_better_at.new.tops) c.new-site.ensures c.find_better_at.ensures.known in
    subst (λ (cuts : CutsState). AreKnown (g.C.Cost.costs c.args.cost.now) c.args.pats.now cuts.gaps c.find_better_at.new.tops) c.cuts-cuts.ensures.state known

pub returns-clause-outcome : goal.returns-clause-outcome
returns-clause-outcome g c =
    let is = outcome_of g.C.Cost.costs c.new-site.result _ c.any.result _ c.find_better_at.result c.new-site.ensures c.any.ensures c.find_better_at.ensures.outcome in
    record {
      sound = is.sound;
      none = is.none;
      least = λ t bounds. is.least t (subst (λ (cuts : CutsState). AreCutsOf cuts c.args.pats.now c.args.graph.now c.args.marks.now) (sym c.cuts-cuts.ensures.state) (bounds_cut_well c.args.bounds.now c.args.pats.now c.args.graph.now c.args.marks.now c.requires.may.fits bounds));
    }
