use Rattle.std.proofs.Common.{sym, subst}
use Rattle.lw_bounds.specs.Cuts.{CutsState, CutsFit, AreCutsOf}
use Rattle.lw_match.specs.Cutting.{AreKnown}
use Rattle.lw_match.specs.Sites.{AreKnownAt, IsSite}
use Rattle.lw_bounds.proofs.CutsOfBounds.{bounds_cut, bounds_cut_well}
use Rattle.lw_bounds.proofs.HeightCuts.{heights_fit, heights_cut, gaps_with}
use Rattle.lw_match.proofs.Sites.{outcome_of}
use Rattle.lw_match.proofs.improving.lower_within.Goals as goal

pub find_better_at-requires-clause-site : goal.find_better_at-requires-clause-site
find_better_at-requires-clause-site g c =
    let own = subst (λ (cuts : CutsState). CutsFit cuts c.args.graph.now) (sym c.cuts.ensures.state) (bounds_cut c.args.bounds.now c.args.pats.now c.args.graph.now c.requires.may.fits) in
    subst (IsSite g.C.Cost.CAP g.C.Cost.costs) (sym c.new-site.ensures) (record {
      class = c.requires.may.class;
      one_each = c.requires.may.one_each;
      in_range = c.requires.may.in_range;
      of_cells = c.requires.may.of_cells;
      cuts_fit = subst (λ (cuts : CutsState). CutsFit cuts c.args.graph.now) (sym c.with_heights-cuts.ensures.state) (heights_fit _ c.args.pats.now c.args.graph.now c.args.marks.now c.args.heights c.requires.may.one_each c.classes.ensures.kept.even c.requires.heights own);
      listed = c.with_heights-cuts.ensures.roots c.cuts.ensures.roots;
      floor_is = c.requires.floor;
    })

pub find_better_at-requires-clause-known : goal.find_better_at-requires-clause-known
find_better_at-requires-clause-known g c =
    let costs = g.C.Cost.costs c.args.cost.now in
    let pats = c.args.pats.now in
    let known = subst (λ (cuts : CutsState). AreKnown costs pats cuts.gaps c.args.tops.now) (sym c.cuts.ensures.state) c.requires.known in
    let with_them = subst (λ gaps. AreKnown costs pats gaps c.args.tops.now) (sym (gaps_with _ c.args.graph.now c.args.heights)) known in
    let there = subst (λ (cuts : CutsState). AreKnown costs pats cuts.gaps c.args.tops.now) (sym c.with_heights-cuts.ensures.state) with_them in
    subst (λ s. AreKnownAt g.C.Cost.costs s c.args.tops.now) (sym c.new-site.ensures) there

pub returns-clause-known : goal.returns-clause-known
returns-clause-known g c =
    let costs = g.C.Cost.costs c.args.cost.now in
    let pats = c.args.pats.now in
    let tops = c.find_better_at.new.tops in
    let there = subst (λ s. AreKnownAt g.C.Cost.costs s tops) c.new-site.ensures c.find_better_at.ensures.known in
    let with_them = subst (λ (cuts : CutsState). AreKnown costs pats cuts.gaps tops) c.with_heights-cuts.ensures.state there in
    let known = subst (λ gaps. AreKnown costs pats gaps tops) (gaps_with _ c.args.graph.now c.args.heights) with_them in
    subst (λ (cuts : CutsState). AreKnown costs pats cuts.gaps tops) c.cuts.ensures.state known

pub returns-clause-outcome : goal.returns-clause-outcome
returns-clause-outcome g c =
    let is = outcome_of g.C.Cost.costs c.new-site.result _ c.least.result _ c.find_better_at.result c.new-site.ensures c.least.ensures c.find_better_at.ensures.outcome in
    record {
      sound = is.sound;
      none = is.none;
      least = λ t bounds.
          let own = subst (λ (cuts : CutsState). AreCutsOf cuts c.args.pats.now c.args.graph.now c.args.marks.now) (sym c.cuts.ensures.state) (bounds_cut_well c.args.bounds.now c.args.pats.now c.args.graph.now c.args.marks.now c.requires.may.fits bounds) in
          is.least t (subst (λ (cuts : CutsState). AreCutsOf cuts c.args.pats.now c.args.graph.now c.args.marks.now) (sym c.with_heights-cuts.ensures.state) (heights_cut _ c.args.pats.now c.args.graph.now c.args.marks.now c.args.heights c.requires.heights own));
    }
