use Rattle.std.proofs.Common.{◌∙◌, sym, subst}
use Rattle.lw_cost.specs.Values.{marks_in}
use Rattle.lw_bounds.specs.Cuts.{CutsState, AreCutsOf}
use Rattle.lw_match.specs.Cutting.{AreKnown}
use Rattle.lw_match.specs.Sites.{AreKnownAt, AreTrueAt, IsSite}
use Rattle.lw_bounds.proofs.CutsOfBounds.{bounds_cut_well}
use Rattle.lw_match.proofs.Picks.{last_floor}
use Rattle.lw_match.proofs.Sites.{bounds_site, sure_query, least_at, last_at}
use Rattle.lw_match.proofs.choosing.least_before.Goals as goal

pub leaves-leaves-requires : goal.leaves-leaves-requires
leaves-leaves-requires g c = subst (IsSite g.C.Cost.CAP g.C.Cost.costs) (sym c.new-site.ensures) (bounds_site g.C.Cost.costs g.C.Cost.CAP _ c.args.bounds.now c.requires.may c.cuts-cuts.ensures.state c.cuts-cuts.ensures.roots (last_floor c.args.graph.now (g.C.Cost.costs c.args.cost.now) c.args.pats.now (marks_in c.args.marks.now) c.args.class.0 c.args.bound c.requires.last))

pub query-requires-clause-site : goal.query-requires-clause-site
query-requires-clause-site g c = subst (IsSite g.C.Cost.CAP g.C.Cost.costs) (sym c.new-site.ensures) (bounds_site g.C.Cost.costs g.C.Cost.CAP _ c.args.bounds.now c.requires.may c.cuts-cuts.ensures.state c.cuts-cuts.ensures.roots (last_floor c.args.graph.now (g.C.Cost.costs c.args.cost.now) c.args.pats.now (marks_in c.args.marks.now) c.args.class.0 c.args.bound c.requires.last))

pub choose_least-requires-clause-asked : goal.choose_least-requires-clause-asked
choose_least-requires-clause-asked g c =
    let known = subst (λ (cuts : CutsState). AreKnown (g.C.Cost.costs c.args.cost.now) c.args.pats.now cuts.gaps c.args.tops.now) (sym c.cuts-cuts.ensures.state) c.requires.known in
    sure_query g.C.Cost.costs g.C.Cost.CAP c.new-site.result c.query.result c.args.tops.now c.query.ensures.site c.query.ensures.query (subst (IsSite g.C.Cost.CAP g.C.Cost.costs) (sym c.new-site.ensures) (bounds_site g.C.Cost.costs g.C.Cost.CAP _ c.args.bounds.now c.requires.may c.cuts-cuts.ensures.state c.cuts-cuts.ensures.roots (last_floor c.args.graph.now (g.C.Cost.costs c.args.cost.now) c.args.pats.now (marks_in c.args.marks.now) c.args.class.0 c.args.bound c.requires.last))) (subst (λ s. AreKnownAt g.C.Cost.costs s c.args.tops.now) (sym c.new-site.ensures) known)

pub choose_least-requires-clause-bounds : goal.choose_least-requires-clause-bounds
choose_least-requires-clause-bounds g c =
    let bounds = subst (λ (cuts : CutsState). AreCutsOf cuts c.args.pats.now c.args.graph.now c.args.marks.now) (sym c.cuts-cuts.ensures.state) (bounds_cut_well c.args.bounds.now c.args.pats.now c.args.graph.now c.args.marks.now c.requires.may.fits c.requires.bounds) in
    subst AreTrueAt (sym (c.query.ensures.site ∙ c.new-site.ensures)) bounds

pub choose_least-requires-clause-last : goal.choose_least-requires-clause-last
choose_least-requires-clause-last g c =
    last_at g.C.Cost.costs _ c.query.result c.args.bound (c.query.ensures.site ∙ c.new-site.ensures) c.requires.last

pub returns-clause-known : goal.returns-clause-known
returns-clause-known g c =
    let there = subst (λ s. AreKnownAt g.C.Cost.costs s c.choose_least.new.tops) (c.query.ensures.site ∙ c.new-site.ensures) c.choose_least.ensures.known in
    subst (λ (cuts : CutsState). AreKnown (g.C.Cost.costs c.args.cost.now) c.args.pats.now cuts.gaps c.choose_least.new.tops) c.cuts-cuts.ensures.state there

pub returns-clause-least : goal.returns-clause-least
returns-clause-least g c =
    least_at g.C.Cost.costs _ c.query.result c.args.bound c.choose_least.result (c.query.ensures.site ∙ c.new-site.ensures) c.choose_least.ensures.least
