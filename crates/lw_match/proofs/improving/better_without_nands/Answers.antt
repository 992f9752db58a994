use Rattle.std.proofs.Common.{sym, subst}
use Rattle.lw_match.specs.Sites.{IsSite}
use Rattle.lw_match.proofs.Sites.{bounds_site, found_at}
use Rattle.lw_match.proofs.improving.better_without_nands.Goals as goal

pub leaves-leaves-requires : goal.leaves-leaves-requires
leaves-leaves-requires g c = subst (IsSite g.C.Cost.CAP g.C.Cost.costs) (sym c.new-site.ensures) (bounds_site g.C.Cost.costs g.C.Cost.CAP _ c.args.bounds.now c.requires.may c.cuts-cuts.ensures.state c.cuts-cuts.ensures.roots c.requires.floor)

pub query-requires-clause-site : goal.query-requires-clause-site
query-requires-clause-site g c = subst (IsSite g.C.Cost.CAP g.C.Cost.costs) (sym c.new-site.ensures) (bounds_site g.C.Cost.costs g.C.Cost.CAP _ c.args.bounds.now c.requires.may c.cuts-cuts.ensures.state c.cuts-cuts.ensures.roots c.requires.floor)

pub returns : goal.returns
returns g c =
    found_at g.C.Cost.costs c.new-site.result _ c.query.result c.args.bound c.find_better_of.result c.query.ensures.site c.new-site.ensures c.find_better_of.ensures
