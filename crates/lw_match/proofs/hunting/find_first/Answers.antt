use Rattle.std.proofs.Common.{Some, subst}
use Rattle.lw_match.specs.Queries.{FindsWithin}
use Rattle.lw_match.proofs.hunting.find_first.Goals as goal

pub returns-clause-sound : goal.returns-clause-sound
returns-clause-sound g c =
    subst (λ bound. FindsWithin g.C.Cost.costs c.args.query.now bound (Some c.in_ok-best.best)) c.before-target.ensures.bound c.in_ok-best.ensures.sound
