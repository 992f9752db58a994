use Rattle.std.proofs.Common.{subst}
use Rattle.lw_check.specs.Standing.{StandsAlone}
use Rattle.lw_check.proofs.Standings.{pair_alone}
use Rattle.lw_check.proofs.standing.class_of_pair.Goals as goal

pub returns-in-Some-Some : goal.returns-in-Some-Some
returns-in-Some-Some c = λ w t u l r.
    pair_alone c.args.graph.now w t u c.in-Some-Some.left c.in-Some-Some.right c.holder.result c.classes.ensures.kept c.holder.ensures.some c.holder.ensures.none c.holder.ensures.within
    (subst (λ o. StandsAlone c.args.graph.now w t o) c.in-Some-Some.is-0 l)
    (subst (λ o. StandsAlone c.args.graph.now w u o) c.in-Some-Some.is-1 r)
