use Rattle.std.proofs.Common.{◌∙◌, subst}
use Rattle.lw_laws.proofs.Flips.{xor-one}
use Rattle.lw_check.specs.Standing.{StandsAlone}
use Rattle.lw_check.proofs.Standings.{inv_alone}
use Rattle.lw_check.proofs.standing.complement.Goals as goal

pub returns-in-Some : goal.returns-in-Some
returns-in-Some c = λ w t alone. inv_alone c.args.graph.now w t c.in-Some.class c.flip.result c.classes.ensures.kept (c.flip.ensures ∙ xor-one c.in-Some.class.0) (subst (λ o. StandsAlone c.args.graph.now w t o) c.in-Some.is alone)
