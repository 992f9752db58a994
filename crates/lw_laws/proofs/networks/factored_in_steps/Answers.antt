-- By the lemma.
use Rattle.lw_laws.proofs.Factoring.{factored_step}
use Rattle.lw_laws.proofs.networks.factored_in_steps.Goals as goal

pub returns : goal.returns
returns c = λ width fs rows. factored_step fs width rows
