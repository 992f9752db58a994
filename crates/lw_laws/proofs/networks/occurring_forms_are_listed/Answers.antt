-- By the lemma.
use Rattle.lw_laws.proofs.Listed.{occurring_is_listing}
use Rattle.lw_laws.proofs.networks.occurring_forms_are_listed.Goals as goal

pub returns : goal.returns
returns c = λ width net wide. occurring_is_listing width wide net
