-- By the lemma.
use Rattle.lw_laws.proofs.Normal.{conjunction_step}
use Rattle.lw_laws.proofs.networks.conjunction_in_steps.Goals as goal

pub returns : goal.returns
returns c = λ width fs wide. conjunction_step 0 width wide fs
