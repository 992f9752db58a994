-- By the lemma.
use Rattle.lw_laws.proofs.Listed.{true_and_inputs_first}
use Rattle.lw_laws.proofs.networks.true_and_inputs_come_first.Goals as goal

pub returns : goal.returns
returns c = λ width net wide. true_and_inputs_first width wide net
