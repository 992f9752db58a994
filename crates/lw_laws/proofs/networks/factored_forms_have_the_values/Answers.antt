-- By the lemma.
use Rattle.lw_laws.proofs.FormTruth.{signals_agree}
use Rattle.lw_laws.proofs.networks.factored_forms_have_the_values.Goals as goal

pub returns : goal.returns
returns c = λ width net x. signals_agree x width net
