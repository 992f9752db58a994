-- By the lemma.
use Rattle.lw_laws.proofs.Mapping.{value_at}
use Rattle.lw_laws.proofs.mappings.mapped_outputs_have_values.Goals as goal

pub returns : goal.returns
returns c = λ mode width net g pats timing n class truth order over truths. value_at mode width net g pats timing n class over order truth truths
