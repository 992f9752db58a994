-- By the lemma.
use Rattle.lw_laws.proofs.Mapping.{form_value_at}
use Rattle.lw_laws.proofs.mappings.nets_at_forms_have_values.Goals as goal

pub returns : goal.returns
returns c = λ mode inputs o g pats timing n class truth sound over. form_value_at mode inputs o sound g pats timing n class over truth
