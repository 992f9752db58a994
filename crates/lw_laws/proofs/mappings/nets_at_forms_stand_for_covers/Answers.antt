-- By the lemma.
use Rattle.lw_laws.proofs.Mapping.{form_covered_at}
use Rattle.lw_laws.proofs.mappings.nets_at_forms_stand_for_covers.Goals as goal

pub returns : goal.returns
returns c = λ mode inputs o g pats timing n class arrivals sound over. form_covered_at mode inputs o sound g pats timing n class over arrivals
