-- By the lemma.
use Rattle.lw_laws.proofs.Mapping.{unlabelled_form}
use Rattle.lw_laws.proofs.mappings.unlabelled_forms_have_no_cover.Goals as goal

pub returns : goal.returns
returns c = unlabelled_form
