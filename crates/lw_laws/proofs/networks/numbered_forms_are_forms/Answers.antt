-- By the lemma.
use Rattle.lw_laws.proofs.Agreement.{numbered_are_forms}
use Rattle.lw_laws.proofs.networks.numbered_forms_are_forms.Goals as goal

pub returns : goal.returns
returns c = numbered_are_forms
