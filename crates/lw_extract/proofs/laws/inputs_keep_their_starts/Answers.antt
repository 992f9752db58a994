-- By the lemma.
use Rattle.lw_extract.proofs.Arriving.{forms_have_leaf_labels}
use Rattle.lw_extract.proofs.laws.inputs_keep_their_starts.Goals as goal

pub returns : goal.returns
returns c = forms_have_leaf_labels
