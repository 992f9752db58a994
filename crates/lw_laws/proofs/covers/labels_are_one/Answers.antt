-- By the lemma.
use Rattle.lw_laws.proofs.Together.{same_labels}
use Rattle.lw_laws.proofs.covers.labels_are_one.Goals as goal

pub returns : goal.returns
returns c = λ g pats cost rounds settled is. same_labels g pats cost rounds settled is.few is.cost_is
