-- By the lemma.
use Rattle.lw_laws.proofs.Together.{least_covers}
use Rattle.lw_laws.proofs.covers.labels_are_least_covers.Goals as goal

pub returns : goal.returns
returns c = λ g pats cost labels is. least_covers g pats cost labels is.few is.once is.patterns is.cost_is
