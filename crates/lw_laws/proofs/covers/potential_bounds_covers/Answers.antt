-- By the lemma.
use Rattle.lw_laws.proofs.Together.{bounds_covers}
use Rattle.lw_laws.proofs.covers.potential_bounds_covers.Goals as goal

pub returns : goal.returns
returns c = λ g pats cost labels is. bounds_covers g pats cost labels is.few is.once is.patterns is.cost_is
