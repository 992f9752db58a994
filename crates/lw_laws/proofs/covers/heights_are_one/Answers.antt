-- By the lemma.
use Rattle.lw_laws.proofs.Unique.{IsHeight_once}
use Rattle.lw_laws.proofs.covers.heights_are_one.Goals as goal

pub returns : goal.returns
returns c = λ g pats cost labels. IsHeight_once (Rattle.lw_laws.specs.Matches.choices_of g cost.pin_counts pats) cost labels
