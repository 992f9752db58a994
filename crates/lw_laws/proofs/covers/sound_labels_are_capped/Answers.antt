-- By the lemma.
use Rattle.lw_laws.proofs.RoundLaws.{labels_capped, values_capped}
use Rattle.lw_laws.proofs.covers.sound_labels_are_capped.Goals as goal

pub returns : goal.returns
returns c = λ g pats cost labels is attained. (labels_capped g pats cost labels is attained, λ c cell ps ls. values_capped g pats cost labels c cell ps ls is attained)
