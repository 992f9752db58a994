-- By the lemma.
use Rattle.lw_joined.proofs.Joins.{has_the_forms}
use Rattle.lw_joined.proofs.laws.unions_have_the_forms.Goals as goal

pub returns : goal.returns
returns c = λ width net union begins. has_the_forms net union begins width
