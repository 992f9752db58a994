-- By the lemma.
use Rattle.lw_joined.proofs.Joins.{has_the_values}
use Rattle.lw_joined.proofs.laws.unions_have_the_values.Goals as goal

pub returns : goal.returns
returns c = λ net union begins order. has_the_values net union begins order
