-- By the lemma.
use Rattle.lw_laws.proofs.NumberValues.{numbers_have_values}
use Rattle.lw_laws.proofs.networks.numbers_have_the_values.Goals as goal

pub returns : goal.returns
returns c = λ inputs o x is agree. numbers_have_values inputs o is x agree
