-- By the lemma.
use Rattle.lw_laws.proofs.NumberValues.{occurring_have_value}
use Rattle.lw_laws.proofs.networks.occurring_trees_have_the_value.Goals as goal

pub returns : goal.returns
returns c = λ mode o x is agree. occurring_have_value 0 o is x agree mode
