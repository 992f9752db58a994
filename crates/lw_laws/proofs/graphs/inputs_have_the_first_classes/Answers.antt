-- By the lemma.
use Rattle.lw_laws.proofs.InputClasses.{one_first, input_class}
use Rattle.lw_laws.proofs.graphs.inputs_have_the_first_classes.Goals as goal

pub returns : goal.returns
returns c = λ mode width net g wide is. (one_first mode width net g wide is, input_class mode width net g wide is)
