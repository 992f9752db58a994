-- By the lemma.
use Rattle.lw_laws.proofs.InputClasses.{distinct_leaves}
use Rattle.lw_laws.proofs.graphs.input_classes_differ.Goals as goal

pub returns : goal.returns
returns c = distinct_leaves
