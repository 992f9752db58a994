-- By the lemma.
use Rattle.lw_laws.proofs.PatternLaws.{trees_value}
use Rattle.lw_laws.proofs.graphs.patterns_have_the_function.Goals as goal

pub returns : goal.returns
returns c = trees_value
