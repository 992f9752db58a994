-- By the lemma.
use Rattle.lw_laws.proofs.PatternLaws.{trees_leaves}
use Rattle.lw_laws.proofs.graphs.patterns_have_the_pins.Goals as goal

pub returns : goal.returns
returns c = trees_leaves
