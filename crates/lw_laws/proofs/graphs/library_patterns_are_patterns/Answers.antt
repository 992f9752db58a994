-- By the lemma.
use Rattle.lw_laws.proofs.PatternLaws.{cells_patterns}
use Rattle.lw_laws.proofs.graphs.library_patterns_are_patterns.Goals as goal

pub returns : goal.returns
returns c = cells_patterns
