-- By the lemma.
use Rattle.lw_laws.proofs.PatternLaws.{cells_truths}
use Rattle.lw_laws.proofs.graphs.library_patterns_have_the_truth.Goals as goal

pub returns : goal.returns
returns c = cells_truths
