-- By the lemma.
use Rattle.lw_laws.proofs.NetlistOf.{root_uncovered}
use Rattle.lw_laws.proofs.mappings.uncovered_classes_have_no_cover.Goals as goal

pub returns : goal.returns
returns c = root_uncovered
