-- By the lemma.
use Rattle.lw_laws.proofs.MarkLaws.{some_supports}
use Rattle.lw_laws.proofs.covers.marked_classes_have_supports.Goals as goal

pub returns : goal.returns
returns c = some_supports
