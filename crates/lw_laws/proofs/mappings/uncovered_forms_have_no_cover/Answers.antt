-- By the lemma.
use Rattle.lw_laws.proofs.NetlistOf.{form_uncovered}
use Rattle.lw_laws.proofs.mappings.uncovered_forms_have_no_cover.Goals as goal

pub returns : goal.returns
returns c = form_uncovered
