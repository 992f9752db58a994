-- By the lemma.
use Rattle.lw_laws.proofs.MarkLaws.{supports_priced}
use Rattle.lw_laws.proofs.covers.supports_are_priced.Goals as goal

pub returns : goal.returns
returns c = supports_priced
