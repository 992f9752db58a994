-- By the lemma.
use Rattle.lw_laws.proofs.MarkLaws.{least_chosen}
use Rattle.lw_laws.proofs.covers.least_priced_matches_are_chosen.Goals as goal

pub returns : goal.returns
returns c = least_chosen
