-- By the lemma.
use Rattle.lw_laws.proofs.MatchLists.{made_is_matches}
use Rattle.lw_laws.proofs.mappings.made_netlists_are_mapped.Goals as goal

pub returns : goal.returns
returns c = made_is_matches
