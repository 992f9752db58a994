-- By the lemma.
use Rattle.lw_laws.proofs.MatchNetlists.{mapping_is_matches}
use Rattle.lw_laws.proofs.mappings.mapped_netlists_are_match_netlists.Goals as goal

pub returns : goal.returns
returns c = mapping_is_matches
