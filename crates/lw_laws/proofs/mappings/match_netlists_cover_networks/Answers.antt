-- By the lemma.
use Rattle.lw_laws.proofs.MatchNetlists.{matches_cover}
use Rattle.lw_laws.proofs.mappings.match_netlists_cover_networks.Goals as goal

pub returns : goal.returns
returns c = matches_cover
