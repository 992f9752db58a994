-- By the lemma.
use Rattle.lw_laws.proofs.MatchNetlists.{timely_mapping}
use Rattle.lw_laws.proofs.mappings.covers_in_time_are_mappings.Goals as goal

pub returns : goal.returns
returns c = timely_mapping
