-- By the lemma.
use Rattle.lw_laws.proofs.Mapping.{rooted_mapping}
use Rattle.lw_laws.proofs.mappings.rooted_netlists_are_mappings.Goals as goal

pub returns : goal.returns
returns c = λ mode width net g pats timing cap labels n class arrivals truth ports mapped order over true_patterns are. rooted_mapping mode width net g pats timing cap labels n class over order truth true_patterns arrivals are ports mapped
