-- By the lemma.
use Rattle.lw_laws.proofs.Mapping.{rooted_least}
use Rattle.lw_laws.proofs.mappings.mapped_outputs_are_least.Goals as goal

pub returns : goal.returns
returns c = λ mode width net g pats timing cap labels n class arrivals over are. rooted_least mode width net g pats timing cap labels n class over arrivals are
