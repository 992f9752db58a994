-- By the lemma.
use Rattle.lw_laws.proofs.Mapping.{form_rooted_least}
use Rattle.lw_laws.proofs.mappings.rooted_nets_are_least.Goals as goal

pub returns : goal.returns
returns c = λ mode inputs o g pats timing cap labels n class arrivals sound over. form_rooted_least mode inputs o sound g pats timing cap labels n class over arrivals
