-- By the lemma.
use Rattle.lw_laws.proofs.Mapping.{covered_net}
use Rattle.lw_laws.proofs.mappings.mapped_nets_stand_for_covers.Goals as goal

pub returns : goal.returns
returns c = covered_net
