-- By the lemma.
use Rattle.lw_laws.proofs.Mapping.{covered_at}
use Rattle.lw_laws.proofs.mappings.mapped_outputs_stand_for_covers.Goals as goal

pub returns : goal.returns
returns c = λ mode width net g pats timing n class arrivals over are. covered_at mode width net g pats timing n class over arrivals are
