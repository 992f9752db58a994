-- By the lemma.
use Rattle.lw_laws.proofs.Masks.{sublists_at}
use Rattle.lw_laws.proofs.networks.sublists_stand_by_mask.Goals as goal

pub returns : goal.returns
returns c = sublists_at
