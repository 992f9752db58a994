-- By the lemma.
use Rattle.lw_look.proofs.Networks.{mapping_by}
use Rattle.lw_look.proofs.laws.mappings_arrive_by.Goals as goal

pub returns : goal.returns
returns c = mapping_by
