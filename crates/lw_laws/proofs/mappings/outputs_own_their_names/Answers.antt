-- By the lemma.
use Rattle.lw_laws.proofs.NameLaws.{names_owned}
use Rattle.lw_laws.proofs.mappings.outputs_own_their_names.Goals as goal

pub returns : goal.returns
returns c = names_owned
