-- By the lemma.
use Rattle.lw_laws.proofs.MappedNames.{match_names_are}
use Rattle.lw_laws.proofs.mappings.match_nets_have_names.Goals as goal

pub returns : goal.returns
returns c = match_names_are
