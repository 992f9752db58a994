-- By the lemma.
use Rattle.lw_laws.proofs.MappedNames.{net_names_are}
use Rattle.lw_laws.proofs.mappings.mapped_nets_have_names.Goals as goal

pub returns : goal.returns
returns c = net_names_are
