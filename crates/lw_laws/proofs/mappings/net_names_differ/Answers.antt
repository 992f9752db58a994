-- By the lemma.
use Rattle.lw_laws.proofs.NameLaws.{names_differ}
use Rattle.lw_laws.proofs.mappings.net_names_differ.Goals as goal

pub returns : goal.returns
returns c = names_differ
