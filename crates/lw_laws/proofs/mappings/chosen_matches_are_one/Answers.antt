-- By the lemma.
use Rattle.lw_laws.proofs.ExtractLaws.{chosen_once}
use Rattle.lw_laws.proofs.mappings.chosen_matches_are_one.Goals as goal

pub returns : goal.returns
returns c = chosen_once
