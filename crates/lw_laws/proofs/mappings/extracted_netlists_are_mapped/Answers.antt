-- By the lemma.
use Rattle.lw_laws.proofs.ExtractLaws.{extracted_is_matches}
use Rattle.lw_laws.proofs.mappings.extracted_netlists_are_mapped.Goals as goal

pub returns : goal.returns
returns c = extracted_is_matches
