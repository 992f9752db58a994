-- By the lemma.
use Rattle.lw_laws.proofs.ExtractLaws.{extracted_once}
use Rattle.lw_laws.proofs.mappings.extracted_netlists_are_one.Goals as goal

pub returns : goal.returns
returns c = extracted_once
