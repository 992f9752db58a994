-- By the lemma.
use Rattle.lw_laws.proofs.ExtractLaws.{extracted_arrivals}
use Rattle.lw_laws.proofs.mappings.extracted_arrivals_are_labels.Goals as goal

pub returns : goal.returns
returns c = extracted_arrivals
