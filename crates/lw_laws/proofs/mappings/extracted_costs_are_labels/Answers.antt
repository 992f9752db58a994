-- By the lemma.
use Rattle.lw_laws.proofs.ExtractLaws.{extracted_costs}
use Rattle.lw_laws.proofs.mappings.extracted_costs_are_labels.Goals as goal

pub returns : goal.returns
returns c = extracted_costs
