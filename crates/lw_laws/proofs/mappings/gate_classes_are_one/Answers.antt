-- By the lemma.
use Rattle.lw_laws.proofs.ExtractLaws.{gate_classes_once}
use Rattle.lw_laws.proofs.mappings.gate_classes_are_one.Goals as goal

pub returns : goal.returns
returns c = gate_classes_once
