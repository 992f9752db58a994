-- By the lemma.
use Rattle.lw_laws.proofs.ExtractLaws.{cut_arrivals}
use Rattle.lw_laws.proofs.mappings.net_costs_are_arrivals.Goals as goal

pub returns : goal.returns
returns c = cut_arrivals
