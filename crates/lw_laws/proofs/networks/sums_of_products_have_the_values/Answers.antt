-- By the lemma.
use Rattle.lw_laws.proofs.NetValues.{sops_are_values}
use Rattle.lw_laws.proofs.networks.sums_of_products_have_the_values.Goals as goal

pub returns : goal.returns
returns c = sops_are_values
