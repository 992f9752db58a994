-- By the lemma.
use Rattle.lw_laws.proofs.Mapping.{sops_are_forms}
use Rattle.lw_laws.proofs.networks.sums_of_products_are_net_forms.Goals as goal

pub returns : goal.returns
returns c = λ width net wide order. sops_are_forms width wide net order
