-- By the lemma.
use Rattle.lw_laws.proofs.Sound.{network_is_sound}
use Rattle.lw_laws.proofs.networks.networks_have_sound_listings.Goals as goal

pub returns : goal.returns
returns c = λ width net wide. network_is_sound width wide net
