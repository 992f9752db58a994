-- By the lemma.
use Rattle.lw_laws.proofs.Sound.{links_sound}
use Rattle.lw_laws.proofs.networks.links_keep_listings_sound.Goals as goal

pub returns : goal.returns
returns c = links_sound
