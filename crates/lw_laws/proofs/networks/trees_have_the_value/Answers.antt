-- By the lemma.
use Rattle.lw_laws.proofs.NumberValues.{occurring_have_value}
use Rattle.lw_laws.proofs.Listed.{occurring_is_listing}
use Rattle.lw_laws.proofs.FormTruth.{signals_agree}
use Rattle.lw_laws.specs.Listings.{listing_of}
use Rattle.lw_laws.proofs.networks.trees_have_the_value.Goals as goal

pub returns : goal.returns
returns c = λ mode width net x wide. occurring_have_value 0 (listing_of width net) (occurring_is_listing width wide net) x (signals_agree x width net) mode
