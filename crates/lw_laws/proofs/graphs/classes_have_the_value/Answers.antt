-- By the lemma.
use Rattle.lw_laws.proofs.Headline.{classes_valued}
use Rattle.lw_laws.proofs.Listed.{occurring_is_listing}
use Rattle.lw_laws.proofs.FormTruth.{signals_agree}
use Rattle.lw_laws.specs.Listings.{listing_of}
use Rattle.lw_laws.proofs.graphs.classes_have_the_value.Goals as goal

pub returns : goal.returns
returns c = λ mode width net g x wide encodes. classes_valued mode net.inputs (listing_of width net) g x (occurring_is_listing width wide net) (signals_agree x width net) encodes
