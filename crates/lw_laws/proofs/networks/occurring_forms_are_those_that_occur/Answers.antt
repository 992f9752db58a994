-- By the lemma.
use Rattle.lw_laws.proofs.Listed.{occurring_is_listing}
use Rattle.lw_laws.proofs.Occurrences.{lists_the_occurring}
use Rattle.lw_laws.specs.Listings.{listing_of}
use Rattle.lw_laws.proofs.networks.occurring_forms_are_those_that_occur.Goals as goal

pub returns : goal.returns
returns c = λ width net wide. lists_the_occurring (listing_of width net) (occurring_is_listing width wide net)
