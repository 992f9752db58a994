-- What joined networks are mapped over.
use Rattle.std.specs.Prelude.{◌≡◌, false, []}
use Rattle.lw_net.specs.Networks.{NetworkParts}
use Rattle.lw_net.specs.Plain as network
use Rattle.lw_map.specs.Options.{plain_options}
use Rattle.lw_joined.specs.declared.choices.Joined.{Joined}
use Rattle.lw_joined.specs.Choices.{IsJoined}
use Rattle.lw_area.specs.declared.sources.Sources.{Sources}
use Rattle.lw_area.specs.Recovered.{Space}
use Rattle.lw_area.specs.Sources.{IsUnionOf}
use Rattle.lw_area.specs.Words.{Settings}

abbrev pub space_of : (net : NetworkParts) (j : Joined) → IsJoined net j → Space
space_of net j is = record { union = network.plain j.union; links = is.links }

-- the networks of the files are joined by these settings
pub record IsJoinedOf (settings : Settings) (s : Sources) (j : Joined) : Type 0 where
  pub joined : IsJoined s.model.network j
  pub options_are : plain_options j.choices.options ≡ settings.options
  pub united : IsUnionOf s.model.network s.further.items j.union
  pub unlinked : settings.linked ≡ false → joined.links ≡ []
