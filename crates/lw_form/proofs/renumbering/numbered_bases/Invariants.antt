use Rattle.std.proofs.Common.{◌≡◌, map, take}
use Rattle.lw_laws.specs.Numbering.{numbered_base}
use Rattle.lw_form.specs.Bases.{plain_base}
use Rattle.lw_form.specs.Listed.{bases_of}
use Rattle.lw_form.specs.Tables.{made}
use Rattle.lw_form.proofs.renumbering.numbered_bases.Given as goal

abbrev pub invariant-loop-place : goal.invariant-loop-place
invariant-loop-place l = map plain_base l.bases.keys ≡ take l.place (map (numbered_base (bases_of (made l.table) l.listing.listed.items)) (bases_of (made l.table) l.listing.listed.items))
