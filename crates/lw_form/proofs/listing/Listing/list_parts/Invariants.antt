use Rattle.lw_form.specs.Listed.{bases_of}
use Rattle.lw_form.specs.Tables.{made, forms_at}
use Rattle.lw_form.proofs.ListedForms.{PartsSoFar}
use Rattle.lw_form.proofs.listing.Listing.list_parts.Given as goal

abbrev pub invariant-loop-mask : goal.invariant-loop-mask
invariant-loop-mask l = PartsSoFar l.initial.table l.table (forms_at (made l.initial.table) l.ids) (bases_of (made l.initial.table) l.initial.self.listed.items) l.mask l.self.listed.items l.self.places.items
