use Rattle.std.proofs.Common.{◌∙◌, ap}
use Rattle.lw_laws.specs.Occurring.{appended}
use Rattle.lw_form.specs.Listed.{base_at, bases_of}
use Rattle.lw_form.specs.Tables.{made}
use Rattle.lw_form.proofs.Signalled.{start_listed}
use Rattle.lw_form.proofs.occurring.true_alone.Goals as goal

pub list-requires-clause-listed : goal.list-requires-clause-listed
list-requires-clause-listed c = start_listed (made c.args.table.now) c.in_ok-listing.listing.listed.items c.in_ok-listing.listing.places.items c.in_ok-listing.ensures.listed c.in_ok-listing.ensures.places

pub returns-clause-listed : goal.returns-clause-listed
returns-clause-listed c = record { listed = c.in_ok-list.ensures.listed.listed; bases = c.in_ok-list.ensures.listed.bases ∙ ap (λ l. appended (base_at (made c.args.table.now) 0) (bases_of (made c.args.table.now) l)) c.in_ok-listing.ensures.listed }
