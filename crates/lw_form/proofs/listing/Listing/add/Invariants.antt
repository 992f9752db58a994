use Rattle.lw_laws.specs.Occurring.{add_form}
use Rattle.lw_laws.specs.SignalValues.{form_of}
use Rattle.lw_form.specs.Listed.{bases_of, plain_steps, steps_size, IsAdding}
use Rattle.lw_form.specs.Tables.{made, HasMore}
use Rattle.lw_form.proofs.listing.Listing.add.Given as goal

abbrev pub invariant-steps : goal.invariant-steps
invariant-steps l = record {
  more : HasMore (made l.initial.table) (made l.table);
  adding : IsAdding l.table l.self.listed.items l.self.places.items l.steps.items (add_form (form_of (made l.initial.table) l.form) (bases_of (made l.initial.table) l.initial.self.listed.items));
}

abbrev pub decreases-steps : goal.decreases-steps
decreases-steps l = steps_size (plain_steps (made l.table) l.steps.items)
