use Rattle.std.proofs.Common.{List, [], refl, subst}
use Rattle.lw_laws.specs.Forms.{Form}
use Rattle.lw_form.specs.Listed.{IsTooLong}
use Rattle.lw_form.proofs.Signalled.{start_within, start_bases, start_nets}
use Rattle.lw_form.proofs.occurring.Occurring.start.Goals as goal

pub true_alone-requires : goal.true_alone-requires
true_alone-requires c = start_within c.in_ok-table.table c.args.inputs c.in_ok-table.ensures

pub returns-clause-none : goal.returns-clause-none
returns-clause-none c = record {
  few = c.requires;
  table = c.in_ok-table.ensures;
  listed = start_nets c.in_ok-table.table c.args.inputs [] c.in-Ok.listing.listed.items c.in-Ok.listing.places.items c.in-Ok-no_nets.sops.items c.in-Ok-no_nets.facs.items
      c.in_ok-table.ensures refl c.in-Ok.ensures.listed.listed c.in-Ok.ensures.listed.bases c.in-Ok-no_nets.ensures.0 c.in-Ok-no_nets.ensures.1;
}

pub returns-in-Err-clause-fault : goal.returns-in-Err-clause-fault
returns-in-Err-clause-fault c = subst (λ (l : List Form). IsTooLong l c.in-Err.fault) (start_bases c.in_ok-table.table c.args.inputs [] c.in_ok-table.ensures refl) c.in-Err.ensures.fault
