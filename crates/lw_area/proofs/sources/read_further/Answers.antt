use Rattle.std.proofs.Common.{inl, refl}
use Rattle.lw_files.specs.Sources.{ReadsModel}
use Rattle.lw_area.specs.declared.refusal.Refusal.TheVariants.{Further}
use Rattle.lw_area.specs.Sources.{ArePlaced, in_further}
use Rattle.lw_area.proofs.Further.{places_fit}
use Rattle.lw_area.proofs.Steps.{further_reason, stops}
use Rattle.lw_area.proofs.sources.read_further.Goals as goal

pub returns-in-Err-clause-reads : goal.returns-in-Err-clause-reads
returns-in-Err-clause-reads g c = record {
  files = c.in-Err.ensures.reads.files;
  later = c.in-Err.ensures.reads.later;
  comes =
      stops (g.F.Shelf.files c.args.shelf.now) (in_further c.args.place (ReadsModel c.args.name.now)) (λ model. ArePlaced c.args.inputs.now c.args.place model) (g.F.Shelf.faults c.args.shelf.now) (g.F.Shelf.faults c.read_model.new.shelf) (Further c.args.place c.in-Err.fault)
      (further_reason (g.F.Shelf.files c.args.shelf.now) (g.F.Shelf.faults c.args.shelf.now) (g.F.Shelf.faults c.read_model.new.shelf) (ReadsModel c.args.name.now) c.args.place c.in-Err.fault c.in-Err.ensures.reads.reads);
}

pub returns-in-At-clause-reads : goal.returns-in-At-clause-reads
returns-in-At-clause-reads g c = record {
  files = c.in-Ok.ensures.reads.files;
  later = c.in-Ok.ensures.reads.later;
  comes = λ files known. inl (c.in-Ok.model, c.in-Ok.ensures.reads.reads files known, (refl, rw c.in-At.is at c.in_ok-places.ensures));
}

pub returns-in-At-clause-fits : goal.returns-in-At-clause-fits
returns-in-At-clause-fits g c = places_fit c.args.inputs.now c.in-Ok.model.network c.in-At.places.items c.inputs.ensures.kept (rw c.in-At.is at c.in_ok-places.ensures)

pub returns-in-Strange-clause-reads : goal.returns-in-Strange-clause-reads
returns-in-Strange-clause-reads g c = record {
  files = c.in-Ok.ensures.reads.files;
  later = c.in-Ok.ensures.reads.later;
  comes = λ files known. inl (c.in-Ok.model, c.in-Ok.ensures.reads.reads files known, (refl, rw c.in-Strange.is at c.in_ok-places.ensures));
}
