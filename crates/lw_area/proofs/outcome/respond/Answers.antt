use Rattle.std.proofs.lemmas.Result.{err_from_is_err_and}
use Rattle.lw_area.specs.Plain.{plain_settings, plain_task}
use Rattle.lw_area.specs.Answers.{Recovers}
use Rattle.lw_area.proofs.Serving.{writable}
use Rattle.lw_area.proofs.Steps.{comes_to, refused_sources}
use Rattle.lw_area.proofs.outcome.respond.Goals as goal

pub returns-in_err-sources : goal.returns-in_err-sources
returns-in_err-sources g c =
    let p = err_from_is_err_and c.from_residual.result c.from_residual.ensures.1 in
    rw (p.1, p.2) (record {
      files = c.in_err-sources.ensures.0.files;
      later = c.in_err-sources.ensures.0.later;
      comes = refused_sources (g.F.Shelf.files c.args.shelf.now) (plain_task c.args.task) (Recovers (plain_settings c.args.task.settings)) _ _ _ c.in_err-sources.ensures.0.comes;
      written = tt;
    })

pub returns : goal.returns
returns g c = record {
  files = c.in_ok-sources.ensures.0.files;
  later = c.in_ok-sources.ensures.0.later;
  comes = comes_to (g.F.Shelf.files c.args.shelf.now) (plain_task c.args.task) c.in_ok-sources.sources c.in_ok-sources.ensures.0.comes (g.F.Shelf.faults c.args.shelf.now) (g.F.Shelf.faults c.read_sources.new.shelf) c.map_read.result c.map_read.ensures;
  written = writable (plain_settings c.args.task.settings) c.in_ok-sources.sources c.map_read.result c.map_read.ensures;
}
