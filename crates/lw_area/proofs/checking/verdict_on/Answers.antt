use Rattle.std.proofs.Common.{◌∙◌, arith}
use Rattle.std.proofs.lemmas.Result.{err_from_is_err_and}
use Rattle.lw_area.specs.Plain.{plain_task}
use Rattle.lw_area.proofs.Judging.{no_netlist, no_sources, verdict_comes}
use Rattle.lw_area.proofs.checking.verdict_on.Goals as goal

pub returns-in_err-sources : goal.returns-in_err-sources
returns-in_err-sources g c =
    let p = err_from_is_err_and c.from_residual.result c.from_residual.ensures.1 in
    rw (p.1, p.2) (record {
      files = c.in_err-sources.ensures.0.files;
      later = c.in_err-sources.ensures.0.later;
      comes = no_sources (g.F.Shelf.files c.args.shelf.now) (plain_task c.args.task) c.args.mapped.now _ _ _ c.in_err-sources.ensures.0.comes;
    })

pub returns-in-Err : goal.returns-in-Err
returns-in-Err g c = record {
  files = c.in-Err.ensures.reads.files ∙ c.in_ok-sources.ensures.0.files;
  later = omega (arith, c.in_ok-sources.ensures.0.later, c.in-Err.ensures.reads.later);
  comes =
      no_netlist (g.F.Shelf.files c.args.shelf.now) (plain_task c.args.task) c.args.mapped.now c.in_ok-sources.sources c.in_ok-sources.ensures.0.comes (g.F.Shelf.faults c.args.shelf.now) (g.F.Shelf.faults c.read_sources.new.shelf) (g.F.Shelf.faults c.read_mapped.new.shelf) c.in_ok-sources.ensures.0.later c.in-Err.fault
      (rw c.in_ok-sources.ensures.0.files at c.in-Err.ensures.reads.reads);
}

pub returns : goal.returns
returns g c = record {
  files = c.in-Ok.ensures.reads.files ∙ c.in_ok-sources.ensures.0.files;
  later = omega (arith, c.in_ok-sources.ensures.0.later, c.in-Ok.ensures.reads.later);
  comes =
      verdict_comes (g.F.Shelf.files c.args.shelf.now) (plain_task c.args.task) c.args.mapped.now c.in_ok-sources.sources c.in_ok-sources.ensures.0.comes (g.F.Shelf.faults c.args.shelf.now) (g.F.Shelf.faults c.read_sources.new.shelf) (g.F.Shelf.faults c.read_mapped.new.shelf) c.in_ok-sources.ensures.0.later c.in-Ok.netlist
      (rw c.in_ok-sources.ensures.0.files at c.in-Ok.ensures.reads.reads) c.in-Ok.ensures.reads.later c.judged-verdict.result c.judged-verdict.ensures;
}
