use Rattle.std.proofs.Common.{refl, arith}
use Rattle.std.specs.Prelude.{codes}
use Rattle.lw_area.specs.Plain.{plain_task}
use Rattle.lw_area.proofs.Judging.{judged_refused}
use Rattle.lw_area.proofs.Serving.{yes_served}
use Rattle.lw_area.proofs.outcome.judge.Goals as goal

pub returns-in-Err : goal.returns-in-Err
returns-in-Err g c = record {
  meets = (judged_refused (plain_task c.args.task) c.args.mapped.now (g.F.Shelf.files c.args.shelf.now) (g.F.Shelf.faults c.args.shelf.now) (g.F.Shelf.faults c.verdict_on.new.shelf) c.in-Err.refusal c.in-Err.ensures.comes, refl);
  files = c.in-Err.ensures.files;
  read = c.in-Err.ensures.later;
  written = omega arith;
}

pub returns-in-Yes : goal.returns-in-Yes
returns-in-Yes g c = record {
  meets =
      yes_served (g.F.Shelf.files c.args.shelf.now) (g.F.Shelf.faults c.args.shelf.now) (g.F.Shelf.faults c.verdict_on.new.shelf) g.O.Sink.taken g.O.Sink.is_finished g.O.Sink.faults c.args.out.now c.write_page.new.out (plain_task c.args.task) c.args.mapped.now (codes "yes\n") c.write_page.result
      (rw c.in-Yes.is at c.in-Ok.ensures.comes, refl) c.write_page.ensures.writes;
  files = c.in-Ok.ensures.files;
  read = c.in-Ok.ensures.later;
  written = c.write_page.ensures.later;
}

pub returns-in-No : goal.returns-in-No
returns-in-No g c = record {
  meets = (rw c.in-No.is at c.in-Ok.ensures.comes, refl);
  files = c.in-Ok.ensures.files;
  read = c.in-Ok.ensures.later;
  written = omega arith;
}
