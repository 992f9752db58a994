use Rattle.std.proofs.Common.{refl, arith}
use Rattle.lw_area.specs.Outcomes.{answer_text}
use Rattle.lw_area.specs.Pages.{usage_text, version_text}
use Rattle.lw_area.specs.Plain.{plain_task}
use Rattle.lw_area.proofs.Serving.{text_served, usage_served, version_served}
use Rattle.lw_area.proofs.outcome.serve.Goals as goal

pub returns-in-Usage : goal.returns-in-Usage
returns-in-Usage g c = rw c.in-Usage.is (record {
  meets = usage_served (g.F.Shelf.files c.args.shelf.now) (g.F.Shelf.faults c.args.shelf.now) (g.F.Shelf.faults c.args.shelf.now) g.O.Sink.taken g.O.Sink.is_finished g.O.Sink.faults c.args.out.now c.write_page.new.out usage_text c.write_page.result refl c.write_page.ensures.writes;
  files = refl;
  read = omega arith;
  written = c.write_page.ensures.later;
})

pub returns-in-Version : goal.returns-in-Version
returns-in-Version g c = rw c.in-Version.is (record {
  meets = version_served (g.F.Shelf.files c.args.shelf.now) (g.F.Shelf.faults c.args.shelf.now) (g.F.Shelf.faults c.args.shelf.now) g.O.Sink.taken g.O.Sink.is_finished g.O.Sink.faults c.args.out.now c.write_page-in-Version.new.out version_text c.write_page-in-Version.result refl c.write_page-in-Version.ensures.writes;
  files = refl;
  read = omega arith;
  written = c.write_page-in-Version.ensures.later;
})

pub returns-in-Ok : goal.returns-in-Ok
returns-in-Ok g c = rw c.in-Mapping.is (record {
  meets = text_served (g.F.Shelf.files c.args.shelf.now) (g.F.Shelf.faults c.args.shelf.now) (g.F.Shelf.faults c.respond.new.shelf) g.O.Sink.taken g.O.Sink.is_finished g.O.Sink.faults c.args.out.now c.write_answer.new.out (plain_task c.in-Mapping.task) (answer_text c.in-Ok.answer) c.write_answer.result c.in-Ok.ensures.comes c.write_answer.ensures.writes;
  files = c.in-Ok.ensures.files;
  read = c.in-Ok.ensures.later;
  written = c.write_answer.ensures.later;
})

pub returns-in-Err : goal.returns-in-Err
returns-in-Err g c = rw c.in-Mapping.is (record {
  meets = (c.in-Err.ensures.comes, refl);
  files = c.in-Err.ensures.files;
  read = c.in-Err.ensures.later;
  written = omega arith;
})

pub returns-in-Checking : goal.returns-in-Checking
returns-in-Checking g c = rw c.in-Checking.is c.judge.ensures
