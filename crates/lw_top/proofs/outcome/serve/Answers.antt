use Rattle.std.proofs.Common.{refl, arith}
use Rattle.lw_top.specs.Answers.{IsAnswerTo}
use Rattle.lw_top.specs.Commands.{asked}
use Rattle.lw_top.proofs.Serving.{served, reached_written, asked_answers, asked_refuses, asked_reached, unasked, words_reached}
use Rattle.lw_top.proofs.outcome.serve.Goals as goal

pub returns-in_default-clause-serves : goal.returns-in_default-clause-serves
returns-in_default-clause-serves g c = record {
  meets = (unasked _ c.args.command c.in_default.not-Some, refl);
  reached = words_reached _ c.args.command;
  files = refl;
  read = omega arith;
  written = omega arith;
}

pub returns-in-Ok-clause-serves : goal.returns-in-Ok-clause-serves
returns-in-Ok-clause-serves g c = record {
  meets =
      served (g.F.Shelf.files c.args.shelf.now) (g.F.Shelf.faults c.args.shelf.now) (g.F.Shelf.faults c.respond.new.shelf) g.O.Sink.taken g.O.Sink.is_finished g.O.Sink.faults c.args.out.now c.written.new.out (IsAnswerTo (asked c.args.command)) c.in-Ok.answer c.written.result
      (λ text is. asked_answers _ c.args.command c.in-Some.command _ c.in-Some.is (c.in-Ok.ensures.answered.says text is)) c.written.ensures.writes;
  reached = reached_written _ _ g.O.Sink.taken g.O.Sink.is_finished g.O.Sink.faults c.args.out.now c.written.new.out c.in-Ok.answer c.written.result c.written.ensures.writes;
  files = c.respond.ensures.files;
  read = c.respond.ensures.later;
  written = c.written.ensures.later;
}

pub returns-in-Err-clause-serves : goal.returns-in-Err-clause-serves
returns-in-Err-clause-serves g c = record {
  meets = (asked_refuses _ _ _ c.args.command c.in-Some.command _ c.in-Some.is c.in-Err.ensures.answered.says, refl);
  reached = asked_reached _ c.args.command c.in-Some.command _ c.in-Some.is c.in-Err.ensures.answered.reached;
  files = c.respond.ensures.files;
  read = c.respond.ensures.later;
  written = omega arith;
}
