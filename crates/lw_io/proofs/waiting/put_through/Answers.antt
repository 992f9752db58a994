use Rattle.std.proofs.Common.{◌++◌, sym, ◌∙◌, subst, arith}
use Rattle.lw_io.specs.Moves.{IsWrittenUpTo}
use Rattle.lw_io.proofs.Putting.{given_more, given_part_more, Rose-earlier, true_is_false}
use Rattle.lw_io.proofs.waiting.put_through.Goals as goal

pub returns-in-Ok : goal.returns-in-Ok
returns-in-Ok g c = record {
  stands = λ start count text is. record {
    later = omega (arith, is.later, c.in-Ok.ensures.cause.later);
    whole = λ e. subst (λ l. IsWrittenUpTo start (g.S.Sink.taken c.write_all.new.sink) (text ++ c.args.piece.now) l) (sym c.requires.empty) (given_more start (g.S.Sink.taken c.args.sink.now) (g.S.Sink.taken c.write_all.new.sink) text c.args.piece.now c.args.waiting.now.bytes c.requires.empty (is.whole e) c.in-Ok.ensures.ok);
    part = λ e. true_is_false (sym e ∙ c.requires.open);
    cause = λ e. true_is_false (sym e ∙ c.requires.open);
  };
}

pub returns-in-Err : goal.returns-in-Err
returns-in-Err g c = record {
  stands = λ start count text is. record {
    later = omega (arith, is.later, c.in-Err.ensures.cause.later);
    whole = λ e. true_is_false e;
    part = λ e. given_part_more start (g.S.Sink.taken c.args.sink.now) (g.S.Sink.taken c.write_all.new.sink) text c.args.piece.now c.args.waiting.now.bytes c.requires.empty (is.whole c.requires.open) c.in-Err.ensures.failed;
    cause = λ e. Rose-earlier count (g.S.Sink.faults c.args.sink.now) (g.S.Sink.faults c.write_all.new.sink) is.later c.in-Err.ensures.cause.failed;
  };
}
