use Rattle.std.proofs.Common.{sym, subst, append-nil, arith, take}
use Rattle.lw_io.specs.Moves.{AppendsPrefix}
use Rattle.lw_io.specs.Waitings.{IsPut}
use Rattle.lw_io.proofs.Putting.{given_part, Rose-earlier, true_is_false}
use Rattle.lw_io.proofs.waiting.flush.Goals as goal

pub returns-in-Err-clause-puts : goal.returns-in-Err-clause-puts
returns-in-Err-clause-puts g c = record {
  stands = λ start count text is.
      let before = subst (λ w. IsPut start count (g.S.Sink.taken c.args.sink.now) (g.S.Sink.faults c.args.sink.now) w text) (sym c.waiting.view_is) is in
      let part = given_part start (g.S.Sink.taken c.args.sink.now) (g.S.Sink.taken c.write_all.new.sink) text (take c.waiting.inside.used c.waiting.inside.bytes) (before.whole c.if-waiting.false) c.in-Err.ensures.failed in
      record {
        later = omega (arith, before.later, c.in-Err.ensures.cause.later);
        whole = λ e. true_is_false e;
        part = λ e. subst (λ l. AppendsPrefix start (g.S.Sink.taken c.write_all.new.sink) l) (sym (append-nil text)) part;
        cause = λ e. Rose-earlier count (g.S.Sink.faults c.args.sink.now) (g.S.Sink.faults c.write_all.new.sink) before.later c.in-Err.ensures.cause.failed;
      };
}
