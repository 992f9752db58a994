use Rattle.std.proofs.Common.{sym, ◌∙◌, subst, ap, append-nil}
use Rattle.lw_io.specs.Waitings.{Pending, IsPut}
use Rattle.lw_io.proofs.Putting.{text_put}
use Rattle.lw_io.proofs.waiting.end.Goals as goal

pub returns-then-waiting : goal.returns-then-waiting
returns-then-waiting g c = record {
  stands = λ start count text is.
      let put = subst (λ l. IsPut start count (g.S.Sink.taken c.flush.new.sink) (g.S.Sink.faults c.flush.new.sink) c.flush.new.waiting l) (append-nil text) (c.flush.ensures.puts.stands start count text is) in
      let failed = sym (ap (λ (w : Pending). w.failed) c.waiting.view_is) ∙ c.if-waiting.true in
      record { ok = tt; failed = put.part failed; cause = record { later = put.later; failed = put.cause failed } };
}

pub returns : goal.returns
returns g c = record {
  stands = λ start count text is.
      let put = subst (λ l. IsPut start count (g.S.Sink.taken c.flush.new.sink) (g.S.Sink.faults c.flush.new.sink) c.flush.new.waiting l) (append-nil text) (c.flush.ensures.puts.stands start count text is) in
      let unfailed = sym (ap (λ (w : Pending). w.failed) c.waiting.view_is) ∙ c.if-waiting.false in
      record {
        ok = text_put start (g.S.Sink.taken c.flush.new.sink) count (g.S.Sink.faults c.flush.new.sink) c.flush.new.waiting text unfailed (c.flush.ensures.empty unfailed) put;
        failed = tt;
        cause = record { later = put.later; failed = tt };
      };
}
