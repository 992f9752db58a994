use Rattle.std.proofs.Common.{sym, ◌∙◌, ap}
use Rattle.lw_io.specs.Waitings.{Pending}
use Rattle.lw_io.proofs.Putting.{Puts-after, Puts-failed, Puts-kept}
use Rattle.lw_io.proofs.waiting.put_over.Goals as goal

pub returns-then-piece-waiting : goal.returns-then-piece-waiting
returns-then-piece-waiting g c =
    Puts-after c.flush.ensures.puts (Puts-kept (g.S.Sink.taken c.flush.new.sink) (g.S.Sink.faults c.flush.new.sink) c.flush.new.waiting c.keep.new.self c.args.piece.now c.keep.ensures.bytes c.keep.ensures.failed)

pub returns-then-waiting : goal.returns-then-waiting
returns-then-waiting g c =
    Puts-after c.flush.ensures.puts (Puts-failed (g.S.Sink.taken c.flush.new.sink) (g.S.Sink.faults c.flush.new.sink) c.flush.new.waiting c.args.piece.now (sym (ap (λ (w : Pending). w.failed) c.waiting.view_is) ∙ c.if-waiting.true))

pub returns : goal.returns
returns g c = Puts-after c.flush.ensures.puts c.put_through.ensures
