use Rattle.std.proofs.Common.{◌≡◌, ◌==◌, false, [], cond, sym, subst, arith}
use Rattle.lw_mapped.specs.Texts.{arrival_line}
use Rattle.lw_io.specs.Writers.{Writes}
use Rattle.lw_mapped.proofs.frames.put_optional_arrival.Goals as goal

pub returns-then-start-ne0 : goal.returns-then-start-ne0
returns-then-start-ne0 g c =
    let late : (c.args.start.0 == 0) ≡ false = grind arith in
    subst (λ b. Writes g.S.Sink.taken g.S.Sink.faults c.args.out.now c.put_arrival.new.out (cond b [] (arrival_line c.args.name.now c.args.start))) (sym late) c.put_arrival.ensures
