use Rattle.std.proofs.Common.{subst}
use Rattle.std.specs.List.{flat_map}
use Rattle.std.proofs.lemmas.List.{take_all}
use Rattle.lw_io.specs.Writers.{Writes}
use Rattle.lw_io.proofs.Putting.{Writes-more}
use Rattle.lw_shown.specs.Shown.{shown_byte}
use Rattle.lw_shown.proofs.bytes.put_shown.Goals as goal

pub loop-byte-preserved : goal.loop-byte-preserved
loop-byte-preserved g c = Writes-more shown_byte c.args.bytes.now c.loop-byte.byte-index 0 c.loop-byte-test.true c.loop-byte.invariant c.put_byte.ensures

pub returns : goal.returns
returns g c = subst (λ bs. Writes g.S.Sink.taken g.S.Sink.faults c.args.out.now c.loop-byte.out (flat_map shown_byte bs)) (take_all c.loop-byte.byte-index c.args.bytes.now c.loop-byte-test.false) c.loop-byte.invariant
