use Rattle.std.proofs.Common.{refl}
use Rattle.std.proofs.lemmas.List.Elements.{All-more}
use Rattle.lw_words.specs.Gathering.{IsInk, IsPlainByte}
use Rattle.lw_words.proofs.reading.ink_len.Goals as goal

pub loop-i-preserved : goal.loop-i-preserved
loop-i-preserved c =
    let bytes = c.args.bytes.now in
    let i = c.loop-i.i in
    let here = c.if-not-is_ink.ensures in (
      All-more IsInk bytes i 0 c.loop-i-test.true c.loop-i.invariant.0 (here.ink refl),
      All-more IsPlainByte bytes i 0 c.loop-i-test.true c.loop-i.invariant.1 (here.plain refl),
    )
