use Rattle.std.proofs.Common.{◌∙◌, refl, arith}
use Rattle.std.proofs.lemmas.List.{length-set}
use Rattle.lw_report.proofs.SimLemmas.{words_more}
use Rattle.lw_report.proofs.gates.read_nets.Goals as goal

pub loop-k-preserved : goal.loop-k-preserved
loop-k-preserved c = record {
  front = words_more c.args.nets.now c.args.pins.now c.loop-k.words c.loop-k.k _ c.loop-k-test.true (omega (arith, c.loop-k-test.true, c.requires.room, c.loop-k.invariant.length)) refl c.loop-k.invariant.front;
  length = length-set c.loop-k.words c.loop-k.k _ ∙ c.loop-k.invariant.length;
}
