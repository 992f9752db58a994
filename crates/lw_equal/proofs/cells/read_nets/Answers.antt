use Rattle.std.proofs.Common.{◌∙◌, arith, refl}
use Rattle.std.proofs.lemmas.List.{length-set}
use Rattle.lw_equal.proofs.Netlists.{pins_more}
use Rattle.lw_equal.proofs.cells.read_nets.Goals as goal

pub loop-k-preserved : goal.loop-k-preserved
loop-k-preserved c =
    let long = c.loop-k.invariant.length in
    let room = c.requires.room in
    let low = c.loop-k-test.true in
    record {
      front = pins_more c.args.literals.now c.args.pins.now c.loop-k.found c.loop-k.k _ low (omega (arith, long, room, low)) refl c.loop-k.invariant.front;
      length = length-set c.loop-k.found c.loop-k.k _ ∙ long;
    }
