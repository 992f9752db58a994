use Rattle.std.proofs.Common.{◌<◌, ◌≤◌, length, refl, arith}
use Rattle.std.proofs.lemmas.List.{length-map}
use Rattle.std.proofs.lemmas.Option.{slice_get_read}
use Rattle.lw_facts.proofs.Lists.{all_at}
use Rattle.lw_laws.proofs.Numbers.{slice_get_map}
use Rattle.lw_extract.specs.declared.choosing.Chosen.{Chosen}
use Rattle.lw_extract.specs.Choosing.{chosen_classes}
use Rattle.lw_extract.proofs.ClassNets.{gates_more, gates_end}
use Rattle.lw_extract.proofs.nets.add_gates.Goals as goal

pub loop-j-preserved : goal.loop-j-preserved
loop-j-preserved c =
    let chosen = c.args.chosen.now in
    let j = c.loop-j.j in
    let x = c.index-chosen-j.result in
    let at = slice_get_read chosen (length chosen) j x refl c.loop-j-test.true c.index-chosen-j.is in
    let below = all_at (λ (y : Chosen). y.class.0 < length c.args.nets.now) chosen j x c.requires.in_range at in
    let inside : x.class.0 < length c.loop-j.nets = omega (arith, below, c.loop-j.auto.nets) in
    gates_more c.args.nets.now c.args.inputs (chosen_classes chosen) j x.class.0 c.loop-j.nets _ (slice_get_map (λ (y : Chosen). y.class.0) chosen j x at) inside refl c.loop-j.invariant

pub returns : goal.returns
returns c =
    let chosen = c.args.chosen.now in
    let same = length-map chosen (λ (y : Chosen). y.class.0) in
    let all : length (chosen_classes chosen) ≤ c.loop-j.j = omega (arith, same, c.loop-j-test.false) in
    gates_end c.args.nets.now c.args.inputs (chosen_classes chosen) c.loop-j.j c.loop-j.nets all c.loop-j.invariant
