use Rattle.std.proofs.Common.{◌≡◌, ◌+◌, ◌<◌, ◌++◌, length, get_or, set, subst, ◌∙◌, arith}
use Rattle.std.proofs.lemmas.List.{length-set}
use Rattle.std.proofs.lemmas.List.Elements.{All-get_or}
use Rattle.std.proofs.lemmas.Option.{slice_get_within}
use Rattle.lw_pool.specs.declared.id.ClassId.{ClassId}
use Rattle.lw_lut.specs.Nets.{table_classes}
use Rattle.lw_lut.specs.declared.table.Table.{Table}
use Rattle.lw_lut.proofs.PlacedNames.{HasPlacesTo, class_count, input_at, table_at, placed_more}
use Rattle.lw_lut.proofs.placing.places_of.Goals as goal
use Rattle.lw_pool.specs.Numbers.{numbers}

pub loop-input-preserved : goal.loop-input-preserved
loop-input-preserved c =
    let inputs = c.args.inputs.now in
    let tables = c.args.tables.now in
    let k = c.loop-input.input in
    let none : ClassId = record { 0 = 0 } in
    let places = c.loop-input.places.items in
    let one = c.loop-input.invariant.one_each in
    let below = All-get_or (λ (x : ClassId). x.0 < c.args.classes) inputs k none c.loop-input-test.true c.requires.inputs_below in
    record {
      one_each = length-set places (get_or inputs k none).0 k ∙ one;
      placed = placed_more (numbers inputs ++ table_classes tables) places k (get_or inputs k none).0 c.requires.once (input_at inputs tables k none c.loop-input-test.true) (omega (arith, below, one)) c.loop-input.invariant.placed;
    }

pub loop-k-preserved : goal.loop-k-preserved
loop-k-preserved c =
    let inputs = c.args.inputs.now in
    let tables = c.args.tables.now in
    let k = c.loop-k.k in
    let t = c.index-tables-k.result in
    let out = (get_or tables k t).out.0 in
    let place = length inputs + k in
    let places = c.loop-k.places.items in
    let one = c.loop-k.invariant.one_each in
    let below = All-get_or (λ (x : Table). x.out.0 < c.args.classes) tables k t c.loop-k-test.true c.requires.tables_below in
    let next : place + 1 ≡ length inputs + (k + 1) = omega arith in
    record {
      one_each = length-set places out place ∙ one;
      placed = subst (λ n. HasPlacesTo (numbers inputs ++ table_classes tables) (set places out place) n) next (placed_more (numbers inputs ++ table_classes tables) places place out c.requires.once (table_at inputs tables k t c.loop-k-test.true) (omega (arith, below, one)) c.loop-k.invariant.placed);
    }

pub returns : goal.returns
returns c = λ i d here.
    let inputs = c.args.inputs.now in
    let tables = c.args.tables.now in
    let within = slice_get_within (numbers inputs ++ table_classes tables) i d here in
    let count = class_count inputs tables in
    let end = c.loop-k-test.false in
    c.loop-k.invariant.placed i d (omega (arith, within, count, end)) here
