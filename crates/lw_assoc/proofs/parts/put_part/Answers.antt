use Rattle.std.proofs.Common.{◌+◌, ◌*◌, ◌/◌, ap, arith}
use Rattle.std.specs.Prelude.{slice_index}
use Rattle.lw_assoc.proofs.Dropping.{above, more_in, most, parts_more}
use Rattle.lw_assoc.proofs.parts.put_part.Goals as goal

pub bounds-parts-mask : goal.bounds-parts-mask
bounds-parts-mask c =
    let (fs, e, one, lt) = c.requires.has in
    let a = above c.args.forms.now c.inputs.ensures.kept c.args.drops.now c.requires.drops_all c.args.b c.args.mask c.first_unset-place.result c.args.parts.now c.first_unset-place.ensures.place fs e c.requires.some lt c.requires.higher in
    let m = most c.args.forms.now c.inputs.ensures.kept c.args.drops.now c.requires.drops_all c.args.b c.args.mask c.first_unset-place.result c.args.parts.now c.first_unset-place.ensures.place fs e c.requires.some lt c.requires.higher in
    let s = c.requires.higher.size in
    let b = c.bit.ensures in
    omega arith

pub bounds-drops-more : goal.bounds-drops-more
bounds-drops-more c =
    let (fs, e, one, lt) = c.requires.has in
    let m = more_in c.args.forms.now c.inputs.ensures.kept c.args.drops.now c.requires.drops_all c.args.b c.args.mask c.first_unset-place.result c.args.parts.now c.first_unset-place.ensures.place fs e c.requires.some lt c.requires.higher in
    let s = c.requires.drops_all.size in
    let f = c.first_unset-place.ensures.few in
    let i = ap (λ k. slice_index c.args.parts.now (c.args.mask + k)) c.bit.ensures in
    omega arith

pub returns : goal.returns
returns c =
    let (fs, e, one, lt) = c.requires.has in
    let s = c.requires.higher.size in
    let a = above c.args.forms.now c.inputs.ensures.kept c.args.drops.now c.requires.drops_all c.args.b c.args.mask c.first_unset-place.result c.args.parts.now c.first_unset-place.ensures.place fs e c.requires.some lt c.requires.higher in
    let m = most c.args.forms.now c.inputs.ensures.kept c.args.drops.now c.requires.drops_all c.args.b c.args.mask c.first_unset-place.result c.args.parts.now c.first_unset-place.ensures.place fs e c.requires.some lt c.requires.higher in
    parts_more c.args.forms.now c.inputs.ensures.kept c.args.drops.now c.requires.drops_all c.args.b c.args.mask c.first_unset-place.result c.args.parts.now c.first_unset-place.ensures.place fs e c.requires.some lt c.requires.higher _ (ap (λ k. slice_index c.args.drops.now (8 * (slice_index c.args.parts.now (c.args.mask + k) / 2) + c.first_unset-place.result)) c.bit.ensures) (omega arith)
