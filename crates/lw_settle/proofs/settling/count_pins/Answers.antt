use Rattle.std.proofs.Common.{◌++◌, ◌∷◌, ◌<◌, [], length, map, take, sym, ap, ◌∙◌, arith}
use Rattle.std.proofs.lemmas.List.{take_more, take_more_set, get_or-map, length-map}
use Rattle.std.proofs.lemmas.Option.{get_or_from_slice_get}
use Rattle.lw_settle.specs.Settling.{pin_count}
use Rattle.lw_settle.specs.Stores.{placed}
use Rattle.lw_settle.proofs.settling.count_pins.Goals as goal

pub overflow_cast-place : goal.overflow_cast-place
overflow_cast-place c = omega (arith, c.requires, c.matches.ensures.matches, c.matches.type_inv)

pub loop-place-preserved : goal.loop-place-preserved
loop-place-preserved c =
    let ms = placed c.args.store.now.lists in
    let l = c.loop-place in
    let h = c.head.ensures in
    let room : l.place < length l.left = omega (arith, l.auto.left) in
    let lt : l.place < length ms = omega (arith, l.auto.left, c.requires) in
    let here = get_or-map pin_count ms l.place h.at 0 lt ∙ (ap pin_count (get_or_from_slice_get ms l.place h.at h.at h.listed) ∙ sym h.pins_are) in
    take_more_set l.left l.place c.head.result.pins room ∙ (ap (λ x. x ++ c.head.result.pins ∷ []) l.invariant ∙ (ap (λ x. take l.place (map pin_count ms) ++ x ∷ []) (sym here) ∙ sym (take_more (map pin_count ms) l.place 0 (omega (arith, length-map ms pin_count)))))
