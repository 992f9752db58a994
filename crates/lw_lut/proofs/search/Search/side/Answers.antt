use Rattle.std.proofs.Common.{◌≡◌, ◌<◌, ◌/◌, ◌⊎◌, inl, inr, ap, refl, length, Some, None, slice_get, sym, ◌∙◌, arith}
use Rattle.lw_lut.proofs.Places.{read_at, read_number}
use Rattle.lw_lut.proofs.Sides.{side_pin, side_cut, open_else}
use Rattle.lw_lut.specs.Searches.{count_at}
use Rattle.lw_lut.proofs.search.Search.side.Goals as goal

pub returns-in-Some : goal.returns-in-Some
returns-in-Some c = λ g most d are low.
    let s = c.args.self.now in
    let place = c.place_of-place.result in
    let here = c.args.class.0 / 2 in
    let in_pins : here < length s.pins.items = omega (arith, c.requires.within, c.requires.pins) in
    let in_counts : here < length s.counts.items = omega (arith, c.requires.within, c.requires.counts) in
    let at = read_at s.pins.items place here c.index.result.now c.place_of-place.ensures in_pins c.index.ensures ∙ ap Some (c.in-Some.ensures.some.0) in
    let one = read_number s.counts.items place here c.index-2.result.now c.place_of-place.ensures in_counts c.index-2.ensures ∙ c.in-Some.ensures.some.1 in
    side_pin g most d s are c.args.class.0 c.in-Some.pin c.pin.result at one c.pin.ensures.pins c.pin.ensures.low c.pin.ensures.high

pub returns-in-None : goal.returns-in-None
returns-in-None c = λ g most d are low.
    let s = c.args.self.now in
    let place = c.place_of-place.result in
    let here = c.args.class.0 / 2 in
    let in_pins : here < length s.pins.items = omega (arith, c.requires.within, c.requires.pins) in
    let in_counts : here < length s.counts.items = omega (arith, c.requires.within, c.requires.counts) in
    let cut = read_at s.cuts.items place here c.index-in-None.result.now c.place_of-place.ensures c.requires.within c.index-in-None.ensures ∙ ap Some (sym c.copy.ensures) in
    let pin = read_at s.pins.items place here c.index.result.now c.place_of-place.ensures in_pins c.index.ensures in
    let count = read_number s.counts.items place here c.index-2.result.now c.place_of-place.ensures in_counts c.index-2.ensures in
    let free : (slice_get s.pins.items here ≡ Some None) ⊎ (count_at s.counts.items c.args.class.0 ≡ 0) = elim (c.in-None.ensures.none refl) [
      | inl none ↦ inl (pin ∙ ap Some none)
      | inr other ↦ open_else g most d s are c.args.class.0 c.index.result.now pin (λ one. other (sym count ∙ one))
    ] in
    side_cut g most d s are c.args.class.0 low c.copy.result cut free
