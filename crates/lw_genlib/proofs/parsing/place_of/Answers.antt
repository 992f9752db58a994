use Rattle.std.proofs.Common.{◌≡◌, [], get_or, sym, ap, ◌∙◌, arith}
use Rattle.std.specs.Str.{bytes_eq}
use Rattle.std.proofs.lemmas.List.{get_or_read}
use Rattle.lw_genlib.proofs.Names.{first_place, no_place}
use Rattle.lw_genlib.proofs.parsing.place_of.Goals as goal

pub returns-then-eq : goal.returns-then-eq
returns-then-eq c =
    let here : c.as_bytes.result.now ≡ get_or c.args.pins.now c.loop-place.place [] =
    c.as_bytes.ensures.bytes ∙ get_or_read c.args.pins.now c.loop-place.place c.index-pins-place.result (omega arith) c.index-pins-place.is [] in
    sym (first_place (bytes_eq c.args.bytes.now) c.args.pins.now c.loop-place.place (omega arith) c.loop-place.invariant (ap (bytes_eq c.args.bytes.now) (sym here) ∙ (sym c.eq.ensures ∙ c.if-eq.true)))

pub returns : goal.returns
returns c = sym (no_place (bytes_eq c.args.bytes.now) c.args.pins.now (λ k lt. c.loop-place.invariant k (omega arith)))
