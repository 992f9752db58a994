use Rattle.std.proofs.Common.{◌≡◌, ◌∙◌, None, Some, arith, refl, subst, sym}
use Rattle.std.specs.List.{position}
use Rattle.std.specs.Str.{bytes_eq}
use Rattle.lw_equal.specs.Sides.{inputs_of}
use Rattle.lw_equal.proofs.Roots.{latch_found, no_input, own_input}
use Rattle.lw_equal.proofs.known.Known.latch.Goals as goal

pub returns-in_err-place : goal.returns-in_err-place
returns-in_err-place c =
    let side = c.args.self.now.side.now in
    let name = c.args.name.now in
    let none : position (bytes_eq name) (inputs_of side.logic) ≡ None = subst (λ ks. position (bytes_eq name) ks ≡ None) c.requires.inputs (sym c.in_err-place.ensures.index) in
    rw c.from_residual.ensures (no_input side c.requires.side name none)

pub returns-then-place-inputs : goal.returns-then-place-inputs
returns-then-place-inputs c =
    let side = c.args.self.now.side.now in
    let name = c.args.name.now in
    let place = c.in_ok-place.place in
    let found : position (bytes_eq name) (inputs_of side.logic) ≡ Some place = subst (λ ks. position (bytes_eq name) ks ≡ Some place) c.requires.inputs (sym c.in_ok-place.ensures.index) in
    own_input side c.requires.side name place found (omega (arith, c.if-place-inputs.true))

pub returns : goal.returns
returns c =
    let side = c.args.self.now.side.now in
    let name = c.args.name.now in
    let place = c.in_ok-place.place in
    let found : position (bytes_eq name) (inputs_of side.logic) ≡ Some place = subst (λ ks. position (bytes_eq name) ks ≡ Some place) c.requires.inputs (sym c.in_ok-place.ensures.index) in
    let lookup = rw c.as_slice.ensures at c.get.ensures.lookup.3 in
    latch_found side c.requires.side name place found _ (omega (arith, c.if-place-inputs.false)) refl c.get.result lookup
