use Rattle.std.proofs.Common.{◌≡◌, None, Some, arith, subst, sym}
use Rattle.std.specs.List.{position}
use Rattle.std.specs.Str.{bytes_eq}
use Rattle.lw_equal.specs.Sides.{root_names}
use Rattle.lw_equal.proofs.Roots.{no_output, only_output, past_outputs}
use Rattle.lw_equal.proofs.known.Known.output.Goals as goal

pub returns-in_err-place : goal.returns-in_err-place
returns-in_err-place c =
    let side = c.args.self.now.side.now in
    let name = c.args.name.now in
    let none : position (bytes_eq name) (root_names side.logic) ≡ None = subst (λ ks. position (bytes_eq name) ks ≡ None) c.requires.roots (sym c.in_err-place.ensures.index) in
    rw c.from_residual.ensures (no_output side c.requires.side name none)

pub returns-then-place-self : goal.returns-then-place-self
returns-then-place-self c =
    let side = c.args.self.now.side.now in
    let name = c.args.name.now in
    let place = c.in_ok-place.place in
    let found : position (bytes_eq name) (root_names side.logic) ≡ Some place = subst (λ ks. position (bytes_eq name) ks ≡ Some place) c.requires.roots (sym c.in_ok-place.ensures.index) in
    past_outputs side c.requires.side name place found (omega (arith, c.if-place-self.true))

pub returns : goal.returns
returns c =
    let side = c.args.self.now.side.now in
    let name = c.args.name.now in
    let place = c.in_ok-place.place in
    let found : position (bytes_eq name) (root_names side.logic) ≡ Some place = subst (λ ks. position (bytes_eq name) ks ≡ Some place) c.requires.roots (sym c.in_ok-place.ensures.index) in
    only_output side c.requires.side name place found (record { name = c.root.result.name.now; net = c.root.result.net.0 }) c.root.ensures (omega (arith, c.if-place-self.false))
