use Rattle.std.proofs.Common.{Bool, if◌then◌else◌, sym, ap, ◌∙◌}
use Rattle.lw_laws.specs.Flip.{flip}
use Rattle.lw_laws.proofs.Flips.{xor-one}
use Rattle.lw_bounds.proofs.numbers.class_below.Goals as goal

pub returns-then-side : goal.returns-then-side
returns-then-side c =
    let n = c.args.class.0 in
    c.flip.ensures ∙ (xor-one n ∙ sym (ap (λ (b : Bool). if b then flip n else n) c.if-side.true))
