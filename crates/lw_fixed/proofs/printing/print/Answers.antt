use Rattle.std.proofs.Common.{◌≡◌, ◌-◌, ◌∙◌, ap, length, take, drop, arith}
use Rattle.std.proofs.lemmas.List.{take_at}
use Rattle.lw_fixed.specs.Printed.{decimal_text}
use Rattle.lw_fixed.proofs.Written.{printed}
use Rattle.lw_fixed.proofs.printing.print.Goals as goal
use Rattle.lw_fixed.proofs.printing.print.Goals.{then-places-eq0, else-places-eq0}

pub returns-clause-text : goal.returns-clause-text
returns-clause-text c =
    let whole : take (c.if-places-eq0.end - c.write_in_full-start.result) (drop c.write_in_full-start.result c.write_in_full-start.new.text) ≡ decimal_text c.args.value.0 =
    printed c.args.value.0 c.write_in_full-start.result c.places_kept-places.result c.if-places-eq0.end c.write_in_full-start.new.text
    c.write_in_full-start.ensures.start c.write_in_full-start.ensures.text c.places_kept-places.ensures
    (λ is. elim c.if-places-eq0.branch [ then-places-eq0 w ↦ omega arith | else-places-eq0 w ↦ absurd (omega arith) ])
    (λ some. elim c.if-places-eq0.branch [ then-places-eq0 w ↦ absurd (omega arith) | else-places-eq0 w ↦ omega arith ]) in
    take_at c.copy_from_slice.new.self _ _ (ap length c.copy_from_slice.ensures.after) ∙ (c.copy_from_slice.ensures.after ∙ whole)
