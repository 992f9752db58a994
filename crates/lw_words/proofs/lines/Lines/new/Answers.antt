use Rattle.std.proofs.Common.{◌≡◌, refl, sym, ap, ◌∙◌}
use Rattle.lw_words.specs.Reading.{first_place}
use Rattle.lw_words.proofs.Stands.{stands-new}
use Rattle.lw_words.proofs.lines.Lines.new.Goals as goal
use Rattle.lw_words.proofs.lines.Lines.new.Goals.{then-marked, else-marked}

pub returns-clause-stands : goal.returns-clause-stands
returns-clause-stands c =
    let first : c.if-marked.result ≡ first_place c.args.marked =
    elim c.if-marked.branch [ then-marked w ↦ w.result-is ∙ sym (ap first_place w.if-marked.true) | else-marked w ↦ w.result-is ∙ sym (ap first_place w.if-marked.false) ] in
    stands-new _ (record { finished = refl; fed = refl; number = refl; at = refl; place = first; gathering = c.new.ensures; ready = c.new-2.ensures.items })
