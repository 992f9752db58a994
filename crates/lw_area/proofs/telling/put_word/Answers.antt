use Rattle.std.proofs.Common.{◌≡◌, ◌∙◌, ◌++◌, ℕ, List, [], ◌∷◌, length, refl, sym, subst}
use Rattle.std.proofs.lemmas.Bool.{eqb-false}
use Rattle.std.specs.Prelude.{codes}
use Rattle.lw_io.specs.Writers.{Writes}
use Rattle.lw_io.proofs.Putting.{Writes-both}
use Rattle.lw_shown.specs.Shown.{shown}
use Rattle.lw_area.specs.Refusals.{word_part}
use Rattle.lw_area.proofs.telling.put_word.Goals as goal

of_word : (word : List ℕ) → (length word ≡ 0 → ⊥) → shown word ++ codes ": " ≡ word_part word
of_word [] some = absurd (some refl)
of_word (b ∷ word) some = refl

pub returns-else-is_empty : goal.returns-else-is_empty
returns-else-is_empty g c =
    let word = c.args.word.now in
    subst (λ text. Writes g.E.Sink.taken g.E.Sink.faults c.args.out.now c.put-else-is_empty.new.self text) (of_word word (eqb-false (length word) 0 (sym c.is_empty.ensures ∙ c.if-is_empty.false))) (Writes-both c.put_shown.ensures c.put-else-is_empty.ensures)
