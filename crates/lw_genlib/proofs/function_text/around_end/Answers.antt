use Rattle.std.proofs.Common.{◌≡◌, ◌+◌, ◌-◌, ℕ, sym, ap, ◌∙◌, length, drop, length-drop, arith}
use Rattle.std.proofs.lemmas.List.{take_all}
use Rattle.lw_genlib.specs.Entries as words
use Rattle.lw_genlib.proofs.Listed.{no-place, first-place, some-passes}
use Rattle.lw_genlib.proofs.function_text.around_end.Goals as goal

pub returns-in-Some-clause-some : goal.returns-in-Some-clause-some
returns-in-Some-clause-some c =
    let size : length (drop (c.in-Some.place + 1) c.args.word.now) ≡ length c.args.word.now - (c.in-Some.place + 1) = length-drop (c.in-Some.place + 1) c.args.word.now in (
      some-passes words.is_end c.args.word.now c.in-Some.place c.in-Some.ensures,
      take_all (length c.args.word.now - (c.in-Some.place + 1)) (drop (c.in-Some.place + 1) c.args.word.now) (omega arith)
          ∙ ap (λ (n : ℕ). drop (n + 1) c.args.word.now) (sym (first-place words.is_end c.args.word.now c.in-Some.place c.in-Some.ensures)),
    )

pub returns-in-None-clause-none : goal.returns-in-None-clause-none
returns-in-None-clause-none c = no-place words.is_end c.args.word.now (sym c.in-None.ensures)
