use Rattle.std.proofs.Common.{ℕ, List, ◌∷◌, Ok, Some, refl, ap, ◌∙◌}
use Rattle.lw_genlib.specs.Streams.{word_on, on_line}
use Rattle.lw_genlib.specs.Entries as words
use Rattle.lw_genlib.specs.Libraries as library
use Rattle.lw_genlib.specs.Standing.{resume}
use Rattle.lw_genlib.proofs.Steps.{pin-read, same-piece}
use Rattle.lw_genlib.proofs.read_word.read_pin.Goals as goal

pub returns : goal.returns
unfolding resume
returns c = λ rest.
    same-piece (library.pin_on (library.with_open c.args.before.so_far (Some c.args.entry)) c.args.entry (word_on c.args.given.now.line c.args.given.now.word.now ∷ rest))
    (library.opened_by (library.with_open c.args.before.so_far (Some c.args.entry)) (words.behind_target c.args.entry c.in_ok-pins.pins words.pin_fields words.no_delay rest))
    (pin-read (library.with_open c.args.before.so_far (Some c.args.entry)) c.args.entry c.args.given.now.line c.args.given.now.word.now c.in_ok-pins.pins rest (Ok c.in_ok-pins.pins)
    (c.in_ok-pins.ensures ∙ ap (λ (ps : List (List ℕ)). on_line c.args.given.now.line (words.target_of ps c.args.given.now.word.now)) c.pins.ensures) refl)
