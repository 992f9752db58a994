use Rattle.std.proofs.Common.{◌∷◌, Ok, Err, Some, refl, sym, ◌∙◌}
use Rattle.lw_genlib.specs.Streams.{word_on}
use Rattle.lw_genlib.specs.Entries as words
use Rattle.lw_genlib.specs.Libraries as library
use Rattle.lw_genlib.specs.Fields.{fields_behind}
use Rattle.lw_genlib.proofs.Small.{small-behind}
use Rattle.lw_genlib.proofs.Steps.{same-piece, breaks-any, field-read, field-fault, number-of_line}
use Rattle.lw_genlib.proofs.read_word.read_field.Goals as goal

pub invariant_of-behind_field : goal.invariant_of-behind_field
invariant_of-behind_field c = record {
  small =
      small-behind c.args.field c.args.pin.delay c.in-Ok.delay c.args.given.now.word.now c.args.pin.small
      (number-of_line c.args.given.now.line (words.delay_behind c.args.field c.args.pin.delay c.args.given.now.word.now) c.in-Ok.delay (sym c.in-Ok.ensures));
}

pub returns-in-Ok : goal.returns-in-Ok
returns-in-Ok c = λ rest.
    same-piece (library.opened_by (library.with_open c.args.before.so_far (Some c.args.entry)) (words.behind_target c.args.entry c.args.pin.pins (c.args.field ∷ fields_behind c.args.field) c.args.pin.delay (word_on c.args.given.now.line c.args.given.now.word.now ∷ rest)))
    (library.opened_by (library.with_open c.args.before.so_far (Some c.args.entry)) (words.behind_target c.args.entry c.args.pin.pins (fields_behind c.args.field) c.in-Ok.delay rest))
    (field-read (library.with_open c.args.before.so_far (Some c.args.entry)) c.args.entry c.args.pin.pins c.args.field c.args.pin.delay c.in-Ok.delay c.args.given.now.line c.args.given.now.word.now rest (Ok c.in-Ok.delay) c.in-Ok.ensures refl)
    ∙ sym (c.behind_field.ensures rest)

pub returns-in-Err : goal.returns-in-Err
returns-in-Err c = λ rest.
    breaks-any c.in-Err.fault (library.opened_by (library.with_open c.args.before.so_far (Some c.args.entry)) (words.behind_target c.args.entry c.args.pin.pins (c.args.field ∷ fields_behind c.args.field) c.args.pin.delay (word_on c.args.given.now.line c.args.given.now.word.now ∷ rest)))
    (field-fault (library.with_open c.args.before.so_far (Some c.args.entry)) c.args.entry c.args.pin.pins c.args.field c.args.pin.delay c.in-Err.fault c.args.given.now.line c.args.given.now.word.now rest (Err c.in-Err.fault) c.in-Err.ensures refl)
