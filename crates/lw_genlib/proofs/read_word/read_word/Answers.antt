use Rattle.std.proofs.Common.{◌∷◌, Some, refl, ap}
use Rattle.lw_genlib.specs.declared.state_parts.Expect.TheVariants as expect
use Rattle.lw_genlib.specs.declared.reader_state.ReaderState.{ReaderState}
use Rattle.lw_genlib.specs.Streams.{word_on}
use Rattle.lw_genlib.specs.Entries as words
use Rattle.lw_genlib.specs.Libraries as library
use Rattle.lw_genlib.specs.Fields.{fields_behind}
use Rattle.lw_genlib.specs.Standing.{resume, reads_on}
use Rattle.lw_genlib.proofs.Steps.{word-at, piece-word}
use Rattle.lw_genlib.proofs.read_word.read_word.Goals as goal

pub returns-in-Piece : goal.returns-in-Piece
returns-in-Piece c = λ rest.
    word-at c.read_piece.result (λ (p : ReaderState). resume p rest) c.args.state (expect.Piece c.in-Piece.entry) (word_on c.args.given.now.line c.args.given.now.word.now ∷ rest)
    (reads_on (library.piece_by (library.words_behind (library.with_open c.args.state.so_far c.in-Piece.entry) c.in-Piece.entry c.args.given.now.line c.args.given.now.word.now rest)))
    c.in-Piece.is (ap reads_on (piece-word c.args.state.so_far c.in-Piece.entry c.args.given.now.line c.args.given.now.word.now rest)) (c.read_piece.ensures rest)

pub returns-in-Latch : goal.returns-in-Latch
returns-in-Latch c = λ rest.
    word-at c.read_latch.result (λ (p : ReaderState). resume p rest) c.args.state expect.Latch (word_on c.args.given.now.line c.args.given.now.word.now ∷ rest)
    (reads_on (library.next c.args.state.so_far (library.behind_latch (word_on c.args.given.now.line c.args.given.now.word.now ∷ rest))))
    c.in-Latch.is refl (c.read_latch.ensures rest)

pub returns-in-Name : goal.returns-in-Name
returns-in-Name c = λ rest.
    word-at c.read_name.result (λ (p : ReaderState). resume p rest) c.args.state (expect.Name c.in-Name.gate) (word_on c.args.given.now.line c.args.given.now.word.now ∷ rest)
    (reads_on (library.piece_by (library.gate_on c.args.state.so_far c.in-Name.gate (word_on c.args.given.now.line c.args.given.now.word.now ∷ rest))))
    c.in-Name.is refl (c.read_name.ensures rest)

pub returns-in-Area : goal.returns-in-Area
returns-in-Area c = λ rest.
    word-at c.read_area.result (λ (p : ReaderState). resume p rest) c.args.state (expect.Area c.in-Area.gate) (word_on c.args.given.now.line c.args.given.now.word.now ∷ rest)
    (reads_on (library.piece_by (library.opened_by c.args.state.so_far (words.behind_name c.in-Area.gate.line c.in-Area.gate.name (word_on c.args.given.now.line c.args.given.now.word.now ∷ rest)))))
    c.in-Area.is refl (c.read_area.ensures rest)

pub returns-in-Function : goal.returns-in-Function
returns-in-Function c = λ rest.
    word-at c.read_function.result (λ (p : ReaderState). resume p rest) c.args.state (expect.Function c.in-Function.header c.in-Function.text) (word_on c.args.given.now.line c.args.given.now.word.now ∷ rest)
    (reads_on (library.piece_by (library.opened_by c.args.state.so_far (words.behind_words c.in-Function.header.line c.in-Function.header.name c.in-Function.header.area c.in-Function.text (word_on c.args.given.now.line c.args.given.now.word.now ∷ rest)))))
    c.in-Function.is refl (c.read_function.ensures rest)

pub returns-in-Pin : goal.returns-in-Pin
returns-in-Pin c = λ rest.
    word-at c.read_pin.result (λ (p : ReaderState). resume p rest) c.args.state (expect.Pin c.in-Pin.entry) (word_on c.args.given.now.line c.args.given.now.word.now ∷ rest)
    (reads_on (library.piece_by (library.pin_on (library.with_open c.args.state.so_far (Some c.in-Pin.entry)) c.in-Pin.entry (word_on c.args.given.now.line c.args.given.now.word.now ∷ rest))))
    c.in-Pin.is refl (c.read_pin.ensures rest)

pub returns-in-Field : goal.returns-in-Field
returns-in-Field c = λ rest.
    word-at c.read_field.result (λ (p : ReaderState). resume p rest) c.args.state (expect.Field c.in-Field.entry c.in-Field.pin c.in-Field.field) (word_on c.args.given.now.line c.args.given.now.word.now ∷ rest)
    (reads_on (library.piece_by (library.opened_by (library.with_open c.args.state.so_far (Some c.in-Field.entry)) (words.behind_target c.in-Field.entry c.in-Field.pin.pins (c.in-Field.field ∷ fields_behind c.in-Field.field) c.in-Field.pin.delay (word_on c.args.given.now.line c.args.given.now.word.now ∷ rest)))))
    c.in-Field.is refl (c.read_field.ensures rest)
