use Rattle.std.proofs.Common.{List, ◌∷◌, refl, sym, ap, ◌∙◌}
use Rattle.lw_genlib.specs.declared.state_parts.Expect.TheVariants as expect
use Rattle.lw_genlib.specs.declared.reader_state.ReaderState.{ReaderState}
use Rattle.lw_genlib.specs.Streams.{StreamItem, word_on}
use Rattle.lw_genlib.specs.Libraries as library
use Rattle.lw_genlib.specs.Standing.{resume, reads_on}
use Rattle.lw_genlib.proofs.Steps.{outcome-moved, resume-at, latch-word, latch-goes_on}
use Rattle.lw_genlib.proofs.read_word.read_latch.Goals as goal

pub returns-then-begins_entry : goal.returns-then-begins_entry
returns-then-begins_entry c = λ rest.
    outcome-moved c.read_entry.result (λ (p : ReaderState). resume p rest)
    (reads_on (library.next c.args.so_far (library.behind_latch (word_on c.args.given.now.line c.args.given.now.word.now ∷ rest))))
    (reads_on (library.piece_by (library.entry_on c.args.given.now.line c.args.given.now.word.now rest c.args.so_far)))
    (latch-word c.args.so_far c.args.given.now.line c.args.given.now.word.now rest (sym (ap (λ (b : library.CellsSoFar). b.entry) c.so_far.view_is)) (sym c.if-begins_entry.ensures)) (c.read_entry.ensures rest)

pub returns : goal.returns
returns c = λ rest.
    ap (λ (ts : List StreamItem). reads_on (library.next c.args.so_far ts)) (latch-goes_on c.args.given.now.line c.args.given.now.word.now rest (sym c.if-begins_entry.ensures))
    ∙ sym (resume-at _ expect.Latch rest refl)
