use Rattle.std.proofs.Common.{List, ◌++◌, Some, ap, ◌∙◌}
use Rattle.lw_genlib.specs.Streams.{StreamItem, with_rest}
use Rattle.lw_genlib.specs.Entries as words
use Rattle.lw_genlib.specs.Libraries as library
use Rattle.lw_genlib.specs.Standing.{resume, reads_on}
use Rattle.lw_genlib.specs.declared.reader_state.ReaderState.{ReaderState}
use Rattle.lw_genlib.proofs.Steps.{function-ends, outcome-moved, left-empty, left-some, empty-list, some-list}
use Rattle.lw_genlib.proofs.read_word.end_function.Goals as goal

pub returns-then-is_empty : goal.returns-then-is_empty
unfolding resume
returns-then-is_empty c = λ rest.
    function-ends c.args.before.so_far c.in_ok-entry.entry c.args.header.line c.args.header.name c.args.header.area c.args.text c.args.given.now.line c.args.given.now.word.now rest c.in_ok-entry.ensures
    ∙ ap (λ (ts : List StreamItem). reads_on (library.piece (library.with_open c.args.before.so_far (Some c.in_ok-entry.entry)) ts))
    (left-empty c.args.given.now.line c.args.given.now.word.now rest (empty-list c.args.given.now.word.now c.if-is_empty.ensures))

pub returns : goal.returns
returns c = λ rest.
    outcome-moved c.read_behind.result (λ (p : ReaderState). resume p rest)
    (reads_on (library.piece_by (library.opened_by c.args.before.so_far (with_rest (words.left_over c.args.given.now.line c.args.given.now.word.now ++ rest) (words.entry_begun c.args.header.line c.args.header.name c.args.header.area (words.with_end c.args.text c.args.given.now.line))))))
    (reads_on (library.piece_by (library.words_behind (library.with_open c.args.before.so_far (Some c.in_ok-entry.entry)) (Some c.in_ok-entry.entry) c.args.given.now.line c.args.given.now.word.now rest)))
    (function-ends c.args.before.so_far c.in_ok-entry.entry c.args.header.line c.args.header.name c.args.header.area c.args.text c.args.given.now.line c.args.given.now.word.now rest c.in_ok-entry.ensures
    ∙ ap reads_on (left-some c.args.before.so_far c.in_ok-entry.entry c.args.given.now.line c.args.given.now.word.now rest (some-list c.args.given.now.word.now c.if-is_empty.ensures)))
    (c.read_behind.ensures rest)
