use Rattle.std.proofs.Common.{Some, sym, ap, ◌∙◌}
use Rattle.std.specs.Str.{bytes_eq}
use Rattle.lw_genlib.specs.Libraries as library
use Rattle.lw_genlib.specs.Standing.{resume}
use Rattle.lw_genlib.specs.declared.reader_state.ReaderState.{ReaderState}
use Rattle.lw_genlib.proofs.Steps.{pin-begins, no-pin, same-piece, moved, ended-behind}
use Rattle.lw_genlib.proofs.read_word.read_behind.Goals as goal

pub returns-then-eq : goal.returns-then-eq
unfolding resume
returns-then-eq c = λ rest.
    same-piece (library.words_behind (library.with_open c.args.before.so_far (Some c.args.entry)) (Some c.args.entry) c.args.given.now.line c.args.given.now.word.now rest) (library.pin_on (library.with_open c.args.before.so_far (Some c.args.entry)) c.args.entry rest)
    (pin-begins c.args.before.so_far c.args.entry c.args.given.now.line c.args.given.now.word.now rest (sym (c.if-eq.ensures ∙ ap (bytes_eq c.args.given.now.word.now) c.as_slice.ensures)))

pub returns : goal.returns
returns c = λ rest.
    moved (library.words_behind (library.with_open c.args.before.so_far (Some c.args.entry)) (Some c.args.entry) c.args.given.now.line c.args.given.now.word.now rest) (library.entry_on c.args.given.now.line c.args.given.now.word.now rest c.in_ok-so_far.so_far)
    c.read_entry.result (λ (p : ReaderState). resume p rest)
    (no-pin c.args.before.so_far c.args.entry c.args.given.now.line c.args.given.now.word.now rest (sym (c.if-eq.ensures ∙ ap (bytes_eq c.args.given.now.word.now) c.as_slice.ensures))
    ∙ ended-behind (library.with_open c.args.before.so_far (Some c.args.entry)) c.in_ok-so_far.so_far c.args.given.now.line c.args.given.now.word.now rest c.in_ok-so_far.ensures)
    (c.read_entry.ensures rest)
