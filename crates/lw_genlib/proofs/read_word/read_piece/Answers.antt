use Rattle.std.proofs.Common.{◌≡◌, Option, None, sym, ap, subst}
use Rattle.std.specs.Prelude.{MatchResult}
use Rattle.lw_genlib.specs.Entries as words
use Rattle.lw_genlib.specs.Libraries as library
use Rattle.lw_genlib.specs.Standing.{resume, reads_on, BreaksAt}
use Rattle.lw_genlib.specs.declared.reader_state.ReaderState.{ReaderState}
use Rattle.lw_genlib.proofs.Steps.{moved, open-none}
use Rattle.lw_genlib.proofs.read_word.read_piece.Goals as goal

pub returns-in-Some : goal.returns-in-Some
returns-in-Some c = λ rest.
    subst (λ (o : Option words.Entry). MatchResult c.read_behind.result (λ (new : ReaderState). reads_on (library.piece_by (library.words_behind (library.with_open c.args.read.so_far o) o c.args.given.now.line c.args.given.now.word.now rest)) ≡ resume new rest)
    (BreaksAt (reads_on (library.piece_by (library.words_behind (library.with_open c.args.read.so_far o) o c.args.given.now.line c.args.given.now.word.now rest)))))
    (sym c.in-Some.is) (c.read_behind.ensures rest)

pub returns-in-None : goal.returns-in-None
returns-in-None c = λ rest.
    subst (λ (o : Option words.Entry). MatchResult c.read_entry.result (λ (new : ReaderState). reads_on (library.piece_by (library.words_behind (library.with_open c.args.read.so_far o) o c.args.given.now.line c.args.given.now.word.now rest)) ≡ resume new rest)
    (BreaksAt (reads_on (library.piece_by (library.words_behind (library.with_open c.args.read.so_far o) o c.args.given.now.line c.args.given.now.word.now rest)))))
    (sym c.in-None.is)
    (moved (library.words_behind (library.with_open c.args.read.so_far None) None c.args.given.now.line c.args.given.now.word.now rest) (library.entry_on c.args.given.now.line c.args.given.now.word.now rest c.args.read.so_far)
    c.read_entry.result (λ (p : ReaderState). resume p rest)
    (ap (library.entry_on c.args.given.now.line c.args.given.now.word.now rest) (open-none c.args.read.so_far (sym (ap (λ (b : library.CellsSoFar). b.entry) c.so_far.view_is)))) (c.read_entry.ensures rest))
