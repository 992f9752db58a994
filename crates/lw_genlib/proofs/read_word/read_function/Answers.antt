use Rattle.std.proofs.Common.{◌≡◌, ◌≤◌, ◌<◌, ◌+◌, ℕ, List, ◌∷◌, ◌++◌, true, false, refl, sym, ap, ◌∙◌, subst, length, arith}
use Rattle.std.specs.Prelude.{nat_lt}
use Rattle.std.specs.List.{list_any, before_first, after_first}
use Rattle.lw_genlib.specs.Cells.{IsPart}
use Rattle.lw_genlib.specs.declared.fault.LibKind.TheVariants.{LimitText}
use Rattle.lw_genlib.specs.Streams.{word_on, with_rest}
use Rattle.lw_genlib.specs.Entries as words
use Rattle.lw_genlib.specs.Libraries as library
use Rattle.lw_genlib.specs.Standing.{resume, reads_on}
use Rattle.lw_genlib.specs.declared.reader_state.ReaderState.{ReaderState}
use Rattle.lw_genlib.proofs.Steps.{same-piece, outcome-moved, breaks, room-lacks, room-holds, text-long, text-goes_on, text-ends, if-none, if-some}
use Rattle.lw_genlib.proofs.Texts.{before-part, before-plain, before-none}
use Rattle.lw_genlib.proofs.read_word.read_function.Goals as goal

pub with_word-requires : goal.with_word-requires
with_word-requires c =
    let room : c.args.text.room ≡ c.text.inside.room = sym (ap (λ (t : words.FunctionText). t.room) c.text.view_is) in
    let less : length c.around_end.result.0.now < c.text.inside.room = c.if-word-text.false in
    record {
      part = subst IsPart (sym c.around_end.ensures.before) (before-part c.args.given.now.word.now c.requires);
      no_end = subst (λ (bs : List ℕ). list_any words.is_end bs ≡ false) (sym c.around_end.ensures.before) (before-plain c.args.given.now.word.now);
      room = omega arith;
    }

pub returns-then-word-text : goal.returns-then-word-text
returns-then-word-text c = λ rest.
    let room : c.args.text.room ≡ c.text.inside.room = sym (ap (λ (t : words.FunctionText). t.room) c.text.view_is) in
    let long : nat_lt c.args.text.room (1 + length (before_first words.is_end c.args.given.now.word.now)) ≡ true =
    room-lacks c.args.text.room (length (before_first words.is_end c.args.given.now.word.now))
    (subst (λ (r : ℕ). r ≤ length (before_first words.is_end c.args.given.now.word.now)) (sym room) (subst (λ (bs : List ℕ). c.text.inside.room ≤ length bs) c.around_end.ensures.before c.if-word-text.true)) in
    breaks c.args.given.now.line LimitText (library.opened_by c.args.before.so_far (words.behind_words c.args.header.line c.args.header.name c.args.header.area c.args.text (word_on c.args.given.now.line c.args.given.now.word.now ∷ rest)))
    (text-long c.args.before.so_far c.args.header.line c.args.header.name c.args.header.area c.args.text c.args.given.now.line c.args.given.now.word.now rest long)

pub returns-in-Some : goal.returns-in-Some
returns-in-Some c = λ rest.
    let room : c.args.text.room ≡ c.text.inside.room = sym (ap (λ (t : words.FunctionText). t.room) c.text.view_is) in
    let short : nat_lt c.args.text.room (1 + length (before_first words.is_end c.args.given.now.word.now)) ≡ false =
    room-holds c.args.text.room (length (before_first words.is_end c.args.given.now.word.now))
    (subst (λ (r : ℕ). length (before_first words.is_end c.args.given.now.word.now) < r) (sym room) (subst (λ (bs : List ℕ). length bs < c.text.inside.room) c.around_end.ensures.before c.if-word-text.false)) in
    let some = if-some c.around_end.result.1 c.in-Some.word (λ part. (list_any words.is_end c.args.given.now.word.now ≡ true) × (part.now ≡ after_first words.is_end c.args.given.now.word.now)) c.in-Some.is c.around_end.ensures.some in
    outcome-moved c.end_function.result (λ (p : ReaderState). resume p rest)
    (reads_on (library.piece_by (library.opened_by c.args.before.so_far (words.behind_words c.args.header.line c.args.header.name c.args.header.area c.args.text (word_on c.args.given.now.line c.args.given.now.word.now ∷ rest)))))
    (reads_on (library.piece_by (library.opened_by c.args.before.so_far (with_rest (words.left_over c.args.given.now.line c.in-Some.word.now ++ rest) (words.entry_begun c.args.header.line c.args.header.name c.args.header.area (words.with_end c.in_ok-text.text c.args.given.now.line))))))
    (same-piece (library.opened_by c.args.before.so_far (words.behind_words c.args.header.line c.args.header.name c.args.header.area c.args.text (word_on c.args.given.now.line c.args.given.now.word.now ∷ rest)))
    (library.opened_by c.args.before.so_far (with_rest (words.left_over c.args.given.now.line c.in-Some.word.now ++ rest) (words.entry_begun c.args.header.line c.args.header.name c.args.header.area (words.with_end c.in_ok-text.text c.args.given.now.line))))
    (text-ends c.args.before.so_far c.args.header.line c.args.header.name c.args.header.area c.args.text c.in_ok-text.text c.args.given.now.line c.args.given.now.word.now rest (words.entry_begun c.args.header.line c.args.header.name c.args.header.area (words.with_end c.in_ok-text.text c.args.given.now.line)) short some.0
    (c.in_ok-text.ensures ∙ ap (words.with_word c.args.text c.args.given.now.line) c.around_end.ensures.before) refl
    ∙ ap (λ (bs : List ℕ). library.opened_by c.args.before.so_far (with_rest (words.left_over c.args.given.now.line bs ++ rest) (words.entry_begun c.args.header.line c.args.header.name c.args.header.area (words.with_end c.in_ok-text.text c.args.given.now.line)))) (sym some.1)))
    (c.end_function.ensures rest)

pub returns : goal.returns
unfolding resume
returns c = λ rest.
    let room : c.args.text.room ≡ c.text.inside.room = sym (ap (λ (t : words.FunctionText). t.room) c.text.view_is) in
    let short : nat_lt c.args.text.room (1 + length (before_first words.is_end c.args.given.now.word.now)) ≡ false =
    room-holds c.args.text.room (length (before_first words.is_end c.args.given.now.word.now))
    (subst (λ (r : ℕ). length (before_first words.is_end c.args.given.now.word.now) < r) (sym room) (subst (λ (bs : List ℕ). length bs < c.text.inside.room) c.around_end.ensures.before c.if-word-text.false)) in
    let none : list_any words.is_end c.args.given.now.word.now ≡ false = if-none c.around_end.result.1 (list_any words.is_end c.args.given.now.word.now ≡ false) c.in_default.is c.around_end.ensures.none in
    same-piece (library.opened_by c.args.before.so_far (words.behind_words c.args.header.line c.args.header.name c.args.header.area c.args.text (word_on c.args.given.now.line c.args.given.now.word.now ∷ rest)))
    (library.opened_by c.args.before.so_far (words.behind_words c.args.header.line c.args.header.name c.args.header.area c.in_ok-text.text rest))
    (text-goes_on c.args.before.so_far c.args.header.line c.args.header.name c.args.header.area c.args.text c.in_ok-text.text c.args.given.now.line c.args.given.now.word.now rest short none
    (c.in_ok-text.ensures ∙ ap (words.with_word c.args.text c.args.given.now.line) (c.around_end.ensures.before ∙ before-none c.args.given.now.word.now none)))
