use Rattle.std.proofs.Common.{◌≡◌, ◌<◌, List, sym, ap, ◌∙◌, subst}
use Rattle.std.specs.Prelude.{codes, sum_by, not}
use Rattle.std.specs.Str.{bytes_eq}
use Rattle.lw_genlib.specs.Cells.{CellParts, form_count, most_entries}
use Rattle.lw_genlib.specs.Streams.{done}
use Rattle.lw_genlib.specs.Libraries as library
use Rattle.lw_genlib.specs.Standing.{resume}
use Rattle.lw_genlib.proofs.Steps.{latch-begins, gate-begins, same-piece, room-left, not-false}
use Rattle.lw_genlib.proofs.read_word.read_entry.Goals as goal

pub returns-then-eq : goal.returns-then-eq
unfolding resume
returns-then-eq c = λ rest.
    same-piece (library.entry_on c.args.given.now.line c.args.given.now.word.now rest c.args.so_far) (done c.args.so_far (library.behind_latch rest))
    (latch-begins c.args.so_far c.args.given.now.line c.args.given.now.word.now rest (sym (c.if-eq.ensures ∙ ap (bytes_eq c.args.given.now.word.now) c.as_slice.ensures)))

pub returns : goal.returns
unfolding resume
returns c = λ rest.
    let cells : c.so_far.inside.cells.items ≡ c.args.so_far.cells = ap (λ (b : library.CellsSoFar). b.cells) c.so_far.view_is in
    let few : sum_by form_count c.so_far.inside.cells.items < most_entries = subst (λ n. n < most_entries) c.so_far.invariant.count c.if-so_far-ge-MOST_ENTRIES.false in
    same-piece (library.entry_on c.args.given.now.line c.args.given.now.word.now rest c.args.so_far) (library.gate_on c.args.so_far c.args.given.now.line rest)
    (gate-begins c.args.so_far c.args.given.now.line c.args.given.now.word.now rest (sym (c.if-eq.ensures ∙ ap (bytes_eq c.args.given.now.word.now) c.as_slice.ensures))
    (not-false (bytes_eq c.args.given.now.word.now (codes "GATE")) (c.if-ne.ensures ∙ ap (λ w. not (bytes_eq c.args.given.now.word.now w)) c.as_slice-2.ensures))
    (room-left (sum_by form_count c.args.so_far.cells) (subst (λ (cs : List CellParts). sum_by form_count cs < 4096) cells few)))
