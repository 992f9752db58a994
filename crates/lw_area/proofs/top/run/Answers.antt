use Rattle.std.proofs.Common.{◌∙◌, refl, sym, subst}
use Rattle.std.specs.Prelude.{IsErr}
use Rattle.std.proofs.lemmas.Bool.{false≢true}
use Rattle.lw_top.specs.Telling.{Told}
use Rattle.lw_top.proofs.Prefix.{told}
use Rattle.lw_area.specs.Outcomes.{IsTold, ending_line}
use Rattle.lw_area.specs.Plain.{plain_asked, plain_wrong}
use Rattle.lw_area.specs.Words.{Asked}
use Rattle.lw_area.proofs.Complete.{complete}
use Rattle.lw_area.proofs.Endings.{done, no_cover, not_asked, not_words, same_asked}
use Rattle.lw_area.proofs.Fastest.{fastest}
use Rattle.lw_area.proofs.top.run.Goals as goal

pub returns-in-Err-clause-told : goal.returns-in-Err-clause-told
returns-in-Err-clause-told g c =
    subst (λ r. IsTold (g.F.Shelf.files c.args.shelf.now) (g.F.Shelf.faults c.args.shelf.now) (g.F.Shelf.faults c.args.shelf.now) g.O.Sink.taken g.O.Sink.is_finished g.O.Sink.faults c.args.out.now c.args.out.now g.E.Sink.taken g.E.Sink.faults c.args.err.now c.tell_word.new.err r 1) c.in-Err.ensures
    (record { is = refl; untouched = refl; line = told _ _ _ _ _ c.tell_word.result c.tell_word.ensures })

pub returns-clause-told : goal.returns-clause-told
returns-clause-told g c =
    subst (λ r. IsTold (g.F.Shelf.files c.args.shelf.now) (g.F.Shelf.faults c.args.shelf.now) (g.F.Shelf.faults c.serve-ending.new.shelf) g.O.Sink.taken g.O.Sink.is_finished g.O.Sink.faults c.args.out.now c.serve-ending.new.out g.E.Sink.taken g.E.Sink.faults c.args.err.now c.tell_ending.new.err r c.status.result) c.in-Ok.ensures
    (record { ending = c.serve-ending.result; is = c.status.ensures; meets = c.serve-ending.ensures.meets; line = told _ _ _ _ _ c.tell_ending.result c.tell_ending.ensures })

pub returns-clause-mapping : goal.returns-clause-mapping
returns-clause-mapping g c = λ files task known asks zero.
    let same = same_asked (plain_asked c.in-Ok.asked) task (c.in-Ok.ensures ∙ asks) in
    done (g.F.Shelf.files c.args.shelf.now) (g.F.Shelf.faults c.args.shelf.now) (g.F.Shelf.faults c.serve-ending.new.shelf) g.O.Sink.taken g.O.Sink.is_finished g.O.Sink.faults c.args.out.now c.serve-ending.new.out task files known c.serve-ending.result (rw same at c.serve-ending.ensures.meets) (sym zero ∙ c.status.ensures)

pub returns-clause-each : goal.returns-clause-each
returns-clause-each g c = λ files task known asks each zero.
    let same = same_asked (plain_asked c.in-Ok.asked) task (c.in-Ok.ensures ∙ asks) in
    let (text, is, written) = done (g.F.Shelf.files c.args.shelf.now) (g.F.Shelf.faults c.args.shelf.now) (g.F.Shelf.faults c.serve-ending.new.shelf) g.O.Sink.taken g.O.Sink.is_finished g.O.Sink.faults c.args.out.now c.serve-ending.new.out task files known c.serve-ending.result (rw same at c.serve-ending.ensures.meets) (sym zero ∙ c.status.ensures) in
    (text, fastest task _ text each is, written)

pub returns-clause-no_cover : goal.returns-clause-no_cover
returns-clause-no_cover g c = λ files task known asks six.
    let same = same_asked (plain_asked c.in-Ok.asked) task (c.in-Ok.ensures ∙ asks) in
    let line = told _ _ _ _ _ c.tell_ending.result c.tell_ending.ensures in
    no_cover (g.F.Shelf.files c.args.shelf.now) (g.F.Shelf.faults c.args.shelf.now) (g.F.Shelf.faults c.serve-ending.new.shelf) g.O.Sink.taken g.O.Sink.is_finished g.O.Sink.faults c.args.out.now c.serve-ending.new.out task files known (Told g.E.Sink.taken g.E.Sink.faults c.args.err.now c.tell_ending.new.err) c.serve-ending.result (rw same at c.serve-ending.ensures.meets) (sym six ∙ c.status.ensures) (subst (λ (a : Asked). Told g.E.Sink.taken g.E.Sink.faults c.args.err.now c.tell_ending.new.err (ending_line a c.serve-ending.result)) same line)

pub returns-in-Err-clause-complete : goal.returns-in-Err-clause-complete
returns-in-Err-clause-complete g c = λ files task known asks. absurd (not_asked (plain_wrong c.in-Err.wrong) task (c.in-Err.ensures ∙ asks))

pub returns-clause-complete : goal.returns-clause-complete
returns-clause-complete g c = λ files task known asks.
    let same = same_asked (plain_asked c.in-Ok.asked) task (c.in-Ok.ensures ∙ asks) in
    let line = told _ _ _ _ _ c.tell_ending.result c.tell_ending.ensures in
    complete (g.F.Shelf.files c.args.shelf.now) (g.F.Shelf.faults c.args.shelf.now) (g.F.Shelf.faults c.serve-ending.new.shelf) g.O.Sink.taken g.O.Sink.is_finished g.O.Sink.faults c.args.out.now c.serve-ending.new.out task files known (Told g.E.Sink.taken g.E.Sink.faults c.args.err.now c.tell_ending.new.err) c.status.result c.serve-ending.result (rw same at c.serve-ending.ensures.meets) c.status.ensures (subst (λ (a : Asked). Told g.E.Sink.taken g.E.Sink.faults c.args.err.now c.tell_ending.new.err (ending_line a c.serve-ending.result)) same line)

pub returns-clause-words : goal.returns-clause-words
returns-clause-words g c = (λ one. absurd (not_words c.serve-ending.result (sym c.status.ensures ∙ one)), λ wrong. absurd (false≢true (subst IsErr (sym c.in-Ok.ensures) wrong)))
