use Rattle.std.proofs.Common.{sym, ◌∙◌, map, string_bytes}
use Rattle.lw_io.specs.Files.{bytes_of}
use Rattle.lw_top.specs.Words.{command_of}
use Rattle.lw_top.specs.Answers.{IsAnswer}
use Rattle.lw_top.specs.Telling.{Told}
use Rattle.lw_top.proofs.InRange.{asked_in_range}
use Rattle.lw_top.proofs.Whole.{unread, done, cut, complete}
use Rattle.lw_top.proofs.Headline.{done-maps, done-tables, done-trades, named-lacks, named-untraded}
use Rattle.lw_top.proofs.Checked.{done_checked}
use Rattle.lw_top.proofs.Translated.{answer_said, answer_back, named_unsaid}
use Rattle.lw_top.proofs.Reached.{blamed}
use Rattle.lw_top.proofs.Prefix.{told}
use Rattle.lw_top.proofs.top.run.Goals as goal

pub serve-outcome-requires : goal.serve-outcome-requires
serve-outcome-requires g c = asked_in_range _ (map string_bytes c.args.words.now.items) (rw c.deref.ensures.value at c.command_of-command.ensures)

pub returns-clause-unread : goal.returns-clause-unread
returns-clause-unread g c = λ is.
    let asks = rw c.deref.ensures.value at c.command_of-command.ensures in
    unread (g.F.Shelf.files c.args.shelf.now) (g.F.Shelf.faults c.args.shelf.now) (g.F.Shelf.faults c.serve-outcome.new.shelf) g.O.Sink.taken g.O.Sink.is_finished g.O.Sink.faults c.args.out.now c.serve-outcome.new.out (IsAnswer (map string_bytes c.args.words.now.items)) c.serve-outcome.result (rw asks at c.serve-outcome.ensures.serves.meets) (sym c.status.ensures ∙ is)

pub returns-clause-done : goal.returns-clause-done
returns-clause-done g c = λ is.
    let asks = rw c.deref.ensures.value at c.command_of-command.ensures in
    done (g.F.Shelf.files c.args.shelf.now) (g.F.Shelf.faults c.args.shelf.now) (g.F.Shelf.faults c.serve-outcome.new.shelf) g.O.Sink.taken g.O.Sink.is_finished g.O.Sink.faults c.args.out.now c.serve-outcome.new.out (IsAnswer (map string_bytes c.args.words.now.items)) c.serve-outcome.result (rw asks at c.serve-outcome.ensures.serves.meets) (sym c.status.ensures ∙ is)

pub returns-clause-cut_short : goal.returns-clause-cut_short
returns-clause-cut_short g c = λ is.
    let asks = rw c.deref.ensures.value at c.command_of-command.ensures in
    cut (g.F.Shelf.files c.args.shelf.now) (g.F.Shelf.faults c.args.shelf.now) (g.F.Shelf.faults c.serve-outcome.new.shelf) g.O.Sink.taken g.O.Sink.is_finished g.O.Sink.faults c.args.out.now c.serve-outcome.new.out (IsAnswer (map string_bytes c.args.words.now.items)) c.serve-outcome.result (rw asks at c.serve-outcome.ensures.serves.meets) (sym c.status.ensures ∙ is)

pub returns-clause-complete : goal.returns-clause-complete
returns-clause-complete g c = λ files is.
    let asks = rw c.deref.ensures.value at c.command_of-command.ensures in
    let said = told _ _ _ _ _ c.tell.result c.tell.ensures in
    complete (g.F.Shelf.files c.args.shelf.now) (g.F.Shelf.faults c.args.shelf.now) (g.F.Shelf.faults c.serve-outcome.new.shelf) g.O.Sink.taken g.O.Sink.is_finished g.O.Sink.faults c.args.out.now c.serve-outcome.new.out (IsAnswer (map string_bytes c.args.words.now.items)) (command_of (map string_bytes c.args.words.now.items)) (Told g.E.Sink.taken g.E.Sink.faults c.args.err.now c.tell.new.err) c.status.result files c.serve-outcome.result (rw asks at c.serve-outcome.ensures.serves.meets) c.status.ensures is (simp asks at said)

pub returns-clause-mapping : goal.returns-clause-mapping
returns-clause-mapping g c = λ files is asks_for zero.
    let asks = rw c.deref.ensures.value at c.command_of-command.ensures in
    done-maps (map string_bytes c.args.words.now.items) (g.F.Shelf.files c.args.shelf.now) (g.F.Shelf.faults c.args.shelf.now) (g.F.Shelf.faults c.serve-outcome.new.shelf) g.O.Sink.taken g.O.Sink.is_finished g.O.Sink.faults c.args.out.now c.serve-outcome.new.out (Told g.E.Sink.taken g.E.Sink.faults c.args.err.now c.tell.new.err) asks_for c.serve-outcome.result (rw asks at c.serve-outcome.ensures.serves.meets) files is (sym zero ∙ c.status.ensures)

pub returns-clause-tables : goal.returns-clause-tables
returns-clause-tables g c = λ files is asks_for zero.
    let asks = rw c.deref.ensures.value at c.command_of-command.ensures in
    done-tables (map string_bytes c.args.words.now.items) (g.F.Shelf.files c.args.shelf.now) (g.F.Shelf.faults c.args.shelf.now) (g.F.Shelf.faults c.serve-outcome.new.shelf) g.O.Sink.taken g.O.Sink.is_finished g.O.Sink.faults c.args.out.now c.serve-outcome.new.out (Told g.E.Sink.taken g.E.Sink.faults c.args.err.now c.tell.new.err) asks_for (c.answers_are_tables.ensures (map string_bytes c.args.words.now.items)) c.serve-outcome.result (rw asks at c.serve-outcome.ensures.serves.meets) files is (sym zero ∙ c.status.ensures)

pub returns-clause-no_cover : goal.returns-clause-no_cover
returns-clause-no_cover g c = λ files is asks_for six.
    let asks = rw c.deref.ensures.value at c.command_of-command.ensures in
    let said = told _ _ _ _ _ c.tell.result c.tell.ensures in
    named-lacks (map string_bytes c.args.words.now.items) (g.F.Shelf.files c.args.shelf.now) (g.F.Shelf.faults c.args.shelf.now) (g.F.Shelf.faults c.serve-outcome.new.shelf) g.O.Sink.taken g.O.Sink.is_finished g.O.Sink.faults c.args.out.now c.serve-outcome.new.out (Told g.E.Sink.taken g.E.Sink.faults c.args.err.now c.tell.new.err) asks_for c.serve-outcome.result (rw asks at c.serve-outcome.ensures.serves.meets) (simp asks at said) files is (sym six ∙ c.status.ensures)

pub returns-clause-blamed : goal.returns-clause-blamed
returns-clause-blamed g c = λ two.
    let asks = rw c.deref.ensures.value at c.command_of-command.ensures in
    let said = told _ _ _ _ _ c.tell.result c.tell.ensures in
    let words = rw asks at c.serve-outcome.ensures.words in
    blamed (g.F.Shelf.files c.args.shelf.now) (Told g.E.Sink.taken g.E.Sink.faults c.args.err.now c.tell.new.err) c.serve-outcome.result (command_of (map string_bytes c.args.words.now.items)) (sym c.status.ensures ∙ two) words.1 (rw asks at c.serve-outcome.ensures.serves.reached) (simp asks at said)

pub returns-clause-told : goal.returns-clause-told
returns-clause-told g c =
    let asks = rw c.deref.ensures.value at c.command_of-command.ensures in
    let said = told _ _ _ _ _ c.tell.result c.tell.ensures in
    (c.serve-outcome.result, c.status.ensures, rw asks at c.serve-outcome.ensures.serves.meets, simp asks at said)

pub returns-clause-checked : goal.returns-clause-checked
returns-clause-checked g c = λ files is asks_for zero.
    let asks = rw c.deref.ensures.value at c.command_of-command.ensures in
    done_checked (map string_bytes c.args.words.now.items) (g.F.Shelf.files c.args.shelf.now) (g.F.Shelf.faults c.args.shelf.now) (g.F.Shelf.faults c.serve-outcome.new.shelf) g.O.Sink.taken g.O.Sink.is_finished g.O.Sink.faults c.args.out.now c.serve-outcome.new.out asks_for c.serve-outcome.result (rw asks at c.serve-outcome.ensures.serves.meets) files is (sym zero ∙ c.status.ensures)

pub returns-clause-trading : goal.returns-clause-trading
returns-clause-trading g c = λ files is asks_for zero.
    let asks = rw c.deref.ensures.value at c.command_of-command.ensures in
    done-trades (map string_bytes c.args.words.now.items) (g.F.Shelf.files c.args.shelf.now) (g.F.Shelf.faults c.args.shelf.now) (g.F.Shelf.faults c.serve-outcome.new.shelf) g.O.Sink.taken g.O.Sink.is_finished g.O.Sink.faults c.args.out.now c.serve-outcome.new.out (Told g.E.Sink.taken g.E.Sink.faults c.args.err.now c.tell.new.err) asks_for c.serve-outcome.result (rw asks at c.serve-outcome.ensures.serves.meets) files is (sym zero ∙ c.status.ensures)

pub returns-clause-no_trade : goal.returns-clause-no_trade
returns-clause-no_trade g c = λ files is asks_for six.
    let asks = rw c.deref.ensures.value at c.command_of-command.ensures in
    let said = told _ _ _ _ _ c.tell.result c.tell.ensures in
    named-untraded (map string_bytes c.args.words.now.items) (g.F.Shelf.files c.args.shelf.now) (g.F.Shelf.faults c.args.shelf.now) (g.F.Shelf.faults c.serve-outcome.new.shelf) g.O.Sink.taken g.O.Sink.is_finished g.O.Sink.faults c.args.out.now c.serve-outcome.new.out (Told g.E.Sink.taken g.E.Sink.faults c.args.err.now c.tell.new.err) asks_for c.serve-outcome.result (rw asks at c.serve-outcome.ensures.serves.meets) (simp asks at said) files is (sym six ∙ c.status.ensures)

pub returns-clause-verilog : goal.returns-clause-verilog
returns-clause-verilog g c = λ files is asks_for zero.
    let asks = rw c.deref.ensures.value at c.command_of-command.ensures in
    let (text, known, out) = done (g.F.Shelf.files c.args.shelf.now) (g.F.Shelf.faults c.args.shelf.now) (g.F.Shelf.faults c.serve-outcome.new.shelf) g.O.Sink.taken g.O.Sink.is_finished g.O.Sink.faults c.args.out.now c.serve-outcome.new.out (IsAnswer (map string_bytes c.args.words.now.items)) c.serve-outcome.result (rw asks at c.serve-outcome.ensures.serves.meets) (sym c.status.ensures ∙ zero) in
    (text, answer_said (map string_bytes c.args.words.now.items) (bytes_of files) asks_for text (known files is), out)

pub returns-clause-no_verilog : goal.returns-clause-no_verilog
returns-clause-no_verilog g c = λ files is asks_for eleven.
    let asks = rw c.deref.ensures.value at c.command_of-command.ensures in
    let said = told _ _ _ _ _ c.tell.result c.tell.ensures in
    named_unsaid (map string_bytes c.args.words.now.items) (g.F.Shelf.files c.args.shelf.now) (g.F.Shelf.faults c.args.shelf.now) (g.F.Shelf.faults c.serve-outcome.new.shelf) g.O.Sink.taken g.O.Sink.is_finished g.O.Sink.faults c.args.out.now c.serve-outcome.new.out (Told g.E.Sink.taken g.E.Sink.faults c.args.err.now c.tell.new.err) asks_for c.serve-outcome.result (rw asks at c.serve-outcome.ensures.serves.meets) (simp asks at said) files is (sym eleven ∙ c.status.ensures)

pub returns-clause-unverilog : goal.returns-clause-unverilog
returns-clause-unverilog g c = λ files is asks_for zero.
    let asks = rw c.deref.ensures.value at c.command_of-command.ensures in
    let (text, known, out) = done (g.F.Shelf.files c.args.shelf.now) (g.F.Shelf.faults c.args.shelf.now) (g.F.Shelf.faults c.serve-outcome.new.shelf) g.O.Sink.taken g.O.Sink.is_finished g.O.Sink.faults c.args.out.now c.serve-outcome.new.out (IsAnswer (map string_bytes c.args.words.now.items)) c.serve-outcome.result (rw asks at c.serve-outcome.ensures.serves.meets) (sym c.status.ensures ∙ zero) in
    (text, answer_back (map string_bytes c.args.words.now.items) (bytes_of files) asks_for text (known files is), out)
