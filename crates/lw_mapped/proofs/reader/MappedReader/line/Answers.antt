use Rattle.std.proofs.Common.{◌≡◌, ◌++◌, ◌∷◌, [], true, false, not, None, Err, ap, sym, ◌∙◌, subst}
use Rattle.lw_words.specs.Lines.{LogicalLine}
use Rattle.lw_mapped.specs.declared.fault.MappedFault.{MappedFault}
use Rattle.lw_mapped.specs.Commands.{command_of}
use Rattle.lw_mapped.specs.LineFaults.{command, first_fault, lines_read, ends}
use Rattle.lw_mapped.specs.Standing.{Tells}
use Rattle.lw_words.proofs.Shared.{first_word-get}
use Rattle.lw_blif_text.proofs.StandingFor.{stands-stopped, answer-ended, stands-ended, is-open, answer-end, stands-end, answer-read, stands-read}
use Rattle.lw_mapped.proofs.StandingFor.{tells-stopped, stands-refused, answer-refused}
use Rattle.lw_mapped.proofs.reader.MappedReader.line.Goals as goal
use Rattle.lw_words.specs.Words.{first_word}

pub returns-in-Some-clause-stands : goal.returns-in-Some-clause-stands
returns-in-Some-clause-stands c = λ lines h. stands-stopped _ _ _ _ c.in-Some.stop lines c.args.line.now c.in-Some.is h

pub returns-in-Some-clause-answer : goal.returns-in-Some-clause-answer
returns-in-Some-clause-answer c = λ lines h.
    subst (λ (f : MappedFault). Tells (Err f) (first_fault c.args.lib.now [] (lines_read (lines ++ c.args.line.now ∷ [])))) (sym c.fault_of.ensures)
    (tells-stopped c.args.lib.now _ _ _ c.args.self.now.parts c.in-Some.stop lines c.args.line.now c.in-Some.is h)

pub returns-then-self-clause-stands : goal.returns-then-self-clause-stands
returns-then-self-clause-stands c = λ lines h. stands-ended _ _ _ _ lines c.args.line.now c.in_default.is c.if-self.true h

pub returns-then-self-clause-answer : goal.returns-then-self-clause-answer
returns-then-self-clause-answer c = λ lines h. answer-ended _ _ _ c.args.self.now.parts lines c.args.line.now c.in_default.is c.if-self.true h

pub returns-then-ends-clause-stands : goal.returns-then-ends-clause-stands
returns-then-ends-clause-stands c = λ lines h.
    let cells = c.args.lib.now in
    let asked : c.command_of-asked.result ≡ command c.args.line.now = c.command_of-asked.ensures ∙ ap command_of (first_word-get _ _ c.get.ensures.word ∙ ap (λ (l : LogicalLine). first_word l.words) c.line.view_is) in
    let e : ends (not c.args.self.now.begun) (command c.args.line.now) ≡ true = ap (ends (not c.args.self.now.begun)) (sym asked) ∙ (sym c.ends.ensures ∙ c.if-ends.true) in
    stands-end _ _ _ lines c.args.line.now (is-open _ _ _ _ lines c.in_default.is c.if-self.false h) c.in_default.is e

pub returns-then-ends-clause-answer : goal.returns-then-ends-clause-answer
returns-then-ends-clause-answer c = λ lines h.
    let cells = c.args.lib.now in
    let asked : c.command_of-asked.result ≡ command c.args.line.now = c.command_of-asked.ensures ∙ ap command_of (first_word-get _ _ c.get.ensures.word ∙ ap (λ (l : LogicalLine). first_word l.words) c.line.view_is) in
    let e : ends (not c.args.self.now.begun) (command c.args.line.now) ≡ true = ap (ends (not c.args.self.now.begun)) (sym asked) ∙ (sym c.ends.ensures ∙ c.if-ends.true) in
    answer-end _ c.args.self.now.parts lines c.args.line.now (is-open _ _ _ _ lines c.in_default.is c.if-self.false h) e

pub read-requires : goal.read-requires
read-requires c =
    let asked : c.command_of-asked.result ≡ command c.args.line.now = c.command_of-asked.ensures ∙ ap command_of (first_word-get _ _ c.get.ensures.word ∙ ap (λ (l : LogicalLine). first_word l.words) c.line.view_is) in
    asked

pub returns-in-Ok-clause-stands : goal.returns-in-Ok-clause-stands
returns-in-Ok-clause-stands c = λ lines h.
    let cells = c.args.lib.now in
    let asked : c.command_of-asked.result ≡ command c.args.line.now = c.command_of-asked.ensures ∙ ap command_of (first_word-get _ _ c.get.ensures.word ∙ ap (λ (l : LogicalLine). first_word l.words) c.line.view_is) in
    let e : ends (not c.args.self.now.begun) (command c.args.line.now) ≡ false = ap (ends (not c.args.self.now.begun)) (sym asked) ∙ (sym c.ends.ensures ∙ c.if-ends.false) in
    let o = is-open _ _ _ _ lines c.in_default.is c.if-self.false h in
    stands-read _ _ _ _ _ lines c.args.line.now o c.in_default.is c.if-self.false e (sym (c.in-Ok.ensures.fault lines o.kept)) (c.in-Ok.ensures.keeps lines o.kept)

pub returns-in-Ok-clause-answer : goal.returns-in-Ok-clause-answer
returns-in-Ok-clause-answer c = λ lines h.
    let cells = c.args.lib.now in
    let asked : c.command_of-asked.result ≡ command c.args.line.now = c.command_of-asked.ensures ∙ ap command_of (first_word-get _ _ c.get.ensures.word ∙ ap (λ (l : LogicalLine). first_word l.words) c.line.view_is) in
    let e : ends (not c.args.self.now.begun) (command c.args.line.now) ≡ false = ap (ends (not c.args.self.now.begun)) (sym asked) ∙ (sym c.ends.ensures ∙ c.if-ends.false) in
    let o = is-open _ _ _ _ lines c.in_default.is c.if-self.false h in
    answer-read _ c.args.self.now.parts lines c.args.line.now None o e (sym (c.in-Ok.ensures.fault lines o.kept))

pub returns-in-Err-clause-stands : goal.returns-in-Err-clause-stands
returns-in-Err-clause-stands c = λ lines h.
    let cells = c.args.lib.now in
    let asked : c.command_of-asked.result ≡ command c.args.line.now = c.command_of-asked.ensures ∙ ap command_of (first_word-get _ _ c.get.ensures.word ∙ ap (λ (l : LogicalLine). first_word l.words) c.line.view_is) in
    let e : ends (not c.args.self.now.begun) (command c.args.line.now) ≡ false = ap (ends (not c.args.self.now.begun)) (sym asked) ∙ (sym c.ends.ensures ∙ c.if-ends.false) in
    let o = is-open _ _ _ _ lines c.in_default.is c.if-self.false h in
    stands-refused cells _ _ c.args.self.now.parts _ lines c.args.line.now c.in-Err.refusal _ _ c.stop_at-stop.ensures (ap (λ (l : LogicalLine). l.number) c.line.view_is) e o (c.in-Err.ensures.fault lines o.kept)

pub returns-in-Err-clause-answer : goal.returns-in-Err-clause-answer
returns-in-Err-clause-answer c = λ lines h.
    let cells = c.args.lib.now in
    let asked : c.command_of-asked.result ≡ command c.args.line.now = c.command_of-asked.ensures ∙ ap command_of (first_word-get _ _ c.get.ensures.word ∙ ap (λ (l : LogicalLine). first_word l.words) c.line.view_is) in
    let e : ends (not c.args.self.now.begun) (command c.args.line.now) ≡ false = ap (ends (not c.args.self.now.begun)) (sym asked) ∙ (sym c.ends.ensures ∙ c.if-ends.false) in
    let o = is-open _ _ _ _ lines c.in_default.is c.if-self.false h in
    subst (λ (f : MappedFault). Tells (Err f) (first_fault cells [] (lines_read (lines ++ c.args.line.now ∷ [])))) (sym c.fault_of-in-Err.ensures)
    (answer-refused cells _ c.args.self.now.parts lines c.args.line.now c.in-Err.refusal _ _ c.stop_at-stop.ensures (ap (λ (l : LogicalLine). l.number) c.line.view_is) e o (c.in-Err.ensures.fault lines o.kept))
