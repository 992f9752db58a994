use Rattle.std.proofs.Common.{◌≡◌, ◌++◌, ◌∷◌, [], true, false, not, Some, None, Err, ap, sym, ◌∙◌, subst}
use Rattle.lw_words.specs.Lines.{LogicalLine}
use Rattle.lw_blif.specs.declared.fault.BlifFault.{BlifFault}
use Rattle.lw_blif.specs.Commands.{command_of}
use Rattle.lw_blif.specs.LineFaults.{command, first_fault, lines_read, ends}
use Rattle.lw_blif.specs.Standing.{Tells}
use Rattle.lw_blif_text.proofs.StandingFor.{stands-stopped, answer-ended, stands-ended, is-open, answer-end, stands-end, answer-read, stands-read, stands-broken}
use Rattle.lw_blif.proofs.StandingFor.{tells-stopped, some-more}
use Rattle.lw_blif.proofs.reader.Reader.line.Goals as goal

pub returns-in-Some-clause-stands : goal.returns-in-Some-clause-stands
returns-in-Some-clause-stands c = λ lines h. stands-stopped _ _ _ _ c.in-Some.stop lines c.args.line.now c.in-Some.is h

pub returns-in-Some-clause-answer : goal.returns-in-Some-clause-answer
returns-in-Some-clause-answer c = λ lines h.
    subst (λ (f : BlifFault). Tells (Err f) (first_fault [] (lines_read (lines ++ c.args.line.now ∷ [])))) (sym c.fault_of.ensures)
    (tells-stopped _ _ _ c.args.self.now.parts c.in-Some.stop lines c.args.line.now c.in-Some.is h)

pub returns-then-self-clause-stands : goal.returns-then-self-clause-stands
returns-then-self-clause-stands c = λ lines h. stands-ended _ _ _ _ lines c.args.line.now c.in_default.is c.if-self.true h

pub returns-then-self-clause-answer : goal.returns-then-self-clause-answer
returns-then-self-clause-answer c = λ lines h. answer-ended _ _ _ c.args.self.now.parts lines c.args.line.now c.in_default.is c.if-self.true h

pub returns-then-ends-clause-stands : goal.returns-then-ends-clause-stands
returns-then-ends-clause-stands c = λ lines h.
    let asked : c.command_of-asked.result ≡ command c.args.line.now = c.command_of-asked.ensures ∙ ap command_of c.first_word.ensures in
    let e : ends (not c.args.self.now.begun) (command c.args.line.now) ≡ true = ap (ends (not c.args.self.now.begun)) (sym asked) ∙ (sym c.ends.ensures ∙ c.if-ends.true) in
    stands-end _ _ _ lines c.args.line.now (is-open _ _ _ _ lines c.in_default.is c.if-self.false h) c.in_default.is e

pub returns-then-ends-clause-answer : goal.returns-then-ends-clause-answer
returns-then-ends-clause-answer c = λ lines h.
    let asked : c.command_of-asked.result ≡ command c.args.line.now = c.command_of-asked.ensures ∙ ap command_of c.first_word.ensures in
    let e : ends (not c.args.self.now.begun) (command c.args.line.now) ≡ true = ap (ends (not c.args.self.now.begun)) (sym asked) ∙ (sym c.ends.ensures ∙ c.if-ends.true) in
    answer-end _ c.args.self.now.parts lines c.args.line.now (is-open _ _ _ _ lines c.in_default.is c.if-self.false h) e

pub returns-in-Ok-None-clause-stands : goal.returns-in-Ok-None-clause-stands
returns-in-Ok-None-clause-stands c = λ lines h.
    let asked : c.command_of-asked.result ≡ command c.args.line.now = c.command_of-asked.ensures ∙ ap command_of c.first_word.ensures in
    let e : ends (not c.args.self.now.begun) (command c.args.line.now) ≡ false = ap (ends (not c.args.self.now.begun)) (sym asked) ∙ (sym c.ends.ensures ∙ c.if-ends.false) in
    let o = is-open _ _ _ _ lines c.in_default.is c.if-self.false h in
    stands-read _ _ _ _ _ lines c.args.line.now o c.in_default.is c.if-self.false e
    (sym c.in-Ok-None.field-0-is ∙ c.in-Ok-None.ensures.fault lines o.kept)
    (c.in-Ok-None.ensures.keeps lines o.kept c.in-Ok-None.field-0-is)

pub returns-in-Ok-None-clause-answer : goal.returns-in-Ok-None-clause-answer
returns-in-Ok-None-clause-answer c = λ lines h.
    let asked : c.command_of-asked.result ≡ command c.args.line.now = c.command_of-asked.ensures ∙ ap command_of c.first_word.ensures in
    let e : ends (not c.args.self.now.begun) (command c.args.line.now) ≡ false = ap (ends (not c.args.self.now.begun)) (sym asked) ∙ (sym c.ends.ensures ∙ c.if-ends.false) in
    let o = is-open _ _ _ _ lines c.in_default.is c.if-self.false h in
    answer-read _ c.args.self.now.parts lines c.args.line.now None o e (sym c.in-Ok-None.field-0-is ∙ c.in-Ok-None.ensures.fault lines o.kept)

pub returns-in-Ok-Some-clause-stands : goal.returns-in-Ok-Some-clause-stands
returns-in-Ok-Some-clause-stands c = λ lines h.
    let asked : c.command_of-asked.result ≡ command c.args.line.now = c.command_of-asked.ensures ∙ ap command_of c.first_word.ensures in
    let e : ends (not c.args.self.now.begun) (command c.args.line.now) ≡ false = ap (ends (not c.args.self.now.begun)) (sym asked) ∙ (sym c.ends.ensures ∙ c.if-ends.false) in
    let o = is-open _ _ _ _ lines c.in_default.is c.if-self.false h in
    stands-broken _ _ _ _ lines c.args.line.now c.in-Ok-Some.kind c.line.inside.number o (ap (λ (l : LogicalLine). l.number) c.line.view_is) e
    (sym c.in-Ok-Some.field-0-is ∙ c.in-Ok-Some.ensures.fault lines o.kept)

pub returns-in-Ok-Some-clause-answer : goal.returns-in-Ok-Some-clause-answer
returns-in-Ok-Some-clause-answer c = λ lines h.
    let asked : c.command_of-asked.result ≡ command c.args.line.now = c.command_of-asked.ensures ∙ ap command_of c.first_word.ensures in
    let e : ends (not c.args.self.now.begun) (command c.args.line.now) ≡ false = ap (ends (not c.args.self.now.begun)) (sym asked) ∙ (sym c.ends.ensures ∙ c.if-ends.false) in
    let o = is-open _ _ _ _ lines c.in_default.is c.if-self.false h in
    answer-read _ c.args.self.now.parts lines c.args.line.now (Some c.in-Ok-Some.kind) o e (sym c.in-Ok-Some.field-0-is ∙ c.in-Ok-Some.ensures.fault lines o.kept)
    ∙ ap (λ n. Some (record { number = n; kind = c.in-Ok-Some.kind })) (sym (ap (λ (l : LogicalLine). l.number) c.line.view_is))

pub invariant_of-self : goal.invariant_of-self
invariant_of-self c =
    let asked : c.command_of-asked.result ≡ command c.args.line.now = c.command_of-asked.ensures ∙ ap command_of c.first_word.ensures in
    let e : ends (not c.args.self.now.begun) (command c.args.line.now) ≡ true = ap (ends (not c.args.self.now.begun)) (sym asked) ∙ (sym c.ends.ensures ∙ c.if-ends.true) in
    record {
      kept = some-more _ _ _ _ _ _ _ _ c.args.line.now (λ lines h. stands-end _ _ _ lines c.args.line.now (is-open _ _ _ _ lines c.in_default.is c.if-self.false h) c.in_default.is e) c.args.self.now.kept;
    }

pub invariant_of-self-in-Ok-None : goal.invariant_of-self-in-Ok-None
invariant_of-self-in-Ok-None c =
    let asked : c.command_of-asked.result ≡ command c.args.line.now = c.command_of-asked.ensures ∙ ap command_of c.first_word.ensures in
    let e : ends (not c.args.self.now.begun) (command c.args.line.now) ≡ false = ap (ends (not c.args.self.now.begun)) (sym asked) ∙ (sym c.ends.ensures ∙ c.if-ends.false) in
    record {
      kept = some-more _ _ _ _ _ _ _ _ c.args.line.now (λ lines h.
          let o = is-open _ _ _ _ lines c.in_default.is c.if-self.false h in
          stands-read _ _ _ _ _ lines c.args.line.now o c.in_default.is c.if-self.false e
          (sym c.in-Ok-None.field-0-is ∙ c.in-Ok-None.ensures.fault lines o.kept)
          (c.in-Ok-None.ensures.keeps lines o.kept c.in-Ok-None.field-0-is)) c.args.self.now.kept;
    }

pub invariant_of-self-in-Ok-Some : goal.invariant_of-self-in-Ok-Some
invariant_of-self-in-Ok-Some c =
    let asked : c.command_of-asked.result ≡ command c.args.line.now = c.command_of-asked.ensures ∙ ap command_of c.first_word.ensures in
    let e : ends (not c.args.self.now.begun) (command c.args.line.now) ≡ false = ap (ends (not c.args.self.now.begun)) (sym asked) ∙ (sym c.ends.ensures ∙ c.if-ends.false) in
    record {
      kept = some-more _ _ _ _ _ _ _ _ c.args.line.now (λ lines h.
          let o = is-open _ _ _ _ lines c.in_default.is c.if-self.false h in
          stands-broken _ _ _ _ lines c.args.line.now c.in-Ok-Some.kind c.line.inside.number o (ap (λ (l : LogicalLine). l.number) c.line.view_is) e
          (sym c.in-Ok-Some.field-0-is ∙ c.in-Ok-Some.ensures.fault lines o.kept)) c.args.self.now.kept;
    }
