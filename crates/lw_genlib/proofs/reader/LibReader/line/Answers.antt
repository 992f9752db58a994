use Rattle.std.proofs.Common.{◌++◌, [], ◌∷◌, sym, ap, subst}
use Rattle.lw_words.specs.Lines.{LogicalLine}
use Rattle.lw_genlib.specs.declared.reader.Status.{Status}
use Rattle.lw_genlib.specs.Standing.{IsAt}
use Rattle.lw_genlib.proofs.Standings.{stands-read, stands-broken, stands-stopped, answer-read, answer-stopped}
use Rattle.lw_genlib.proofs.reader.LibReader.line.Goals as goal

pub returns-in-Stopped-clause-stands : goal.returns-in-Stopped-clause-stands
returns-in-Stopped-clause-stands c = λ lines h. record {
  at = subst (λ (s : Status). IsAt s c.args.self.now.last (lines ++ c.args.line.now ∷ [])) (sym c.put.ensures)
      (stands-stopped c.args.self.now.last c.in-Stopped.fault lines c.args.line.now
      (subst (λ (s : Status). IsAt s c.args.self.now.last lines) (sym c.in-Stopped.ensures.value) h.at));
}

pub returns-in-Stopped-clause-answer : goal.returns-in-Stopped-clause-answer
returns-in-Stopped-clause-answer c = λ lines h.
    answer-stopped c.args.self.now.last c.in-Stopped.fault (lines ++ c.args.line.now ∷ [])
    (stands-stopped c.args.self.now.last c.in-Stopped.fault lines c.args.line.now
    (subst (λ (s : Status). IsAt s c.args.self.now.last lines) (sym c.in-Stopped.ensures.value) h.at))

pub returns-in-Ok-clause-stands : goal.returns-in-Ok-clause-stands
returns-in-Ok-clause-stands c = λ lines h. record {
  at = subst (λ (s : Status). IsAt s c.line.inside.number (lines ++ c.args.line.now ∷ [])) (sym c.put-in-Ok.ensures)
      (stands-read c.args.self.now.last c.line.inside.number c.in-Reading.state c.in-Ok.state lines c.args.line.now
      (subst (λ (s : Status). IsAt s c.args.self.now.last lines) (sym c.in-Reading.ensures.value) h.at)
      (ap (λ (l : LogicalLine). l.number) c.line.view_is) c.in-Ok.ensures);
}

pub returns-in-Ok-clause-answer : goal.returns-in-Ok-clause-answer
returns-in-Ok-clause-answer c = λ lines h.
    answer-read c.line.inside.number c.in-Ok.state (lines ++ c.args.line.now ∷ [])
    (stands-read c.args.self.now.last c.line.inside.number c.in-Reading.state c.in-Ok.state lines c.args.line.now
    (subst (λ (s : Status). IsAt s c.args.self.now.last lines) (sym c.in-Reading.ensures.value) h.at)
    (ap (λ (l : LogicalLine). l.number) c.line.view_is) c.in-Ok.ensures)

pub returns-in-Err-clause-stands : goal.returns-in-Err-clause-stands
returns-in-Err-clause-stands c = λ lines h. record {
  at = subst (λ (s : Status). IsAt s c.line.inside.number (lines ++ c.args.line.now ∷ [])) (sym c.put-in-Err.ensures)
      (stands-broken c.args.self.now.last c.line.inside.number c.in-Reading.state c.in-Err.fault lines c.args.line.now
      (subst (λ (s : Status). IsAt s c.args.self.now.last lines) (sym c.in-Reading.ensures.value) h.at)
      c.in-Err.ensures);
}

pub returns-in-Err-clause-answer : goal.returns-in-Err-clause-answer
returns-in-Err-clause-answer c = λ lines h.
    answer-stopped c.line.inside.number c.in-Err.fault (lines ++ c.args.line.now ∷ [])
    (stands-broken c.args.self.now.last c.line.inside.number c.in-Reading.state c.in-Err.fault lines c.args.line.now
    (subst (λ (s : Status). IsAt s c.args.self.now.last lines) (sym c.in-Reading.ensures.value) h.at)
    c.in-Err.ensures)
