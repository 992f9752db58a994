use Rattle.std.proofs.Common.{◌≡◌, List, Ok, Result, sym, subst}
use Rattle.std.specs.Prelude.{MatchResult}
use Rattle.lw_genlib.specs.declared.fault.LibFault.{LibFault}
use Rattle.lw_genlib.specs.declared.reader.Status.{Status}
use Rattle.lw_genlib.specs.Cells.{CellParts}
use Rattle.lw_genlib.specs.Standing.{IsAt}
use Rattle.lw_genlib.specs.Tells.{TellsErr}
use Rattle.lw_genlib.proofs.Standings.{library-read, library-stopped}
use Rattle.lw_genlib.proofs.reader.LibReader.end.Goals as goal

pub returns-in-Stopped-clause-answer : goal.returns-in-Stopped-clause-answer
returns-in-Stopped-clause-answer c = λ lines h.
    library-stopped c.args.self.last c.in-Stopped.fault lines (subst (λ (s : Status). IsAt s c.args.self.last lines) c.in-Stopped.is h.at)

pub returns-in-Reading-clause-answer : goal.returns-in-Reading-clause-answer
returns-in-Reading-clause-answer c = λ lines h.
    subst (λ (r : Result (List CellParts) LibFault). MatchResult c.finish.result (λ (library : List CellParts). r ≡ Ok library) (TellsErr r))
    (sym (library-read c.args.self.last c.in-Reading.state lines (subst (λ (s : Status). IsAt s c.args.self.last lines) c.in-Reading.is h.at)))
    c.finish.ensures
