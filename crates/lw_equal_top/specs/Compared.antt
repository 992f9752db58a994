-- What a comparison of sources comes to.
use Rattle.std.specs.Prelude.{◌≡◌, ℕ, ⊤, List, [], ◌∷◌, Option, Some, Result, Ok, Err}
use Rattle.lw_genlib.specs.Cells.{CellParts}
use Rattle.lw_equal.specs.declared.answer.Answer.{Answer}
use Rattle.lw_equal.specs.declared.answer.Outcome.{Outcome}
use Rattle.lw_equal.specs.declared.answer.PortFault.{PortFault}
use Rattle.lw_equal.specs.declared.side.Side.{Side}
use Rattle.lw_equal.specs.Answers.{IsAnswer}
use Rattle.lw_equal.specs.Ports.{first_port_fault}
use Rattle.lw_equal_top.specs.declared.source.Source.{Source}
use Rattle.lw_equal_top.specs.declared.fault.Refusal.{Refusal}
use Rattle.lw_equal_top.specs.declared.fault.Refusal.TheVariants.{Library, File, Ports, Memory}
use Rattle.lw_equal_top.specs.Sources.{AreSides}

-- The first two of the sources as sides, and the others.
pub record Sides (cells : List CellParts) (sources : List Source) : Type 0 where
  pub one : Side
  pub other : Side
  pub more : List Side
  pub are : AreSides cells sources (one ∷ other ∷ more)

-- The answer is right for the first two sources.
pub record IsAnswerFor (cells : List CellParts) (sources : List Source) (answer : Answer) : Type 0 where
  pub sides : Sides cells sources
  pub right : IsAnswer sides.one sides.other answer

-- The fault is the first port that one of the sources lacks.
pub record HasPortFault (cells : List CellParts) (sources : List Source) (fault : PortFault) : Type 0 where
  pub sides : Sides cells sources
  pub first : first_port_fault sides.one sides.other sides.more ≡ Some fault

-- The answer is right, or a port is lacking, or memory ran out.
abbrev pub ComesTo : List CellParts → List Source → Result Outcome Refusal → Type 0
ComesTo cells sources (Ok outcome) = IsAnswerFor cells sources outcome.answer
ComesTo cells sources (Err (Ports fault)) = HasPortFault cells sources fault
ComesTo cells sources (Err Memory) = ⊤
ComesTo cells sources (Err other) = ⊥
