-- How the critical path goes on from its end to its start.
use Rattle.std.specs.Prelude.{ℕ, ◌≡◌, ◌<◌, ◌^◌, List, [], ◌∷◌, ◌++◌, Option, Some, None, All, length, map}
use Rattle.lw_fixed.specs.declared.micro.Micro.{Micro}
use Rattle.lw_pool.specs.declared.id.NetId.{NetId}
use Rattle.lw_laws.specs.Covers.{latest}
use Rattle.lw_genlib.specs.Cells.{CellParts, IsListed}
use Rattle.lw_genlib.specs.Tables.{millionths, cell_delays}
use Rattle.lw_netlist.specs.Netlists.{NetlistParts}
use Rattle.lw_report.specs.declared.path.Link.{Link}
use Rattle.lw_report.specs.declared.step.Step.{Step}
use Rattle.lw_report.specs.Timings.{pin_arrivals, IsPathTo}

-- a cell of a library whose pins are at these nets, and which arrives then
pub record IsTimedCell (cell : CellParts) (pins : List NetId) (times : List Micro) (arrival : ℕ) : Type 0 where
  pub listed : IsListed cell
  pub one_each : length pins ≡ length cell.pins
  pub known : All (λ (net : NetId). net.0 < length times) pins
  pub low : All (λ time. time.0 < 2 ^ 63) times
  pub arrives : arrival ≡ latest (cell_delays cell) (pin_arrivals (map millionths times) pins)

-- the path to the net, behind each path to the net before it
abbrev pub LeadsTo : List CellParts → NetlistParts → List ℕ → ℕ → List Step → ℕ → Type 0
LeadsTo cells n arrivals from steps to =
    (before : List Step) → IsPathTo cells n arrivals from before → IsPathTo cells n arrivals to (before ++ steps)

abbrev pub IsLinkFrom : List CellParts → NetlistParts → List ℕ → ℕ → Step → Option NetId → Type 0
IsLinkFrom cells n arrivals net step None = IsPathTo cells n arrivals net (step ∷ [])
IsLinkFrom cells n arrivals net step (Some from) = (from.0 < net) × LeadsTo cells n arrivals from.0 (step ∷ []) net

-- The last step of the critical path to a net, and the net before it, if there is one.
abbrev pub IsLinkTo : List CellParts → NetlistParts → List ℕ → ℕ → Link → Type 0
IsLinkTo cells n arrivals net link = IsLinkFrom cells n arrivals net link.step link.from
