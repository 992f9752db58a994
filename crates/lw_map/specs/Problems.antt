-- What is mapped.
use Rattle.std.specs.Prelude.{All, ◌≡◌, List}
use Rattle.std.specs.List.{IsDistinct}
use Rattle.std.specs.Str.{bytes_eq}
use Rattle.lw_fixed.specs.declared.micro.Micro.{Micro}
use Rattle.lw_net.specs.Networks.{NetworkParts, IsNetwork, output_names}
use Rattle.lw_genlib.specs.Cells.{CellParts, IsLibrary, IsSmall}
use Rattle.lw_pattern.specs.Libraries.{library_patterns}
use Rattle.lw_cost.specs.Least.{AreOfCells}
use Rattle.lw_choices.specs.Areas.{area_cost}
use Rattle.lw_map.specs.declared.choices.Choices.{Choices}
use Rattle.lw_map.specs.declared.problem.Problem.{Problem}
use Rattle.lw_map.specs.Choices.{AreChoicesOf}

-- A network with what listed its choices, the cells that they are covered by with their patterns, and starts that are
-- no later than inputs may start.
pub record IsProblem (p : Problem) : Type 0 where
  pub library : IsLibrary p.lib.now
  pub network : IsNetwork p.net.now
  pub chosen : AreChoicesOf p.net.now p.choices.now
  pub outputs : IsDistinct bytes_eq (output_names p.net.now)
  pub early : All IsSmall p.starts.now
  pub patterns : p.pats ≡ library_patterns p.lib.now
  pub of_cells : AreOfCells (area_cost p.lib.now).pin_counts p.pats

-- the problem of these cells, this network with these starts, and these choices
pub record IsProblemOf (cells : List CellParts) (net : NetworkParts) (starts : List Micro) (c : Choices)
    (p : Problem) : Type 0 where
  pub lib : p.lib.now ≡ cells
  pub network : p.net.now ≡ net
  pub starts_are : p.starts.now ≡ starts
  pub choices : p.choices.now ≡ c
  pub is : IsProblem p
