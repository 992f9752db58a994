-- Areas of gates, one after another.
use Rattle.std.proofs.Common.{ℕ, ◌+◌, ◌≡◌, List, [], ◌∷◌, ◌++◌, take, Some, slice_get, ap, ◌∙◌, arith}
use Rattle.lw_facts.proofs.Lists.{take_get}
use Rattle.lw_genlib.specs.Cells.{CellParts}
use Rattle.lw_netlist.specs.declared.gate.Gate.{Gate}
use Rattle.lw_look.specs.Areas.{area_in, area_of}

area_last : (cells : List CellParts) (gates : List Gate) (gate : Gate) → area_of cells (gates ++ gate ∷ []) ≡ area_of cells gates + area_in (slice_get cells gate.cell.0)
area_last cells [] gate = omega arith
area_last cells (other ∷ gates) gate = let rest = area_last cells gates gate in omega arith

-- one more gate
pub area_more : (cells : List CellParts) (gates : List Gate) (j : ℕ) (gate : Gate) → slice_get gates j ≡ Some gate → area_of cells (take (j + 1) gates) ≡ area_of cells (take j gates) + area_in (slice_get cells gate.cell.0)
area_more cells gates j gate at = ap (area_of cells) (take_get gates j gate at) ∙ area_last cells (take j gates) gate
