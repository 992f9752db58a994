-- What covers are sought for, and the least area of those that arrive by a time.
use Rattle.std.specs.Prelude.{ℕ, ◌≤◌, ◌≡◌, List, [], Option, Some, None}
use Rattle.lw_fixed.specs.declared.micro.Micro.{Micro}
use Rattle.lw_laws.specs.Graphs.{Graph, Unfolds}
use Rattle.lw_laws.specs.Covers.{Timing, Pattern, Cover, IsCover, tree_of, time_of}
use Rattle.lw_laws.specs.Costs.{cost_of}
use Rattle.lw_genlib.specs.Cells.{CellParts}
use Rattle.lw_genlib.specs.Tables.{timing_of}
use Rattle.lw_choices.specs.Areas.{area_cost}

-- what covers are sought for: a graph, the patterns and the cells of a library, and when the inputs start
pub record Task : Type 0 where
  pub graph : Graph
  pub patterns : List Pattern
  pub cells : List CellParts
  pub starts : List Micro

abbrev pub task : Graph → List Pattern → List CellParts → List Micro → Task
task g pats cells starts = record { graph = g; patterns = pats; cells = cells; starts = starts }

abbrev pub timing : Task → Timing
timing s = timing_of s.cells s.starts

-- the cover is one by the library of a tree of the class, and arrives by the time
pub record IsCoverBy (s : Task) (c time : ℕ) (k : Cover) : Type 0 where
  pub is_cover : IsCover (area_cost s.cells).pin_counts s.patterns k
  pub unfolds : Unfolds s.graph (tree_of k) c
  pub in_time : time_of (timing s) k ≤ time

abbrev pub area_of : Task → Cover → ℕ
area_of s k = cost_of (area_cost s.cells) k

-- the least area of the covers of the class that arrive by the time, and none where there is no such cover
abbrev pub IsLeastAreaBy : Task → ℕ → ℕ → Option ℕ → Type 0
IsLeastAreaBy s c time (Some area) =
    ((k : Cover) × IsCoverBy s c time k × (area_of s k ≡ area))
    × ((k : Cover) → IsCoverBy s c time k → area ≤ area_of s k)
IsLeastAreaBy s c time None = (k : Cover) → IsCoverBy s c time k → ⊥
