-- What is counted of a network's graph, and of a network that is drawn from a number.
use Rattle.std.specs.Prelude.{ℕ, ◌≡◌, List, [], ◌∷◌, ◌++◌, Option, Some, None, Ok, Err, codes, decimal}
use Rattle.lw_fixed.specs.Printed.{decimal_text}
use Rattle.lw_net.specs.Networks.{NetworkParts}
use Rattle.lw_genlib.specs.Cells.{CellParts}
use Rattle.lw_blif.specs.declared.parsed.Parsed.{Parsed}
use Rattle.lw_map.specs.declared.counting.Counts.{Counts as GraphCounts}
use Rattle.lw_map.specs.declared.counting.Sizes.{Sizes}
use Rattle.lw_map.specs.Options.{Options}
pub use Rattle.lw_map.specs.Counts.{AreCounts, AreSizes, IsGenerated, pair_total, drawing_options, at_once}
use Rattle.lw_top.specs.Steps.{Step}
use Rattle.lw_top.specs.Maps.{LacksGraph, LacksMapping}

-- a word, a number or a time behind it, and a line end
abbrev pub count_line : List ℕ → List ℕ → List ℕ
count_line word number = word ++ (number ++ 10 ∷ [])

-- The graph of a network's forms.

abbrev pub counts_text : GraphCounts → List ℕ
counts_text c =
    count_line (codes "forms ") (decimal c.forms)
    ++ (count_line (codes "classes ") (decimal c.classes) ++ count_line (codes "alternatives ") (decimal c.pairs))

-- the text says the counts of the network's graph
pub record IsCountText (options : Options) (net : NetworkParts) (text : List ℕ) : Type 0 where
  pub counts : GraphCounts
  pub are : AreCounts options net counts
  pub says : text ≡ counts_text counts

-- What is counted, or why there is no graph, whatever the files.
abbrev pub Counts : Options → Parsed → Step (List ℕ)
Counts options model files (Ok text) = IsCountText options model.network text
Counts options model files (Err r) = LacksGraph options model.network r

-- A drawn network.

-- how often stored matches are read, where there are not too many to store
abbrev pub steps_text : Option ℕ → List ℕ
steps_text None = codes "none"
steps_text (Some steps) = decimal steps

abbrev pub sizes_text : Sizes → List ℕ
sizes_text s =
    count_line (codes "nodes ") (decimal s.nodes)
    ++ (count_line (codes "classes ") (decimal s.classes)
    ++ (count_line (codes "gates ") (decimal s.gates)
    ++ (count_line (codes "max ") (decimal_text s.latest.0) ++ count_line (codes "steps ") (steps_text s.steps))))

-- the text says the sizes of the network that is drawn
pub record IsSizeText (seed count : ℕ) (cells : List CellParts) (net : NetworkParts) (text : List ℕ) : Type 0 where
  pub generated : IsGenerated seed count net
  pub sizes : Sizes
  pub are : AreSizes count cells net sizes
  pub says : text ≡ sizes_text sizes

-- What the network of so many nodes that is drawn from the seed comes to, by these cells: the sizes, or why it is not
-- mapped.
abbrev pub Draws : ℕ → ℕ → List CellParts → Step (List ℕ)
Draws seed count cells files (Ok text) = (net : NetworkParts) × IsSizeText seed count cells net text
Draws seed count cells files (Err r) =
    (net : NetworkParts) × IsGenerated seed count net × LacksMapping drawing_options cells net (at_once net.inputs) r
