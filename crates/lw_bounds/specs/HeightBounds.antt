-- Heights of classes as costs, and tables of bounds on them.
use Rattle.std.specs.Prelude.{ℕ, ◌≡◌, List, map, Option, Some, None, option_map, slice_index}
use Rattle.lw_laws.specs.Graphs.{Graph}
use Rattle.lw_laws.specs.Covers.{Pattern}
use Rattle.lw_bounds.specs.declared.heights.HeightBounds.{HeightBounds}
use Rattle.lw_cost.specs.declared.mark.Mark.{Mark}
use Rattle.lw_bounds.specs.Shapes.{gaps_of}
use Rattle.lw_bounds.specs.Bounds.{BoundsFit, AreBounds, bounds_reading}
use Rattle.lw_bounds.specs.declared.cuts.Cuts.{Cuts}
use Rattle.lw_bounds.specs.Places.{AreRootsListed}
use Rattle.lw_bounds.specs.Cuts.{CutsState, cuts_state}

-- the height of a mark as a cost
abbrev pub height_mark : Mark → Mark
height_mark k = record { cost = k.height; height = 0 }

abbrev pub heights_of : List (Option Mark) → List (Option Mark)
heights_of marks = map (λ k. option_map height_mark k) marks

-- no pin of a pattern has a gap
abbrev pub AreFlat : List (List ℕ) → Type 0
AreFlat gaps = (i k : ℕ) → slice_index (gaps_of gaps i) k ≡ 0

-- the table is of these patterns and this graph, and it is one of bounds on the heights of these marks
pub record AreHeightBounds (h : HeightBounds) (pats : List Pattern) (g : Graph)
    (marks : List (Option Mark)) : Type 0 where
  pub heights : h.marks.now ≡ heights_of marks
  pub fit : BoundsFit h.bounds.now pats g
  pub gaps : AreFlat h.bounds.now.gaps
  pub bounds : AreBounds h.bounds.now g h.marks.now

-- the cuts with the sides and the numbers of a table of heights, where there is one
abbrev pub cuts_with : CutsState → Graph → Option HeightBounds → CutsState
cuts_with cuts g None = cuts
cuts_with cuts g (Some h) =
    record {
      sides = cuts.sides;
      roots = cuts.roots;
      width = cuts.width;
      starts = cuts.starts;
      numbers = cuts.numbers;
      gaps = cuts.gaps;
      height_sides = h.bounds.now.sides;
      heights = bounds_reading h.bounds.now g h.marks.now;
    }

-- they are these, and the lists of the roots are as they were
pub record AreWithHeights (cuts : Cuts) (g : Graph) (heights : Option HeightBounds) (new : Cuts) : Type 0 where
  pub state : cuts_state new ≡ cuts_with (cuts_state cuts) g heights
  pub roots : AreRootsListed cuts.roots.now cuts.leaf_roots.now cuts.row_roots.now cuts.other_roots.now
      → AreRootsListed new.roots.now new.leaf_roots.now new.row_roots.now new.other_roots.now
