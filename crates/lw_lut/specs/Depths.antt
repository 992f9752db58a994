-- The least depths of the classes of a graph, with a table for each class that has one.
use Rattle.std.specs.Prelude.{ℕ, suc, ◌/◌, ◌≤◌, ◌≡◌, List, length, Option, Some, slice_get}
use Rattle.lw_pool.specs.declared.id.ClassId.{ClassId}
use Rattle.lw_laws.specs.Graphs.{Graph}
use Rattle.lw_lut.specs.Covers.{IsLeastDepth}
use Rattle.lw_lut.specs.Cuts.{PlainCut, IsCutAt, is_odd}
use Rattle.lw_lut.specs.Searches.{depth_in, IsBelow}

-- a depth for each class that has one, and a cut for each pair of a class and its complement
pub record DepthLists : Type 0 where
  pub depths : List (Option ℕ)
  pub cuts : List PlainCut

-- a tree over at most so many pins, each less deep than the class, stands at the class, and the cut has its values
pub record IsTableCut (g : Graph) (most : ℕ) (depths : List (Option ℕ)) (c d : ℕ) (cut : PlainCut) : Type 0 where
  pub is : IsCutAt g c (is_odd c) cut
  pub few : length cut.pins ≤ most
  pub below : (k : ℕ) (q : ClassId) → slice_get cut.pins k ≡ Some q → IsBelow depths d q.0

-- Each class has its least depth over tables of at most so many pins, or none where no tree unfolds there; and a class
-- that has a depth other than 0 has a table.
pub record AreLeastDepths (g : Graph) (most : ℕ) (d : DepthLists) : Type 0 where
  pub one_each : length d.depths ≡ length g.pairs
  pub least : (c : ℕ) → IsLeastDepth g most c (depth_in d.depths c)
  pub tables : (c e : ℕ) → depth_in d.depths c ≡ Some (suc e)
      → (cut : PlainCut) × (slice_get d.cuts (c / 2) ≡ Some cut) × IsTableCut g most d.depths c (suc e) cut
