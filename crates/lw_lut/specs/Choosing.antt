-- The needed classes, each with its table, and how they are found from the deepest down.
use Rattle.std.specs.Prelude.{ℕ, suc, ◌<◌, ◌≤◌, ◌≡◌, ◌⊎◌, List, All, Contains, length, Option, Some, slice_get}
use Rattle.lw_pool.specs.declared.id.ClassId.{ClassId}
use Rattle.lw_laws.specs.Graphs.{Graph}
use Rattle.lw_laws.specs.Extracts.{IsLeafClass}
use Rattle.lw_needed.specs.declared.places.Place.{Place}
use Rattle.lw_needed.specs.Places.{AreInClassOrder, AreInDepthOrder}
use Rattle.lw_lut.specs.Depths.{DepthLists, AreLeastDepths}
use Rattle.lw_lut.specs.Searches.{depth_in, IsBelow, IsKnown}
use Rattle.lw_lut.specs.Tables.{IsTableAt, AreRisingClasses}
use Rattle.lw_lut.specs.declared.table.Table.{Table}
use Rattle.lw_pool.specs.Numbers.{numbers}

-- roots among the classes of a graph, and the least depths of these
pub record AreRootsIn (d : DepthLists) (roots : List ClassId) : Type 0 where
  pub least : (g : Graph) × (most : ℕ) × AreLeastDepths g most d
  pub within : All (λ (root : ClassId). root.0 < length d.depths) roots

-- the least set that has the roots and the fan-ins of the tables of classes in it
pub data IsNeeded (roots : List ℕ) (tables : List Table) : ℕ → Type 0 where
  by_root : {c : ℕ} → Contains roots c → IsNeeded roots tables c
  by_fanin : {q : ℕ} (t : Table) → IsNeeded roots tables t.out.0 → Contains tables t → Contains (numbers t.fanins) q
      → IsNeeded roots tables q

-- A table of at most so many fan-ins that stands at its class, with fan-ins that are less deep than the class.
pub record IsTable (g : Graph) (most : ℕ) (depths : List (Option ℕ)) (t : Table) : Type 0 where
  pub at : IsTableAt g most t.out.0 (numbers t.fanins) t.bits
  pub few : length t.fanins < suc most
  pub rising : AreRisingClasses t.fanins
  pub depth : ℕ
  pub depth_is : depth_in depths t.out.0 ≡ Some (suc depth)
  pub below : (q : ClassId) → Contains t.fanins q → IsBelow depths (suc depth) q.0

-- in the order of depth and then class
abbrev pub IsTableBefore : List (Option ℕ) → Table → Table → Type 0
IsTableBefore depths t u =
    (d e : ℕ) → depth_in depths t.out.0 ≡ Some d → depth_in depths u.out.0 ≡ Some e
    → (d < e) ⊎ ((d ≡ e) × (t.out.0 < u.out.0))

-- One table for each needed class that is no input's, by depth and then class.
pub record AreTables (g : Graph) (most : ℕ) (depths : List (Option ℕ)) (roots : List ℕ)
    (tables : List Table) : Type 0 where
  pub each : (t : Table) → Contains tables t → IsTable g most depths t
  pub needed : (t : Table) → Contains tables t → IsNeeded roots tables t.out.0 × (IsLeafClass g t.out.0 → ⊥)
  pub all : (c : ℕ) → IsNeeded roots tables c → (IsLeafClass g c → ⊥) → (t : Table) × Contains tables t × (t.out.0 ≡ c)
  pub sorted : (i j : ℕ) (t u : Table) → slice_get tables i ≡ Some t → slice_get tables j ≡ Some u → i < j
      → IsTableBefore depths t u

-- Tables of at most six fan-ins: where these are the least depths of a graph, and each root has one, a table for each
-- needed class.
pub record AreChosen (d : DepthLists) (roots : List ClassId) (chosen : List Table) : Type 0 where
  pub tables : (g : Graph) (most : ℕ) → AreLeastDepths g most d
      → All (λ (root : ClassId). IsKnown d.depths root.0) roots → AreTables g most d.depths (numbers roots) chosen
  pub few : All (λ (t : Table). length t.fanins ≤ 6) chosen

-- Places.

-- the places are those of the classes that have a depth other than 0
pub record ArePlaces (depths : List (Option ℕ)) (places : List Place) : Type 0 where
  pub each : (p : Place) → Contains places p → (e : ℕ) × (depth_in depths p.class.0 ≡ Some (suc e)) × (p.depth ≡ suc e)
  pub all : (c e : ℕ) → depth_in depths c ≡ Some (suc e) → (p : Place) × Contains places p × (p.class.0 ≡ c)

-- in the order of the classes' numbers
pub record AreListed (depths : List (Option ℕ)) (places : List Place) : Type 0 where
  pub are : ArePlaces depths places
  pub rising : AreInClassOrder places

-- by depth and then class
pub record AreByDepth (depths : List (Option ℕ)) (places : List Place) : Type 0 where
  pub are : ArePlaces depths places
  pub sorted : AreInDepthOrder places
