-- The search for depths: leaf counts, cuts and pins of the pairs of a class and its complement, and depths of classes.
use Rattle.std.specs.Prelude.{ℕ, suc, ◌+◌, ◌*◌, ◌/◌, ◌<◌, ◌≤◌, ◌≡◌, ◌⊎◌, List, [], ◌∷◌, length, Option, Some, None}
use Rattle.std.specs.Prelude.{IfSome, IsNone, Bool, true, false, slice_get, slice_index, slice_index_or, sum_by}
use Rattle.lw_pool.specs.declared.id.ClassId.{ClassId}
use Rattle.lw_graph.specs.declared.pair.Pair.{Pair}
use Rattle.lw_laws.specs.Graphs.{Graph, Unfolds, HoldsPair}
use Rattle.lw_lut.specs.Covers.{TableCover, IsTableCover, tree_of, depth_of}
use Rattle.lw_lut.specs.Cuts.{PlainCut, IsCutAt, is_odd}
use Rattle.lw_lut.specs.declared.search.Search.{Search}

-- the depth of a class, where it has one
abbrev pub depth_in : List (Option ℕ) → ℕ → Option ℕ
depth_in depths c = slice_index_or depths c None

abbrev pub IsKnown : List (Option ℕ) → ℕ → Type 0
IsKnown depths c = (e : ℕ) × (depth_in depths c ≡ Some e)

-- the class is less deep than this
abbrev pub IsBelow : List (Option ℕ) → ℕ → ℕ → Type 0
IsBelow depths d c = (e : ℕ) × (depth_in depths c ≡ Some e) × (e < d)

-- The depths that are known are at most d and those of covers or more, and a class of a cover of depth d at most has
-- one that is not above it.
pub record AreDepthsUpTo (g : Graph) (most : ℕ) (depths : List (Option ℕ)) (d : ℕ) : Type 0 where
  pub low : (c e : ℕ) → depth_in depths c ≡ Some e → e ≤ d
  pub attained : (c e : ℕ) → depth_in depths c ≡ Some e
      → (k : TableCover) × IsTableCover most k × Unfolds g (tree_of k) c × (depth_of k ≤ e)
  pub all : (k : TableCover) (c : ℕ) → IsTableCover most k → Unfolds g (tree_of k) c → depth_of k ≤ d
      → (e : ℕ) × (depth_in depths c ≡ Some e) × (e ≤ depth_of k)

-- how far counts can still fall
abbrev pub total : List ℕ → ℕ
total counts = sum_by (λ n. n) counts

-- how many leaves the place of a class has
abbrev pub count_at : List ℕ → ℕ → ℕ
count_at counts c = slice_index counts (c / 2)

-- no pair that class c holds would give it a lower count
abbrev pub IsBoundedAt : Graph → List ℕ → ℕ → Type 0
IsBoundedAt g counts c = (x y : ℕ) → HoldsPair g c x y → count_at counts c ≤ count_at counts x + count_at counts y

-- a pair of class c with fewer leaves than the class, each at a place
pub record HasFewer (g : Graph) (counts : List ℕ) (c : ℕ) (pair : Pair) : Type 0 where
  pub holds : HoldsPair g c pair.x.0 pair.y.0
  pub fewer : count_at counts pair.x.0 + count_at counts pair.y.0 < count_at counts c
  pub x : pair.x.0 / 2 < length counts
  pub y : pair.y.0 / 2 < length counts

-- The cut of a place: a tree over at most so many pins stands there, which are less deep than a limit, and than a class
-- of the place that has a depth other than 0.
pub record IsKept (g : Graph) (most limit : ℕ) (depths : List (Option ℕ)) (place : ℕ) (cut : PlainCut) : Type 0 where
  pub is : IsCutAt g (2 * place) false cut
  pub few : length cut.pins ≤ most
  pub known : (k : ℕ) (q : ClassId) → slice_get cut.pins k ≡ Some q → IsBelow depths limit q.0
  pub below : (c e : ℕ) → c / 2 ≡ place → depth_in depths c ≡ Some (suc e) → (k : ℕ) (q : ClassId)
      → slice_get cut.pins k ≡ Some q → IsBelow depths (suc e) q.0

-- a pin is a class of the place that is less deep than a limit, and the place has one leaf at most
pub record IsPin (limit : ℕ) (depths : List (Option ℕ)) (counts : List ℕ) (place : ℕ) (q : ClassId) : Type 0 where
  pub of_place : q.0 / 2 ≡ place
  pub known : IsBelow depths limit q.0
  pub low : slice_index counts place ≤ 1

-- There is a count and a cut for each place, a count is at most one more than a table may have pins, and that of the
-- place of true is 0. A place that has a count no greater than that has a cut, with as many pins where it has no pin
-- itself or the count is 0. A class that has a depth is of a place that has a pin.
pub record AreLists (g : Graph) (most cut_limit pin_limit : ℕ) (counts : List ℕ) (cuts : List PlainCut)
    (pins : List (Option ClassId)) (depths : List (Option ℕ)) : Type 0 where
  pub places : length g.pairs ≡ 2 * length counts
  pub one_cut : length cuts ≡ length counts
  pub one_pin : length pins ≡ length counts
  pub one_depth : length depths ≡ length g.pairs
  pub low : (k : ℕ) → slice_index counts k ≤ suc most
  pub one : count_at counts g.one ≡ 0
  pub kept : (k : ℕ) (cut : PlainCut) → slice_get cuts k ≡ Some cut → slice_index counts k ≤ most
      → IsKept g most cut_limit depths k cut
  pub sized : (k : ℕ) (cut : PlainCut) → slice_get cuts k ≡ Some cut → slice_index counts k ≤ most
      → (slice_get pins k ≡ Some None) ⊎ (slice_index counts k ≡ 0) → length cut.pins ≡ slice_index counts k
  pub pin : (k : ℕ) (q : ClassId) → slice_get pins k ≡ Some (Some q) → IsPin pin_limit depths counts k q
  pub known : (c : ℕ) → IsKnown depths c → (q : ClassId) × (slice_get pins (c / 2) ≡ Some (Some q))

abbrev pub AreCounts : Graph → ℕ → ℕ → Search → Type 0
AreCounts g most limit s = AreLists g most limit limit s.counts.items s.cuts.items s.pins.items s.depths.items

-- class c has a place with a cut, and each place that has one has a pin or none and a count
pub record HasSide (s : Search) (c : ℕ) : Type 0 where
  pub within : c / 2 < length s.cuts.items
  pub pins : length s.pins.items ≡ length s.cuts.items
  pub counts : length s.counts.items ≡ length s.cuts.items

-- the cut stands at class c, and has as many pins as the place of the class has leaves, each less deep than the limit
abbrev pub IsSide : Graph → ℕ → Search → ℕ → PlainCut → Type 0
IsSide g limit s c cut =
    IsCutAt g c (is_odd c) cut × (length cut.pins ≡ count_at s.counts.items c)
    × ((k : ℕ) (q : ClassId) → slice_get cut.pins k ≡ Some q → IsBelow s.depths.items limit q.0)

-- the cut is a side of a pair wherever counts hold and the place of the class has few enough leaves
abbrev pub ServesAsSide : Search → ℕ → PlainCut → Type 0
ServesAsSide s c cut =
    (g : Graph) (most limit : ℕ) → AreCounts g most limit s → count_at s.counts.items c ≤ most → IsSide g limit s c cut

-- What a search keeps while classes get the depth d: its lists, and known depths of d at most.
abbrev pub AreSettling : Graph → ℕ → ℕ → Search → Type 0
AreSettling g most d s =
    AreLists g most d (suc d) s.counts.items s.cuts.items s.pins.items s.depths.items
    × ((c e : ℕ) → depth_in s.depths.items c ≡ Some e → e ≤ d)

-- each class is bounded
abbrev pub AreBounded : Graph → List ℕ → Type 0
AreBounded g counts = (c : ℕ) → c < length g.pairs → IsBoundedAt g counts c

-- These counts have fallen, or none has, and then no pair of these classes would lower one.
pub record Falls (g : Graph) (old new : Search) (at : ℕ → Type 0) (changed : Bool) : Type 0 where
  pub falls : changed ≡ true → total new.counts.items < total old.counts.items
  pub same : changed ≡ false → new ≡ old
  pub bounded : changed ≡ false → (c : ℕ) → at c → IsBoundedAt g old.counts.items c

-- how many classes have no depth yet
abbrev pub is_unknown : Option ℕ → ℕ
is_unknown None = 1
is_unknown (Some e) = 0

abbrev pub unknown_count : List (Option ℕ) → ℕ
unknown_count depths = sum_by is_unknown depths

-- The classes of the first places that have few enough leaves have a depth: their own or else d.
pub record AreSettled (most d : ℕ) (old new : Search) (places : ℕ) (changed : Bool) : Type 0 where
  pub kept : (c e : ℕ) → depth_in old.depths.items c ≡ Some e → depth_in new.depths.items c ≡ Some e
  pub added : (c e : ℕ) → depth_in new.depths.items c ≡ Some e
      → (depth_in old.depths.items c ≡ Some e)
      ⊎ ((e ≡ d) × (count_at old.counts.items c ≤ most) × (c / 2 < length old.counts.items))
  pub all : (c : ℕ) → c / 2 < places → count_at old.counts.items c ≤ most → IsKnown new.depths.items c
  pub later : (k : ℕ) → places ≤ k → slice_index new.counts.items k ≡ slice_index old.counts.items k
  pub one_each : length new.counts.items ≡ length old.counts.items
  pub falls : changed ≡ true → unknown_count new.depths.items < unknown_count old.depths.items
  pub low : unknown_count new.depths.items ≤ unknown_count old.depths.items
  pub same : changed ≡ false → (c e : ℕ) → depth_in new.depths.items c ≡ Some e → depth_in old.depths.items c ≡ Some e

-- the pin of a place that has so many leaves, where it stands for itself
pub record IsServing (pin : Option ClassId) (leaves : ℕ) (served : Option ClassId) : Type 0 where
  pub some : IfSome served (λ q. (pin ≡ Some q) × (leaves ≡ 1))
  pub none : IsNone served → (pin ≡ None) ⊎ (leaves ≡ 1 → ⊥)

-- The classes of the place have a depth: their own or else d. Says whether one of them had none.
pub record IsDeepened (old : List (Option ℕ)) (place d : ℕ) (new : List (Option ℕ)) (changed : Bool) : Type 0 where
  pub one_each : length new ≡ length old
  pub kept : (c e : ℕ) → depth_in old c ≡ Some e → depth_in new c ≡ Some e
  pub added : (c e : ℕ) → depth_in new c ≡ Some e → (depth_in old c ≡ Some e)
      ⊎ ((e ≡ d) × (c / 2 ≡ place) × (depth_in old c ≡ None))
  pub all : (c : ℕ) → c / 2 ≡ place → IsKnown new c
  pub low : unknown_count new ≤ unknown_count old
  pub falls : changed ≡ true → unknown_count new < unknown_count old
  pub same : changed ≡ false → (c : ℕ) → c / 2 ≡ place → IsKnown old c

-- a place with a pin at the start: an input's class
pub record IsGiven (g : Graph) (counts : List ℕ) (cuts : List PlainCut) (depths : List (Option ℕ)) (place : ℕ)
    (q : ClassId) : Type 0 where
  pub of_place : q.0 / 2 ≡ place
  pub depth : depth_in depths q.0 ≡ Some 0
  pub count : slice_index counts place ≡ 1
  pub cut : PlainCut
  pub at : slice_get cuts place ≡ Some cut
  pub pins : cut.pins ≡ q ∷ []
  pub stands : IsCutAt g q.0 (is_odd q.0) cut

-- The places of the first inputs have pins, the inputs' classes have depth 0, and nothing else is known.
pub record IsStarted (g : Graph) (most seen : ℕ) (counts : List ℕ) (cuts : List PlainCut) (pins : List (Option ClassId))
    (depths : List (Option ℕ)) : Type 0 where
  pub places : length g.pairs ≡ 2 * length counts
  pub one_cut : length cuts ≡ length counts
  pub one_pin : length pins ≡ length counts
  pub one_depth : length depths ≡ length g.pairs
  pub free : (k : ℕ) → slice_get pins k ≡ Some None → slice_index counts k ≡ suc most
  pub given : (k : ℕ) (q : ClassId) → slice_get pins k ≡ Some (Some q) → IsGiven g counts cuts depths k q
  pub known : (c e : ℕ) → depth_in depths c ≡ Some e → (e ≡ 0) × ((i : ℕ) × (slice_get g.leaves i ≡ Some c))
      × ((q : ClassId) × (slice_get pins (c / 2) ≡ Some (Some q)))
  pub inputs : (i c : ℕ) → i < seen → slice_get g.leaves i ≡ Some c → depth_in depths c ≡ Some 0

abbrev pub HasStarted : Graph → ℕ → ℕ → Search → Type 0
HasStarted g most seen s = IsStarted g most seen s.counts.items s.cuts.items s.pins.items s.depths.items
