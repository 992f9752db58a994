-- What the steps of the search for depths ask for, and what they leave.
use Rattle.std.specs.Prelude.{ℕ, suc, ◌+◌, ◌*◌, ◌/◌, ◌^◌, ◌<◌, ◌≤◌, ◌≡◌, ◌⊎◌, ◌||◌, Bool, true, false, length}
use Rattle.std.specs.Prelude.{slice_index}
use Rattle.lw_laws.specs.Graphs.{Graph}
use Rattle.lw_lut.specs.Covers.{IsLeastDepth}
use Rattle.lw_lut.specs.Reaches.{AreBoundedBut, AreKnownBut, AreReaches, IsIn, IsOutside, IsWithin, span_at}
use Rattle.lw_lut.specs.Searches.{AreBounded, AreCounts, AreDepthsUpTo, AreSettled, AreSettling, Falls, IsBoundedAt}
use Rattle.lw_lut.specs.Searches.{depth_in, total, unknown_count}
use Rattle.lw_lut.specs.declared.search.Search.{Search}
use Rattle.lw_lut.specs.declared.span.Span.{Span}
use Rattle.lw_lut.specs.declared.task.Task.{Task}

-- counts may fall
pub record MayLower (t : Task) (s : Search) : Type 0 where
  pub low : t.leaves ≤ 6
  pub counts : (d : ℕ) × AreCounts t.graph.now t.leaves d s

-- the count of the place of a class has fallen to that of a pair of the class, or no pair has fewer leaves
pub record LowersCount (t : Task) (old new : Search) (c : ℕ) (changed : Bool) : Type 0 where
  pub counts : (d : ℕ) → AreCounts t.graph.now t.leaves d old → AreCounts t.graph.now t.leaves d new
  pub depths : new.depths ≡ old.depths
  pub falls : Falls t.graph.now old new (λ d. d ≡ c) changed
  pub fewer : (k : ℕ) → slice_index new.counts.items k ≤ slice_index old.counts.items k
  pub elsewhere : (k : ℕ) → (k ≡ c / 2 → ⊥) → slice_index new.counts.items k ≡ slice_index old.counts.items k

-- the count of the place of a class has fallen or is settled, and the classes that are then to be looked at again are
-- in a span
pub record LowersIn (t : Task) (old new : Search) (c : ℕ) (next span : Span) : Type 0 where
  pub counts : (d : ℕ) → AreCounts t.graph.now t.leaves d old → AreCounts t.graph.now t.leaves d new
  pub depths : new.depths ≡ old.depths
  pub elsewhere : (k : ℕ) → (k ≡ c / 2 → ⊥) → slice_index new.counts.items k ≡ slice_index old.counts.items k
  pub grown : IsWithin next span
  pub falls : (total new.counts.items < total old.counts.items) ⊎ ((span ≡ next) × (new ≡ old))
  pub bounded : (d : ℕ) → (IsIn span d → ⊥) → (d ≡ c) ⊎ IsBoundedAt t.graph.now old.counts.items d
      → IsBoundedAt t.graph.now new.counts.items d

-- The classes of a span were gone through: counts have fallen in it alone, and none could fall more but at the classes
-- that are to be looked at again.
pub record LowersRound (t : Task) (old new : Search) (span next : Span) : Type 0 where
  pub counts : (d : ℕ) → AreCounts t.graph.now t.leaves d old → AreCounts t.graph.now t.leaves d new
  pub depths : new.depths ≡ old.depths
  pub bounded : AreBoundedBut t.graph.now new.counts.items next
  pub elsewhere : (k : ℕ) → IsOutside span k → slice_index new.counts.items k ≡ slice_index old.counts.items k
  pub fewer : total new.counts.items ≤ total old.counts.items
  pub falls : (c : ℕ) → IsIn next c → total new.counts.items < total old.counts.items

-- no pair would lower a count any more, and counts have fallen in one span alone, which the first one is in
pub record LowersAll (t : Task) (old new : Search) (span swept : Span) : Type 0 where
  pub counts : (d : ℕ) → AreCounts t.graph.now t.leaves d old → AreCounts t.graph.now t.leaves d new
  pub depths : new.depths ≡ old.depths
  pub bounded : AreBounded t.graph.now new.counts.items
  pub within : IsWithin span swept
  pub elsewhere : (k : ℕ) → IsOutside swept k → slice_index new.counts.items k ≡ slice_index old.counts.items k

-- a pin and two depths for each place, of which there are not too many
pub record AreInPlace (s : Search) : Type 0 where
  pub one_pin : length s.pins.items ≡ length s.counts.items
  pub two_depths : length s.depths.items ≡ 2 * length s.counts.items
  pub few_places : length s.counts.items < 2 ^ 31

-- the classes of a place with few enough leaves have got a depth, and the place a pin
pub record Settles (most d : ℕ) (old new : Search) (place : ℕ) (changed : Bool) : Type 0 where
  pub lists : (g : Graph) → AreSettling g most d old → AreSettling g most d new
  pub counts : length new.counts.items ≡ length old.counts.items
  pub pins : length new.pins.items ≡ length old.pins.items
  pub depths : length new.depths.items ≡ length old.depths.items
  pub settled : (g : Graph) (first : Search) (before : Bool) → AreSettling g most d old
      → AreSettled most d first old place before → AreSettled most d first new (place + 1) (changed || before)
  pub fewer : (k : ℕ) → slice_index new.counts.items k ≤ slice_index old.counts.items k
  pub elsewhere : (k : ℕ) → (k ≡ place → ⊥) → slice_index new.counts.items k ≡ slice_index old.counts.items k
  pub same : (slice_index old.counts.items place ≤ 1) ⊎ (most < slice_index old.counts.items place)
      → slice_index new.counts.items place ≡ slice_index old.counts.items place
  pub few : (k : ℕ) → slice_index new.counts.items k ≤ most → slice_index old.counts.items k ≤ most

-- a span grows by that of the place, where the place has several leaves and few enough for a table
pub record SeesPlace (t : Task) (s : Search) (place : ℕ) (next span : Span) : Type 0 where
  pub grown : IsWithin next span
  pub seen : (slice_index s.counts.items place ≤ 1 → ⊥) → slice_index s.counts.items place ≤ t.leaves
      → IsWithin (span_at t.reach.now place) span

-- all places are settled, where only those of one span had few enough leaves and no depth; what is to be looked at then
-- is in another
pub record SettlesAll (t : Task) (d : ℕ) (old new : Search) (swept next : Span) (changed : Bool) : Type 0 where
  pub lists : (g : Graph) → AreSettling g t.leaves d old → AreSettling g t.leaves d new
  pub settled : (g : Graph) → AreSettling g t.leaves d old
      → AreKnownBut t.leaves old.counts.items old.depths.items swept
      → AreSettled t.leaves d old new (length old.counts.items) changed
  pub few : (k : ℕ) → slice_index new.counts.items k ≤ t.leaves → slice_index old.counts.items k ≤ t.leaves
  pub bounded : (g : Graph) → AreReaches g t.reach.now → AreBounded g old.counts.items
      → AreBoundedBut g new.counts.items next

-- all classes that are less deep than d have their depths, and counts go by these
pub record IsAtDepth (g : Graph) (most d : ℕ) (s : Search) : Type 0 where
  pub low : most ≤ 6
  pub counts : AreCounts g most d s
  pub depths : (e : ℕ) × (d ≡ suc e) × AreDepthsUpTo g most s.depths.items e

-- each class that is not in the span is bounded, and has a depth where it has few enough leaves
pub record IsSweptBut (g : Graph) (most : ℕ) (s : Search) (span : Span) : Type 0 where
  pub bounded : AreBoundedBut g s.counts.items span
  pub known : AreKnownBut most s.counts.items s.depths.items span

-- one depth more: some class has got one, or each class has its least depth
pub record Deepens (t : Task) (d : ℕ) (old new : Search) (span : Span) (changed : Bool) : Type 0 where
  pub at : IsAtDepth t.graph.now t.leaves (suc d) new
  pub swept : IsSweptBut t.graph.now t.leaves new span
  pub falls : changed ≡ true → unknown_count new.depths.items < unknown_count old.depths.items
  pub least : changed ≡ false → 2 ≤ t.leaves → (c : ℕ) → IsLeastDepth t.graph.now t.leaves c
      (depth_in new.depths.items c)

-- each class has its least depth
pub record HasAllDepths (g : Graph) (most : ℕ) (s : Search) : Type 0 where
  pub counts : (d : ℕ) × AreCounts g most d s
  pub least : (c : ℕ) → IsLeastDepth g most c (depth_in s.depths.items c)
