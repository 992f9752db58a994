-- Pairs of nets at points.
use Rattle.std.specs.Prelude.{ℕ, List, All, Contains}
use Rattle.lw_pool.specs.declared.id.NetId.{NetId}
use Rattle.lw_equal.specs.declared.pairing.Pair.{Pair}
use Rattle.lw_equal.specs.declared.point.Kind.{Kind}
use Rattle.lw_equal.specs.declared.point.Point.{Point}
use Rattle.lw_equal.specs.declared.side.Side.{Side}
use Rattle.lw_equal.specs.Sides.{IsNetAt, IsNetOf}

-- both nets are those of the point
pub record IsPair (one other : Side) (pair : Pair) : Type 0 where
  pub left : IsNetAt one pair.point pair.left.0
  pub right : IsNetAt other pair.point pair.right.0

-- these are pairs, and each point at which both sides have a net has its pair
pub record AreAllPairs (one other : Side) (pairs : List Pair) : Type 0 where
  pub sound : All (IsPair one other) pairs
  pub complete : (point : Point) (k m : NetId) → IsNetAt one point k.0 → IsNetAt other point m.0
      → Contains pairs (record { point = point; left = k; right = m })

-- a point of this kind and name has its pair
abbrev pub Covers : Side → Side → Kind → List ℕ → List Pair → Type 0
Covers one other kind name pairs =
    (k m : NetId) → IsNetOf kind one name k.0 → IsNetOf kind other name m.0
    → Contains pairs (record { point = record { kind = kind; name = name }; left = k; right = m })

-- pairs were added, and none was taken away
pub record Grows (one other : Side) (old new : List Pair) : Type 0 where
  pub sound : All (IsPair one other) old → All (IsPair one other) new
  pub kept : (pair : Pair) → Contains old pair → Contains new pair
