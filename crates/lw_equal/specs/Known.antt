-- Sides whose names are looked up, and what look-ups tell.
use Rattle.std.specs.Prelude.{ℕ, ◌<◌, ◌≡◌, Some, List, length, slice_get, slice_index_or}
use Rattle.lw_laws.specs.Headline.{Port}
use Rattle.lw_pool.specs.declared.latch.Latch.{Latch}
use Rattle.lw_equal.specs.declared.known.Known.{Known}
use Rattle.lw_equal.specs.declared.point.Kind.{Kind}
use Rattle.lw_equal.specs.declared.side.Side.{Side}
use Rattle.lw_equal.specs.Sides.{IsNetOf, IsSide, inputs_of, root_names, roots_of}

-- The sets are the names of the side.
pub record IsKnown (known : Known) : Type 0 where
  pub side : IsSide known.side.now
  pub inputs : known.inputs.keys ≡ inputs_of known.side.now.logic
  pub roots : known.roots.keys ≡ root_names known.side.now.logic

-- The only latch whose output has the name.
pub record IsLatchOf (side : Side) (name : List ℕ) (latch : Latch) : Type 0 where
  pub place : ℕ
  pub at : slice_get side.frame.now.latches place ≡ Some latch
  pub named : latch.output ≡ name
  pub only : (other : ℕ) (d : Latch) → slice_get side.frame.now.latches other ≡ Some d → d.output ≡ name → d ≡ latch

abbrev pub HasNoLatch : Side → List ℕ → Type 0
HasNoLatch side name =
    (place : ℕ) (latch : Latch) → slice_get side.frame.now.latches place ≡ Some latch → latch.output ≡ name → ⊥

-- The only root of the name.
pub record IsOnlyRoot (side : Side) (name : List ℕ) (net : ℕ) : Type 0 where
  pub place : ℕ
  pub at : slice_get (roots_of side.logic) place ≡ Some (record { name = name; net = net })
  pub only : (other m : ℕ) → slice_get (roots_of side.logic) other ≡ Some (record { name = name; net = m }) → m ≡ net

abbrev pub HasNoRoot : Side → List ℕ → Type 0
HasNoRoot side name =
    (place net : ℕ) → slice_get (roots_of side.logic) place ≡ Some (record { name = name; net = net }) → ⊥

-- The only net at a point.
pub record IsOnlyNet (kind : Kind) (side : Side) (name : List ℕ) (net : ℕ) : Type 0 where
  pub is : IsNetOf kind side name net
  pub only : (m : ℕ) → IsNetOf kind side name m → m ≡ net

abbrev pub HasNoNet : Kind → Side → List ℕ → Type 0
HasNoNet kind side name = (net : ℕ) → IsNetOf kind side name net → ⊥
