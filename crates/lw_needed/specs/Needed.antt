-- Flags of the classes that are needed.
use Rattle.std.specs.Prelude.{ℕ, ◌≡◌, ◌⊎◌, ◌↔◌, Bool, true, false, List, Contains, length, slice_index_or}
use Rattle.lw_pool.specs.declared.id.ClassId.{ClassId}
use Rattle.lw_pool.specs.Numbers.{numbers}

abbrev pub IsNoted : List Bool → ℕ → Type 0
IsNoted needed c = slice_index_or needed c false ≡ true

-- each of these classes is noted
abbrev pub AreNoted : List Bool → List ℕ → Type 0
AreNoted needed classes = (c : ℕ) → Contains classes c → IsNoted needed c

-- the classes of the roots are noted, and no others
pub record AreRoots (roots : List ClassId) (classes : ℕ) (needed : List Bool) : Type 0 where
  pub one_each : length needed ≡ classes
  pub are : (c : ℕ) → IsNoted needed c ↔ Contains (numbers roots) c

-- these classes are noted too
pub record HasAlso (old : List Bool) (classes : List ClassId) (new : List Bool) : Type 0 where
  pub one_each : length new ≡ length old
  pub are : (c : ℕ) → IsNoted new c ↔ (IsNoted old c ⊎ Contains (numbers classes) c)
