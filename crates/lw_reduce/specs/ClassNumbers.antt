-- Classes of base forms, by the representatives of base forms.
use Rattle.std.specs.Prelude.{ℕ, ◌*◌, ◌/◌, ◌%◌, ◌<◌, ◌≤◌, ◌≡◌, List, length, slice_index}
use Rattle.lw_pool.specs.declared.id.ClassId.{ClassId}
use Rattle.lw_laws.specs.Graphs.{AreNumberedFrom, pair_count}
use Rattle.lw_reduce.specs.Representatives.{rep_of}

-- a number as a class
abbrev pub as_class : ℕ → ClassId
as_class n = record { 0 = n }

-- The classes of the first base forms: numbered by first base forms, each that of its representative, and rising with
-- the roots.
pub record AreClasses (reps forms : List ℕ) : Type 0 where
  pub numbered : AreNumberedFrom 0 forms
  pub few : pair_count 0 forms ≤ length forms
  pub below : (k : ℕ) → k < length forms → slice_index forms k / 2 < pair_count 0 forms
  pub by_rep : (k : ℕ) → k < length forms → slice_index forms k ≡ rep_of forms (slice_index reps k)
  pub even : (k : ℕ) → k < length forms → slice_index reps k ≡ 2 * k → slice_index forms k % 2 ≡ 0
  pub rising : (j k : ℕ) → j < k → k < length forms → slice_index reps j ≡ 2 * j → slice_index reps k ≡ 2 * k
      → slice_index forms j < slice_index forms k

-- the classes of all base forms, and how many pairs of a class and its complement there are
pub record AreAllClasses (reps forms : List ℕ) (found : ℕ) : Type 0 where
  pub classes : AreClasses reps forms
  pub count : length forms ≡ length reps
  pub pairs : found ≡ pair_count 0 forms
