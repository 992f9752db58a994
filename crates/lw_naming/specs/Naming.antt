-- The numbered names that are still to come, and the first outputs of classes.
use Rattle.std.specs.Prelude.{ℕ, ◌-◌, ◌^◌, ◌<◌, ◌≤◌, ◌≡◌, ◌==◌, ◌||◌, not, List, ◌∷◌, length, filter, Option, None}
use Rattle.std.specs.Prelude.{MatchOption, slice_index_or}
use Rattle.std.specs.List.{position_from}
use Rattle.lw_pool.specs.declared.id.ClassId.{ClassId}
use Rattle.lw_laws.specs.Names.{is_name_among, numbered_names}
use Rattle.lw_naming.specs.declared.free_names.FreeNames.{FreeNames}

-- the new names are the old ones and these
abbrev pub HoldsAlso : List (List ℕ) → List (List ℕ) → List (List ℕ) → Type 0
HoldsAlso old new names =
    (name : List ℕ) → is_name_among name new ≡ (is_name_among name old || is_name_among name names)

-- the names with the numbers from one on and below another that are not taken
abbrev pub free_between : List (List ℕ) → ℕ → ℕ → List (List ℕ)
free_between taken first last = filter (λ name. not (is_name_among name taken)) (numbered_names first (last - first))

-- the free names that are still to come, of those with a number below the last
abbrev pub still_free : FreeNames → ℕ → List (List ℕ)
still_free free last = free_between free.taken free.next last

-- so many free names are still to come
pub record HasFree (free : FreeNames) (count : ℕ) : Type 0 where
  pub last : ℕ
  pub small : last < 2 ^ 64
  pub enough : count ≤ length (still_free free last)

-- the name came next, whatever the last number is
abbrev pub IsNextFree : FreeNames → List ℕ → FreeNames → Type 0
IsNextFree old name new =
    (last : ℕ) → 0 < length (still_free old last) → still_free old last ≡ name ∷ still_free new last

-- the name that is given, or else the next free one
abbrev pub IsGivenOrFree : Option (List ℕ) → FreeNames → List ℕ → FreeNames → Type 0
IsGivenOrFree given old name new = MatchOption given (IsNextFree old name new) (λ other. (name ≡ other) × (new ≡ old))

-- each class has there the first of its places among the roots, and past the list no class has one
abbrev pub AreFirstPlaces : List (Option ℕ) → List ClassId → Type 0
AreFirstPlaces firsts roots =
    (c : ℕ) → slice_index_or firsts c None ≡ position_from (λ (root : ClassId). root.0 == c) 0 roots
