-- Chains of the places of names, by which an output's name is found among those of nets.
use Rattle.std.specs.Prelude.{ℕ, ◌≡◌, ◌<◌, ◌≤◌, ◌+◌, ◌*◌, ◌%◌, Bool, false, ⊤, List, [], ◌∷◌, length, slice_index_or}
pub use Rattle.lw_named_netlist.specs.Chains.{AreChains, name_at}
use Rattle.lw_named_netlist.specs.Closing.{is_among}

-- how many nets have flags at a time, and how many buckets there are
abbrev pub known_width : ℕ
known_width = 32768

abbrev pub bucket_from : ℕ → List ℕ → ℕ
bucket_from hash [] = hash
bucket_from hash (b ∷ bytes) = bucket_from ((hash * 31 + b) % known_width) bytes

-- the bucket of a name
abbrev pub bucket_of : List ℕ → ℕ
bucket_of name = bucket_from 0 name

-- the bucket of the name at a place
abbrev pub bucket_at : List (List ℕ) → ℕ → ℕ
bucket_at names place = bucket_of (name_at names place)

-- There is room for these names: they are no more than there are flags, in as many buckets.
pub record HasRoom (names : List (List ℕ)) (heads next : List ℕ) : Type 0 where
  pub few : length names ≤ known_width
  pub buckets : length heads ≡ known_width
  pub places : length next ≡ known_width

-- Chains for all of these names.
pub record AreChained (names : List (List ℕ)) (heads next : List ℕ) : Type 0 where
  pub chains : AreChains bucket_of known_width (λ k. ⊤) names (length names) heads next
  pub room : HasRoom names heads next

-- Each flag tells whether an output has the name of its net, counted from the base.
pub record AreKnown (names outputs : List (List ℕ)) (base : ℕ) (flags : List Bool) : Type 0 where
  pub many : length flags ≡ known_width
  pub each : (i : ℕ) → i < known_width → base + i < length names
      → slice_index_or flags i false ≡ is_among outputs (name_at names (base + i))
