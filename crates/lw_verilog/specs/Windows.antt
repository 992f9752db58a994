-- Flags for a run of numbers.
use Rattle.std.specs.Prelude.{ℕ, Option, MatchOption, ◌≡◌, ◌≢◌, ◌<◌, ◌≤◌, ◌+◌, ◌||◌, ◌^◌, Bool, false, List, length}
use Rattle.std.specs.Prelude.{slice_index_or}
use Rattle.lw_named_netlist.specs.Closing.{is_among}
use Rattle.lw_verilog.specs.Texts.{instance_name}

-- how many numbers have flags at a time
abbrev pub width : ℕ
width = 65536

-- There is a flag for the number: it is one of so many from the base on.
pub record HasFlag (width base number : ℕ) : Type 0 where
  pub low : base ≤ number
  pub high : number < base + width

-- numbers from here on are looked up one by one
abbrev pub most_flagged : ℕ
most_flagged = 2 ^ 60

-- numbers of instances are less
abbrev pub number_limit : ℕ
number_limit = 2 ^ 64

-- The number whose text this is, if it is no more than the most, or none where no smaller one has this text.
abbrev pub IsNumberBy : (ℕ → List ℕ) → List ℕ → Option ℕ → Type 0
IsNumberBy text_of text o =
    MatchOption o ((k : ℕ) → k < most_flagged → text ≢ text_of k) (λ k. (text ≡ text_of k) × (k ≤ most_flagged))

-- flags after those were raised whose places pass a test
pub record Raises (test : ℕ → Bool) (old new : List Bool) : Type 0 where
  pub many : length new ≡ length old
  pub each : (i : ℕ) → i < length old → slice_index_or new i false ≡ (slice_index_or old i false || test i)

-- Each flag tells whether the instance of its number, counted from the base, has one of these
-- names.
pub record AreTaken (names : List (List ℕ)) (base : ℕ) (flags : List Bool) : Type 0 where
  pub many : length flags ≡ width
  pub few : base + width ≤ most_flagged
  pub each : (i : ℕ) → i < width → slice_index_or flags i false ≡ is_among names (instance_name (base + i))
