-- Choices as a listing keeps them: the pins of all stand in one list.
use Rattle.std.specs.Prelude.{ℕ, ◌+◌, ◌≤◌, ◌≡◌, List, map, Some, slice_get}
use Rattle.std.specs.List.{slice_range}
use Rattle.lw_pool.specs.declared.id.ClassId.{ClassId}
use Rattle.lw_pool.specs.Numbers.{numbers}
use Rattle.lw_choices.specs.declared.rows.KeptStand.{KeptStand}
use Rattle.lw_choices.specs.declared.rows.KeptStand.TheVariants.{Input, Gate}
use Rattle.lw_choices.specs.declared.rows.Row.{Row}
use Rattle.lw_choices.specs.Choices.{Part, Choice}
use Rattle.lw_choices.specs.Choices.Part.{input, gate}

-- what is kept, with its pins among those of all
abbrev pub kept_part : List ℕ → KeptStand → Part
kept_part pins (Input i) = input i
kept_part pins (Gate g) = gate g.cell.0 (slice_range pins g.first (g.first + g.count))

abbrev pub kept_row : List ℕ → Row → Choice
kept_row pins r = record { class = r.class.0; part = kept_part pins r.stand }

abbrev pub kept_rows : List ClassId → List Row → List Choice
kept_rows pins rows = map (kept_row (numbers pins)) rows

-- where its pins end
abbrev pub pin_end : KeptStand → ℕ
pin_end (Input i) = 0
pin_end (Gate g) = g.first + g.count

-- how many they are
abbrev pub kept_count : KeptStand → ℕ
kept_count (Input i) = 0
kept_count (Gate g) = g.count

-- its pins end among so many, and are few
pub record IsKeptIn (count : ℕ) (s : KeptStand) : Type 0 where
  pub within : pin_end s ≤ count
  pub few : kept_count s ≤ 16

-- so it is of each
pub record AreKeptIn (count : ℕ) (rows : List Row) : Type 0 where
  pub each : (k : ℕ) (r : Row) → slice_get rows k ≡ Some r → IsKeptIn count r.stand

abbrev pub input_at : ClassId → ℕ → Choice
input_at class i = record { class = class.0; part = input i }
