-- The words of nets.
use Rattle.std.specs.Prelude.{ℕ, ◌≡◌, ◌+◌, ◌<◌, Bool, false, List, Some, map, slice_get, slice_index, slice_index_or}
use Rattle.lw_pool.specs.declared.id.NetId.{NetId}
use Rattle.lw_pool.specs.Numbers.{net_number}
use Rattle.lw_report.specs.Blocks.{bits_at}

-- the words of some nets
abbrev pub words_of : List ℕ → List NetId → List ℕ
words_of words nets = map (slice_index words) (map net_number nets)

-- The words of the nets from `first` on are filled in: each has the values that its gate or node gives by the words of
-- all nets.
pub record FillsNets {G : Type 0} (value : List Bool → G → Bool) (gates : List G) (first : ℕ)
    (old new : List ℕ) : Type 0 where
  pub inputs : (i : ℕ) → i < first → slice_index new i ≡ slice_index old i
  pub values : (k : ℕ) → k < 64 → (j : ℕ) (gate : G) → slice_get gates j ≡ Some gate
      → slice_index_or (bits_at k new) (first + j) false ≡ value (bits_at k new) gate
