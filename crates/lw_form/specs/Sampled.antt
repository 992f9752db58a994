-- The value of a base form where every input is false, by those of the base forms before it.
use Rattle.std.specs.Prelude.{ℕ, ◌/◌, ◌%◌, ◌==◌, Bool, true, false, not, if◌then◌else◌, List, slice_index_or}
use Rattle.std.specs.List.{list_all}
use Rattle.lw_laws.specs.NumberedForms as laws
use Rattle.lw_laws.specs.NumberedForms.Base.{base_true, base_input, base_and}

abbrev pub sample_value : List Bool → ℕ → Bool
sample_value samples f =
    if f % 2 == 0 then slice_index_or samples (f / 2) false else not (slice_index_or samples (f / 2) false)

abbrev pub sample_base : List Bool → laws.Base → Bool
sample_base samples base_true = true
sample_base samples (base_input i) = false
sample_base samples (base_and fs) = list_all (sample_value samples) fs
