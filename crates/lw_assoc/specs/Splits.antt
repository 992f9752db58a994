-- How many splits and classes there are.
use Rattle.std.specs.Prelude.{ℕ, length}
use Rattle.std.specs.List.{sum_by}
use Rattle.lw_laws.specs.Modes.{Mode}
use Rattle.lw_laws.specs.NumberedForms.{Base, NumberedForms}
use Rattle.lw_laws.specs.NumberedForms.Base.{base_true, base_input, base_and}
use Rattle.lw_laws.specs.Occurring.{splits_of}

-- how many there are at most
abbrev pub most_splits : ℕ
most_splits = 16777216

abbrev pub base_splits : Mode → Base → ℕ
base_splits mode (base_and fs) = splits_of mode (length fs)
base_splits mode base_true = 0
base_splits mode (base_input i) = 0

-- the splits of all listed Ands
abbrev pub numbered_splits : Mode → NumberedForms → ℕ
numbered_splits mode forms = sum_by (base_splits mode) forms.bases
