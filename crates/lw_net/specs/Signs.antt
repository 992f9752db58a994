-- The bytes of a row.
use Rattle.std.specs.Prelude.{ℕ, ◌≡◌, ◌⊎◌, ◌==◌, Option, Some, None, Bool, true, false, not, if◌then◌else◌}

-- The byte is `0`, `1` or `-`.
abbrev pub IsSign : ℕ → Type 0
IsSign sign = (sign ≡ 48) ⊎ (sign ≡ 49) ⊎ (sign ≡ 45)

-- the value that a column asks for: true for `1`, false for `0`, none for `-`
abbrev pub asked : ℕ → Option Bool
asked sign = if sign == 49 then Some true else (if sign == 48 then Some false else None)

-- whether a column with this sign is met by this value
abbrev pub met_by : ℕ → Bool → Bool
met_by sign value = if sign == 49 then value else (if sign == 48 then not value else true)
