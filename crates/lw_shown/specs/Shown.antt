-- Bytes as a line shows them.
use Rattle.std.specs.Prelude.{ℕ, ◌+◌, ◌/◌, ◌%◌, ◌==◌, ◌||◌, Bool, nat_lt, List, [], ◌∷◌, if◌then◌else◌}
use Rattle.std.specs.List.{flat_map}

-- a byte that a terminal would take for an order, and the backslash, with which those are written
abbrev pub is_escaped : ℕ → Bool
is_escaped b = nat_lt b 32 || (b == 92 || b == 127)

abbrev pub hex_digit : ℕ → ℕ
hex_digit n = if nat_lt n 10 then 48 + n else 87 + n

-- such a byte is written as `\x` and two digits, and any other as it is
abbrev pub shown_byte : ℕ → List ℕ
shown_byte b = if is_escaped b then 92 ∷ 120 ∷ hex_digit (b / 16) ∷ hex_digit (b % 16) ∷ [] else b ∷ []

abbrev pub shown : List ℕ → List ℕ
shown bytes = flat_map shown_byte bytes
