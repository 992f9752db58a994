-- A digit of a vector in a word.
use Rattle.std.specs.Prelude.{ℕ, ◌^◌, bit_or, if◌then◌else◌}
use Rattle.lw_report.specs.Vectors.{is_one}

-- the word with bit k set where the digit is `1`
abbrev pub marked : ℕ → ℕ → ℕ → ℕ
marked k word digit = if is_one digit then bit_or word (2 ^ k) else word
