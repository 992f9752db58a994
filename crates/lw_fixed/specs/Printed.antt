-- The one text that is printed for a number of millionths.
use Rattle.std.specs.Prelude.{ℕ, ◌+◌, ◌-◌, ◌/◌, ◌%◌, ◌<◌, ◌≡◌, ◌≢◌, ◌==◌, IsTrue, List, [], ◌∷◌, ◌++◌, length, take}
use Rattle.std.specs.Prelude.{drop, decimal, slice_index}
use Rattle.std.specs.List.{suffix_len, list_all}
use Rattle.std.specs.Char.{is_ascii_digit}
use Rattle.lw_fixed.specs.Decimals.{one_unit}

-- digits without the zeros at their end
abbrev pub without_zeros : List ℕ → List ℕ
without_zeros digits = take (length digits - suffix_len (λ digit. digit == 48) digits) digits

-- the six decimals of a number of millionths below one unit
abbrev pub six_decimals : ℕ → List ℕ
six_decimals rest = drop 1 (decimal (one_unit + rest))

-- a whole part, and a point and decimals where there are any
abbrev pub with_decimals : List ℕ → List ℕ → List ℕ
with_decimals whole [] = whole
with_decimals whole (digit ∷ digits) = whole ++ 46 ∷ digit ∷ digits

unfoldable pub decimal_text : ℕ → List ℕ
decimal_text n = with_decimals (decimal (n / one_unit)) (without_zeros (six_decimals (n % one_unit)))

-- A text with no sign and with no zero or point that could be left out.
pub record IsShortest (text : List ℕ) : Type 0 where
  pub whole : List ℕ
  pub part : List ℕ
  pub spelled : text ≡ with_decimals whole part
  pub whole_digits : IsTrue (list_all is_ascii_digit whole)
  pub part_digits : IsTrue (list_all is_ascii_digit part)
  pub some_digit : 0 < length whole
  pub no_leading_zero : slice_index whole 0 ≡ 48 → length whole ≡ 1
  pub no_last_zero : slice_index part (length part - 1) ≢ 48
