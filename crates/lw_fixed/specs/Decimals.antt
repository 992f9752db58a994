-- What a text means as a decimal: a number of millionths, or the first rule that it breaks.
use Rattle.std.specs.Prelude.{ℕ, ◌+◌, ◌*◌, ◌^◌, Bool, not, ◌&&◌, ◌||◌, ◌==◌, nat_lt, nat_le, nat_eq, List, [], ◌∷◌}
use Rattle.std.specs.Prelude.{◌++◌, length, take, drop, replicate, Result, Ok, Err, if◌then◌else◌, codes}
use Rattle.std.specs.List.{before_first, after_first, list_all, list_any, starts_with}
use Rattle.std.specs.Char.{is_ascii_digit}
use Rattle.std.specs.Str.Parse.{digits_value}
use Rattle.lw_fixed.specs.declared.micro.Micro.{Micro}
use Rattle.lw_fixed.specs.declared.fault.DecimalFault.{DecimalFault}
use Rattle.lw_fixed.specs.declared.fault.DecimalFault.TheVariants.{Shape, Large, Fine, Negative}

-- a unit, in millionths
abbrev pub one_unit : ℕ
one_unit = 1000000

-- what is read has fewer units than a limit, which is at most this
abbrev pub most_units : ℕ
most_units = 2 ^ 43

-- an area, a delay or a time that is given has fewer units
abbrev pub given_units : ℕ
given_units = 1000000

abbrev pub is_point : ℕ → Bool
is_point b = b == 46

abbrev pub is_sign : ℕ → Bool
is_sign b = b == 43 || b == 45

-- the text without a sign at its front
abbrev pub without_sign : List ℕ → List ℕ
without_sign [] = []
without_sign (b ∷ bytes) = if is_sign b then bytes else b ∷ bytes

-- what stands before the first point, and what stands behind it
abbrev pub whole_part : List ℕ → List ℕ
whole_part text = before_first is_point (without_sign text)

abbrev pub decimals : List ℕ → List ℕ
decimals text = after_first is_point (without_sign text)

-- digits alone, one at least
abbrev pub has_digits : List ℕ → List ℕ → Bool
has_digits whole part =
    list_all is_ascii_digit whole && list_all is_ascii_digit part && nat_lt 0 (length whole + length part)

abbrev pub is_decimal : List ℕ → Bool
is_decimal text = has_digits (whole_part text) (decimals text)

abbrev pub units_of : List ℕ → ℕ
units_of text = digits_value 10 (whole_part text)

-- the millionths that decimals add: the value of six of them, with zeros for those that are not written
unfoldable pub value_of_decimals : List ℕ → ℕ
value_of_decimals part = digits_value 10 (take 6 (part ++ replicate 6 48))

abbrev pub millionths_of : List ℕ → ℕ
millionths_of text = one_unit * units_of text + value_of_decimals (decimals text)

-- a digit other than 0 stands past the sixth decimal
abbrev pub is_finer : List ℕ → Bool
is_finer part = list_any (λ digit. not (digit == 48)) (drop 6 part)

abbrev pub is_negative : List ℕ → Bool
is_negative text = starts_with nat_eq text (codes "-")

-- The rules in their order: a decimal, of fewer units than these, of no more than six decimals, and not below 0.
unfoldable pub decimal_of : List ℕ → ℕ → Result Micro DecimalFault
decimal_of text units =
    if not (is_decimal text) then Err Shape
    else (if nat_le units (units_of text) then Err Large
    else (if is_finer (decimals text) then Err Fine
    else (if is_negative text && nat_lt 0 (millionths_of text) then Err Negative
    else Ok (record { 0 = millionths_of text }))))
