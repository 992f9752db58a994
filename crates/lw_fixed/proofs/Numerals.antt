-- Numerals that are parsed to numbers of so many bits.
use Rattle.std.proofs.Common.{ℕ, ◌<◌, ◌^◌, ◌≡◌, ◌&&◌, if◌then◌else◌, Bool, true, false, nat_le, nat_lt, List, length, Option, Some, None, Ok, Err, refl, ap}
use Rattle.std.specs.List.{list_all}
use Rattle.std.specs.Char.{is_ascii_digit}
use Rattle.std.specs.Str.Parse.{digits_value, ParsesUnsigned}
use Rattle.std.proofs.lemmas.Bool.{leb-true, ltb-true, lt-ltb, and_parts}
use Rattle.std.proofs.lemmas.Str.Parse.{parse_digits}
use Rattle.lw_fixed.proofs.Six.{own}

-- one digit or more, and nothing else
abbrev are_digits : List ℕ → Bool
are_digits word = nat_le 1 (length word) && list_all is_ascii_digit word

-- a decimal numeral below 2 to so many bits
abbrev number_below : ℕ → List ℕ → Option ℕ
number_below bits word = if are_digits word && nat_lt (digits_value 10 word) (2 ^ bits) then Some (digits_value 10 word) else None

-- a numeral that is parsed, and one that is too large
pub parsed : (bits : ℕ) (word : List ℕ) (n : ℕ) → ParsesUnsigned {E = Unit {0}} bits 10 word (Ok n) → are_digits word ≡ true → Some n ≡ number_below bits word
parsed bits word n h is =
    let (some, digits) = and_parts (nat_le 1 (length word)) (list_all is_ascii_digit word) is in
    let p = parse_digits own {E = Unit {0}} bits word (Ok n) h digits in
    let lt : nat_lt (digits_value 10 word) (2 ^ bits) ≡ true = lt-ltb _ _ p.0.1 in
    rw (some, digits, lt) (ap Some p.1)

pub not_parsed : (bits : ℕ) (word : List ℕ) → ParsesUnsigned {E = Unit {0}} bits 10 word (Err tt) → are_digits word ≡ true → None ≡ number_below bits word
not_parsed bits word h is =
    let (some, digits) = and_parts (nat_le 1 (length word)) (list_all is_ascii_digit word) is in
    let p = parse_digits own {E = Unit {0}} bits word (Err tt) h digits in
    by_test (nat_lt (digits_value 10 word) (2 ^ bits)) refl some digits p
  where
    by_test : (b : Bool) → nat_lt (digits_value 10 word) (2 ^ bits) ≡ b → nat_le 1 (length word) ≡ true → list_all is_ascii_digit word ≡ true → ((0 < length word) × (digits_value 10 word < 2 ^ bits) → ⊥) → None ≡ number_below bits word
    by_test false is some digits p = rw (some, digits, is) refl
    by_test true is some digits p = absurd (p (leb-true _ _ some, ltb-true _ _ is))
