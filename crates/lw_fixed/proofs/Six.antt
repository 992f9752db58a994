-- Six decimals, and what is left of them without zeros at their end.
use Rattle.std.proofs.Common.{ℕ, ◌+◌, ◌-◌, ◌*◌, ◌^◌, ◌<◌, ◌≤◌, ◌≡◌, true, List, [], ◌∷◌, length, drop, sym, ap, ◌∙◌, arith, rules, ◌++◌, ◌&&◌, take, replicate}
use Rattle.std.specs.Prelude.{decimal}
use Rattle.std.specs.List.{list_all}
use Rattle.std.specs.Char.{is_ascii_digit, digit_value}
use Rattle.std.specs.Int.{IsInRange}
use Rattle.std.specs.Str.Parse.{digits_value, digits_value_after}
use Rattle.std.proofs.lemmas.Str.{digit_value_digit}
use Rattle.std.proofs.lemmas.Str.Parse.{IsNumeralModel, numerals_by_value, digits_value_short}
use Rattle.std.proofs.lemmas.Fmt.{length-decimal-le, digits_decimal, digits_value-decimal}
use Rattle.std.proofs.lemmas.Bool.Decides.{nat_tests}
use Rattle.std.proofs.lemmas.List.{length-take}
use Rattle.std.proofs.lemmas.List.Folds.{list_all-append}
use Rattle.lw_fixed.specs.Decimals.{value_of_decimals}
use Rattle.lw_facts.proofs.Lists.{digits_value_split, digit_at, digits_take}
use Rattle.lw_fixed.specs.Printed.{six_decimals}

-- digits and their value, in this crate's words
pub own : IsNumeralModel (λ ds. list_all is_ascii_digit ds ≡ true) (digits_value 10)
own = numerals_by_value _ (search rules)

-- the first digit counts by the number of the others
pub value_first : (d : ℕ) (ds : List ℕ) → IsInRange 48 57 d → digits_value 10 (d ∷ ds) ≡ (d - 48) * 10 ^ length ds + digits_value 10 ds
value_first d ds digit =
    let all : digits_value_after 10 (0 * 10 + digit_value d) ds ≡ (0 * 10 + digit_value d) * 10 ^ length ds + digits_value 10 ds = digits_value_split (0 * 10 + digit_value d) ds in
    let value : digit_value d + 48 ≡ d = digit_value_digit d digit in
    let same : digit_value d ≡ d - 48 = omega arith in
    all ∙ (ap (λ v. (0 * 10 + v) * 10 ^ length ds + digits_value 10 ds) same ∙ omega arith)

module _ (r : ℕ) (below : r < 1000000) where
  digits : list_all is_ascii_digit (decimal (1000000 + r)) ≡ true
  digits = digits_decimal own (1000000 + r) (omega arith)

  value : digits_value 10 (decimal (1000000 + r)) ≡ 1000000 + r
  value = digits_value-decimal own (1000000 + r) (omega arith)

  pub seven : length (decimal (1000000 + r)) ≡ 7
  seven =
      let most : length (decimal (1000000 + r)) ≤ 7 = length-decimal-le 7 (1000000 + r) (omega arith) (omega arith) (omega arith) in
      let short : length (decimal (1000000 + r)) ≤ 6 → ⊥ = λ le.
      let less : digits_value 10 (decimal (1000000 + r)) < 10 ^ 6 = digits_value_short own (decimal (1000000 + r)) 6 digits le in
      absurd (omega (arith, value)) in
      omega arith

  -- it begins with 1, and the others are the value
  pub record IsSix (six : List ℕ) : Type 0 where
    pub long : length six ≡ 6
    pub all : list_all is_ascii_digit six ≡ true
    pub value : digits_value 10 six ≡ r

  six_of : (ds : List ℕ) → length ds ≡ 7 → list_all is_ascii_digit ds ≡ true → digits_value 10 ds ≡ 1000000 + r → IsSix (drop 1 ds)
  six_of [] long all is = absurd (omega arith)
  six_of (d ∷ ds) long all is =
      let digit : IsInRange 48 57 d = digit_at (d ∷ ds) 0 all (omega arith) in
      let others : list_all is_ascii_digit ds ≡ true = grind (arith, nat_tests) in
      let six : length ds ≡ 6 = omega arith in
      let whole : digits_value 10 (d ∷ ds) ≡ (d - 48) * 10 ^ length ds + digits_value 10 ds = value_first d ds digit in
      let power : 10 ^ length ds ≡ 1000000 = ap (λ n. 10 ^ n) six in
      let below_all : digits_value 10 ds < 10 ^ 6 = digits_value_short own ds 6 others (omega arith) in
      let apart : 1000000 + r ≡ (d - 48) * 1000000 + digits_value 10 ds = sym is ∙ (whole ∙ ap (λ p. (d - 48) * p + digits_value 10 ds) power) in
      record { long = six; all = others; value = omega arith }

  pub six_decimals_are : IsSix (six_decimals r)
  six_decimals_are = six_of (decimal (1000000 + r)) seven digits value

-- what stands behind a point is less than a unit
pub below_one : (part : List ℕ) → list_all is_ascii_digit part ≡ true → value_of_decimals part < 1000000
unfolding value_of_decimals
below_one part all =
    let padded : list_all is_ascii_digit (part ++ replicate 6 48) ≡ true = list_all-append is_ascii_digit part (replicate 6 48) ∙ ap (λ b. b && true) all in
    digits_value_short own (take 6 (part ++ replicate 6 48)) 6 (digits_take 6 (part ++ replicate 6 48) padded) (omega (arith, length-take 6 (part ++ replicate 6 48)))
