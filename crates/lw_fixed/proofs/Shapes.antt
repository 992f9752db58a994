-- The parts of a text that is a whole part and decimals.
use Rattle.std.proofs.Common.{ℕ, ◌+◌, ◌<◌, ◌≡◌, true, false, not, cond, List, [], ◌∷◌, ◌++◌, length, take, drop, refl, sym, ap, ◌∙◌, arith, add-one}
use Rattle.std.specs.List.{list_all, position_or_len, before_first, after_first}
use Rattle.std.specs.Char.{is_ascii_digit}
use Rattle.std.proofs.lemmas.List.{take_at, take_all, drop_all}
use Rattle.std.proofs.lemmas.Bool.Decides.{nat_tests}
use Rattle.lw_facts.proofs.Lists.{drop_point}
use Rattle.lw_fixed.specs.Decimals.{is_point, is_sign, without_sign, whole_part, decimals, is_negative}
use Rattle.lw_fixed.specs.Printed.{with_decimals}

-- a digit is neither a point nor a sign
pub digit_apart : (d : ℕ) → is_ascii_digit d ≡ true → (is_point d ≡ false) × (is_sign d ≡ false)
digit_apart d digit = (grind (arith, nat_tests), grind (arith, nat_tests))

first_of : (d : ℕ) (ds : List ℕ) → list_all is_ascii_digit (d ∷ ds) ≡ true → (is_ascii_digit d ≡ true) × (list_all is_ascii_digit ds ≡ true)
first_of d ds all = (grind (arith, nat_tests), grind (arith, nat_tests))

-- the first point behind digits
point_behind : (ds rest : List ℕ) → list_all is_ascii_digit ds ≡ true → position_or_len is_point (ds ++ 46 ∷ rest) ≡ length ds
point_behind [] rest all = refl
point_behind (d ∷ ds) rest all =
    let parts = first_of d ds all in
    let apart = (digit_apart d parts.0).0 in
    let others : position_or_len is_point (ds ++ 46 ∷ rest) ≡ length ds = point_behind ds rest parts.1 in
    ap (λ b. cond (not b) (1 + position_or_len is_point (ds ++ 46 ∷ rest)) 0) apart ∙ omega arith

no_point : (ds : List ℕ) → list_all is_ascii_digit ds ≡ true → position_or_len is_point ds ≡ length ds
no_point [] all = refl
no_point (d ∷ ds) all =
    let parts = first_of d ds all in
    let apart = (digit_apart d parts.0).0 in
    let others : position_or_len is_point ds ≡ length ds = no_point ds parts.1 in
    ap (λ b. cond (not b) (1 + position_or_len is_point ds) 0) apart ∙ omega arith

pub signless : (d : ℕ) (rest : List ℕ) → is_ascii_digit d ≡ true → without_sign (d ∷ rest) ≡ d ∷ rest
signless d rest digit = ap (λ b. cond b rest (d ∷ rest)) (digit_apart d digit).1

pub behind_point : (whole rest : List ℕ) → drop (length whole + 1) (whole ++ 46 ∷ rest) ≡ rest
behind_point whole rest = rw add-one (drop_point whole rest)

around : (bytes whole part : List ℕ) → list_all is_ascii_digit whole ≡ true → bytes ≡ with_decimals whole part → (before_first is_point bytes ≡ whole) × (after_first is_point bytes ≡ part)
around bytes whole [] all e =
    let none : position_or_len is_point whole ≡ length whole = no_point whole all in (
      ap (before_first is_point) e ∙ (ap (λ n. take n whole) none ∙ take_all (length whole) whole (omega arith)),
      ap (after_first is_point) e ∙ drop_all _ whole (omega arith),
    )
around bytes whole (d ∷ ds) all e =
    let place : position_or_len is_point (whole ++ 46 ∷ (d ∷ ds)) ≡ length whole = point_behind whole (d ∷ ds) all in (
      ap (before_first is_point) e ∙ (ap (λ n. take n (whole ++ 46 ∷ (d ∷ ds))) place ∙ take_at whole (46 ∷ (d ∷ ds)) (length whole) refl),
      ap (after_first is_point) e ∙ (ap (λ n. drop (n + 1) (whole ++ 46 ∷ (d ∷ ds))) place ∙ behind_point whole (d ∷ ds)),
    )

-- a digit stands first
starts_with_digit : (d : ℕ) (ds part : List ℕ) → (rest : List ℕ) × (with_decimals (d ∷ ds) part ≡ d ∷ rest)
starts_with_digit d ds [] = (ds, refl)
starts_with_digit d ds (e ∷ es) = (ds ++ 46 ∷ (e ∷ es), refl)

pub record HasParts (text whole part : List ℕ) : Type 0 where
  pub whole_is : whole ≡ whole_part text
  pub part_is : part ≡ decimals text
  pub not_negative : is_negative text ≡ false

pub parts_are : (whole part : List ℕ) → list_all is_ascii_digit whole ≡ true → 0 < length whole → HasParts (with_decimals whole part) whole part
parts_are [] part all some = absurd (omega arith)
parts_are (d ∷ ds) part all some =
    let first = starts_with_digit d ds part in
    let digit = (first_of d ds all).0 in
    let same : without_sign (with_decimals (d ∷ ds) part) ≡ with_decimals (d ∷ ds) part = ap without_sign first.1 ∙ (signless d first.0 digit ∙ sym first.1) in
    let both = around _ (d ∷ ds) part all same in
    record { whole_is = sym both.0; part_is = sym both.1; not_negative = ap is_negative first.1 ∙ grind (arith, nat_tests) }
