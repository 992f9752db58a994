-- The printed text of a number: what it is read as, its shape, and that no other text has this shape.
use Rattle.std.proofs.Common.{ℕ, ◌+◌, ◌-◌, ◌*◌, ◌/◌, ◌%◌, ◌^◌, ◌<◌, ◌≤◌, ◌≡◌, ◌≢◌, Bool, true, false, ◌&&◌, nat_lt, List, ◌∷◌, ◌++◌, length, take, drop, get_or, replicate, refl, sym, ap, ap₂, ◌∙◌, subst, arith, zero, suc, eqb, append_assoc, length-take, length-drop, Ok, Err, cond, not, leb}
use Rattle.std.specs.Prelude.{decimal}
use Rattle.std.specs.List.{list_all, list_any, suffix_len}
use Rattle.std.specs.Char.{is_ascii_digit}
use Rattle.std.specs.Str.Parse.{digits_value}
use Rattle.std.proofs.lemmas.Bool.{eqb-false, eq-eqb, ne_eqb, leb-false}
use Rattle.std.proofs.lemmas.Bool.Decides.{nat_tests}
use Rattle.std.proofs.lemmas.Str.Parse.{digits_value_short}
use Rattle.std.proofs.lemmas.Fmt.{digits_decimal, digits_value-decimal, decimal-digits_value, decimal_nonempty, decimal_digit, first_decimal}
use Rattle.std.proofs.lemmas.List.{take-append-drop, take_at, drop_all, replicate-append-replicate, get_or-take, length-take-le, length-replicate, length-append, get_or-drop, get_or-replicate, get_or-append_right, get_or_append_left}
use Rattle.std.proofs.lemmas.List.Sums.{suffix_len-le-length, suffix_len_is}
use Rattle.std.proofs.lemmas.List.Folds.{list_any_at}
use Rattle.lw_facts.proofs.Lists.{digits_take}
use Rattle.lw_fixed.specs.declared.micro.Micro.{Micro}
use Rattle.lw_fixed.specs.declared.fault.DecimalFault.TheVariants.{Shape, Large, Fine, Negative}
use Rattle.lw_fixed.specs.Decimals.{decimal_of, is_decimal, has_digits, is_finer, is_negative, value_of_decimals, units_of, decimals, millionths_of}
use Rattle.lw_fixed.specs.Printed.{decimal_text, six_decimals, without_zeros, with_decimals, IsShortest}
use Rattle.lw_fixed.proofs.Zeros.{dropped_zeros, stops_before}
use Rattle.lw_fixed.proofs.Shapes.{HasParts, parts_are}
use Rattle.lw_fixed.proofs.Six.{own, six_decimals_are, value_first}
use Rattle.lw_fixed.proofs.Values.{padded_digits}
use Rattle.lw_fixed.proofs.Verdicts.{is_read}

have_digits : (whole part : List ℕ) → list_all is_ascii_digit whole ≡ true → list_all is_ascii_digit part ≡ true → 0 < length whole → has_digits whole part ≡ true
have_digits whole part all also some = grind (arith, nat_tests)

-- the zeros at the end come back
pub padded : (six : List ℕ) → length six ≡ 6 → take 6 (without_zeros six ++ replicate 6 48) ≡ six
padded six long =
    let s : ℕ = suffix_len (λ d. eqb d 48) six in
    let most : suffix_len (λ d. eqb d 48) six ≤ length six = suffix_len-le-length (λ d. eqb d 48) six in
    let all_six : s + (6 - s) ≡ 6 = omega arith in
    let zeros : replicate s 48 ++ replicate (6 - s) 48 ≡ replicate 6 48 = replicate-append-replicate s (6 - s) 48 ∙ ap (λ n. replicate n 48) all_six in
    let whole : take (length six - s) six ++ replicate s 48 ≡ six = ap (λ r. take (length six - s) six ++ r) (sym (dropped_zeros six)) ∙ take-append-drop (length six - s) six in
    let all : without_zeros six ++ replicate 6 48 ≡ six ++ replicate (6 - s) 48 =
    ap (λ r. without_zeros six ++ r) (sym zeros) ∙ (sym (append_assoc (without_zeros six) (replicate s 48) (replicate (6 - s) 48)) ∙ ap (λ r. r ++ replicate (6 - s) 48) whole) in
    ap (take 6) all ∙ take_at six (replicate (6 - s) 48) 6 long

module _ (n : ℕ) (fits : n < 2 ^ 64) where
  whole_digits : list_all is_ascii_digit (decimal (n / 1000000)) ≡ true
  whole_digits = digits_decimal own (n / 1000000) (omega arith)

  whole_some : 0 < length (decimal (n / 1000000))
  whole_some = decimal_nonempty (n / 1000000) (omega arith)

  long : length (six_decimals (n % 1000000)) ≡ 6
  long = (six_decimals_are (n % 1000000) (omega arith)).long

  part_digits : list_all is_ascii_digit (without_zeros (six_decimals (n % 1000000))) ≡ true
  part_digits = digits_take _ (six_decimals (n % 1000000)) (six_decimals_are (n % 1000000) (omega arith)).all

  part_short : length (without_zeros (six_decimals (n % 1000000))) ≤ 6
  part_short = omega (arith, long, length-take (length (six_decimals (n % 1000000)) - suffix_len (λ d. eqb d 48) (six_decimals (n % 1000000))) (six_decimals (n % 1000000)))

  part_value : n % 1000000 ≡ value_of_decimals (without_zeros (six_decimals (n % 1000000)))
  unfolding value_of_decimals
  part_value = sym (ap (digits_value 10) (padded (six_decimals (n % 1000000)) long) ∙ (six_decimals_are (n % 1000000) (omega arith)).value)

  parts : HasParts (decimal_text n) (decimal (n / 1000000)) (without_zeros (six_decimals (n % 1000000)))
  unfolding decimal_text
  parts = parts_are (decimal (n / 1000000)) (without_zeros (six_decimals (n % 1000000))) whole_digits whole_some

  shape : has_digits (decimal (n / 1000000)) (without_zeros (six_decimals (n % 1000000))) ≡ true
  shape = have_digits (decimal (n / 1000000)) (without_zeros (six_decimals (n % 1000000))) whole_digits part_digits whole_some

  not_finer : is_finer (without_zeros (six_decimals (n % 1000000))) ≡ false
  not_finer = ap (list_any (λ d. not (eqb d 48))) (drop_all 6 (without_zeros (six_decimals (n % 1000000))) part_short)

  pub reads_back : n < 2 ^ 43 * 1000000 → decimal_of (decimal_text n) (2 ^ 43) ≡ Ok (record { 0 = n })
  reads_back below =
      let value : digits_value 10 (decimal (n / 1000000)) ≡ n / 1000000 = digits_value-decimal own (n / 1000000) (omega arith) in
      let read = is_read (decimal_text n) (decimal (n / 1000000)) (without_zeros (six_decimals (n % 1000000))) (2 ^ 43) parts.whole_is parts.part_is (n / 1000000)
      shape (omega arith) (omega arith) (n % 1000000) not_finer part_value (ap (λ b. b && nat_lt 0 (n / 1000000 * 1000000 + n % 1000000)) parts.not_negative) in
      let same : n / 1000000 * 1000000 + n % 1000000 ≡ n = omega arith in
      sym read ∙ ap (λ m. Ok (record { 0 = m })) same

  leading : (q : ℕ) → q < 2 ^ 64 → get_or (decimal q) 0 0 ≡ 48 → length (decimal q) ≡ 1
  leading zero small is = ap length (decimal_digit 0 (omega arith))
  leading (suc q) small is =
      let first : 48 < get_or (decimal (suc q)) 0 0 = first_decimal (suc q) (omega arith) small in
      absurd (omega arith)

  last_of : (ds : List ℕ) (k : ℕ) → k ≤ length ds → (0 < k → eqb (get_or ds (k - 1) 0) 48 ≡ false) → get_or (take k ds) (length (take k ds) - 1) 0 ≢ 48
  last_of ds zero most other is = absurd (omega arith)
  last_of ds (suc k) most other is =
      let size : length (take (suc k) ds) - 1 ≡ k = omega (arith, length-take-le (suc k) ds most) in
      let there : get_or (take (suc k) ds) k 0 ≡ get_or ds k 0 = get_or-take (suc k) ds k 0 (omega arith) in
      let before : suc k - 1 ≡ k = omega arith in
      eqb-false _ _ (other (omega arith)) (ap (λ i. get_or ds i 0) before ∙ (sym there ∙ (ap (λ i. get_or (take (suc k) ds) i 0) (sym size) ∙ is)))

  pub is_shortest : IsShortest (decimal_text n)
  unfolding decimal_text
  is_shortest = record {
    whole = decimal (n / 1000000);
    part = without_zeros (six_decimals (n % 1000000));
    spelled = refl;
    whole_digits = whole_digits;
    part_digits = part_digits;
    some_digit = whole_some;
    no_leading_zero = leading (n / 1000000) (omega arith);
    no_last_zero = last_of (six_decimals (n % 1000000)) _ (omega arith) (stops_before (λ d. eqb d 48) (six_decimals (n % 1000000)));
  }

-- What a text that is read says.
record IsRead (text : List ℕ) (units n : ℕ) : Type 0 where
  fits : units_of text < units
  fine : is_finer (decimals text) ≡ false
  value : n ≡ millionths_of text

read_cases : (a b c d : Bool) (n : ℕ) (m : Micro) → cond (not a) (Err Shape) (cond b (Err Large) (cond c (Err Fine) (cond d (Err Negative) (Ok (record { 0 = n }))))) ≡ Ok m → (b ≡ false) × (c ≡ false) × (n ≡ m.0)
read_cases false b c d n m is = cc
read_cases true true c d n m is = cc
read_cases true false true d n m is = cc
read_cases true false false true n m is = cc
read_cases true false false false n m is = let same : record { 0 = n } ≡ m = cc in (refl, refl, ap (λ (k : Micro). k.0) same)

read_as : (text : List ℕ) (units : ℕ) (m : Micro) → decimal_of text units ≡ Ok m → IsRead text units m.0
unfolding decimal_of
read_as text units m is =
    let all = read_cases (is_decimal text) (leb units (units_of text)) (is_finer (decimals text)) (is_negative text && nat_lt 0 (millionths_of text)) (millionths_of text) m is in
    record { fits = leb-false _ _ all.0; fine = all.1; value = sym all.2 }

-- decimals that are fine enough and end in no zero are at most six
few_places : (part : List ℕ) → is_finer part ≡ false → get_or part (length part - 1) 0 ≢ 48 → length part ≤ 6
few_places part fine last =
    let long : 6 < length part → ⊥ = λ lt.
    let same : 6 + (length part - 7) ≡ length part - 1 = omega arith in
    let there : get_or (drop 6 part) (length part - 7) 0 ≡ get_or part (length part - 1) 0 = get_or-drop 6 part (length part - 7) 0 ∙ ap (λ i. get_or part i 0) same in
    let other : not (eqb (get_or (drop 6 part) (length part - 7) 0) 48) ≡ true = ap not (ne_eqb _ 48 (λ e. last (sym there ∙ e))) in
    let found : is_finer part ≡ true = list_any_at (λ d. not (eqb d 48)) (drop 6 part) (length part - 7) 0 (omega (arith, length-drop 6 part)) other in
    cc in
    omega arith

-- zeros behind decimals that end in no zero are dropped
unpadded_by : (part : List ℕ) (z : ℕ) → get_or part (length part - 1) 0 ≢ 48 → without_zeros (part ++ replicate z 48) ≡ part
unpadded_by part z last =
    let ys : List ℕ = part ++ replicate z 48 in
    let size : length (part ++ replicate z 48) ≡ length part + z = omega (arith, length-append part (replicate z 48), length-replicate {A = ℕ} z 48) in
    let zeros : suffix_len (λ d. eqb d 48) (part ++ replicate z 48) ≡ length (part ++ replicate z 48) - length part =
    suffix_len_is (λ d. eqb d 48) (part ++ replicate z 48) (length part) 0 (omega arith)
    (λ k le lt. eq-eqb _ 48 (get_or-append_right part (replicate z 48) (length part) k 0 refl le ∙ get_or-replicate z (k - length part) 48 0 (omega arith)))
    (λ some. ne_eqb _ 48 (λ e. last (sym (get_or_append_left part (replicate z 48) 0 (length part - 1) (omega arith)) ∙ e))) in
    let kept : length (part ++ replicate z 48) - suffix_len (λ d. eqb d 48) (part ++ replicate z 48) ≡ length part = omega arith in
    ap (λ k. take k (part ++ replicate z 48)) kept ∙ take_at part (replicate z 48) (length part) refl

unpadded : (part : List ℕ) → length part ≤ 6 → get_or part (length part - 1) 0 ≢ 48 → without_zeros (take 6 (part ++ replicate 6 48)) ≡ part
unpadded part few last =
    let n : ℕ = length part in
    let all_six : 6 - n + n ≡ 6 = omega arith in
    let zeros : replicate (6 - n) 48 ++ replicate n 48 ≡ replicate 6 48 = replicate-append-replicate (6 - n) n 48 ∙ ap (λ k. replicate k 48) all_six in
    let size : length (part ++ replicate (6 - n) 48) ≡ 6 = omega (arith, length-append part (replicate (6 - n) 48), length-replicate {A = ℕ} (6 - n) 48) in
    let first : take 6 (part ++ replicate 6 48) ≡ part ++ replicate (6 - n) 48 =
    ap (λ r. take 6 (part ++ r)) (sym zeros) ∙ (ap (take 6) (sym (append_assoc part (replicate (6 - n) 48) (replicate n 48))) ∙ take_at (part ++ replicate (6 - n) 48) (replicate n 48) 6 size) in
    ap without_zeros first ∙ unpadded_by part (6 - n) last

-- six digits are the six decimals of their value
six_back : (six : List ℕ) → length six ≡ 6 → list_all is_ascii_digit six ≡ true → (digits_value 10 six < 1000000) × (six_decimals (digits_value 10 six) ≡ six)
six_back six long all =
    let power : 10 ^ length six ≡ 1000000 = ap (λ n. 10 ^ n) long in
    let below : digits_value 10 six < 10 ^ 6 = digits_value_short own six 6 all (omega arith) in
    let value : digits_value 10 (49 ∷ six) ≡ 1000000 + digits_value 10 six = value_first 49 six (omega arith, omega arith) ∙ ap (λ p. (49 - 48) * p + digits_value 10 six) power in
    let text : decimal (digits_value 10 (49 ∷ six)) ≡ 49 ∷ six = decimal-digits_value own (49 ∷ six) all (omega arith) (λ e. absurd (omega (arith, e))) (omega arith) in
    (below, ap (drop 1) (ap decimal (sym value) ∙ text))

module _ (m whole part : ℕ) where
  quotient : m ≡ 1000000 * whole + part → part < 1000000 → (m / 1000000 ≡ whole) × (m % 1000000 ≡ part)
  quotient is lt = (omega arith, omega arith)

pub shortest_is_text : (text : List ℕ) (m : Micro) → IsShortest text → decimal_of text (2 ^ 43) ≡ Ok m → text ≡ decimal_text m.0
unfolding decimal_text value_of_decimals
shortest_is_text text m s is =
    let parts : HasParts text s.whole s.part = subst (λ t. HasParts t s.whole s.part) (sym s.spelled) (parts_are s.whole s.part s.whole_digits s.some_digit) in
    let read = read_as text (2 ^ 43) m is in
    let units : digits_value 10 s.whole < 2 ^ 43 = subst (λ ds. digits_value 10 ds < 2 ^ 43) (sym parts.whole_is) read.fits in
    let fine : is_finer s.part ≡ false = ap is_finer parts.part_is ∙ read.fine in
    let few : length s.part ≤ 6 = few_places s.part fine s.no_last_zero in
    let six : List ℕ = take 6 (s.part ++ replicate 6 48) in
    let long : length (take 6 (s.part ++ replicate 6 48)) ≡ 6 = length-take-le 6 (s.part ++ replicate 6 48) (omega (arith, length-append s.part (replicate 6 48))) in
    let back = six_back (take 6 (s.part ++ replicate 6 48)) long (digits_take 6 (s.part ++ replicate 6 48) (padded_digits s.part s.part_digits)) in
    let value : m.0 ≡ 1000000 * digits_value 10 s.whole + digits_value 10 (take 6 (s.part ++ replicate 6 48)) =
    read.value ∙ ap₂ (λ w p. 1000000 * digits_value 10 w + digits_value 10 (take 6 (p ++ replicate 6 48))) (sym parts.whole_is) (sym parts.part_is) in
    let divided = quotient m.0 (digits_value 10 s.whole) (digits_value 10 (take 6 (s.part ++ replicate 6 48))) value back.0 in
    let whole : decimal (m.0 / 1000000) ≡ s.whole = ap decimal divided.0 ∙ decimal-digits_value own s.whole s.whole_digits s.some_digit s.no_leading_zero (omega arith) in
    let part : without_zeros (six_decimals (m.0 % 1000000)) ≡ s.part = ap (λ r. without_zeros (six_decimals r)) divided.1 ∙ (ap without_zeros back.1 ∙ unpadded s.part few s.no_last_zero) in
    s.spelled ∙ ap₂ with_decimals (sym whole) (sym part)
