-- The starts that arrival lines say are below a million units.
use Rattle.std.proofs.Common.{ℕ, zero, suc, ◌+◌, ◌*◌, ◌<◌, ◌≡◌, max, Bool, true, false, not, ◌&&◌, List, [], ◌∷◌, ◌++◌, length, map, cond, reverse, Option, Some, None, Result, Ok, Err, if◌then◌else◌, refl, sym, subst, arith}
use Rattle.std.specs.Prelude.{All, nat_le, nat_lt, replicate, filter, unwrap_or}
use Rattle.std.specs.List.{AllByRecursion, list_all}
use Rattle.std.specs.Char.{is_ascii_digit}
use Rattle.std.proofs.lemmas.Bool.{leb-false}
use Rattle.std.proofs.lemmas.List.{reverse-append}
use Rattle.std.proofs.lemmas.List.Elements.{All-from_recursion}
use Rattle.lw_fixed.proofs.Six.{below_one}
use Rattle.lw_facts.proofs.Tests.{second_of_three}
use Rattle.lw_fixed.specs.declared.micro.Micro.{Micro}
use Rattle.lw_fixed.specs.declared.fault.DecimalFault.{DecimalFault}
use Rattle.lw_fixed.specs.declared.fault.DecimalFault.TheVariants.{Shape, Large, Fine, Negative}
use Rattle.lw_fixed.specs.Decimals.{decimal_of, is_decimal, whole_part, decimals, units_of, is_finer, is_negative, millionths_of}
use Rattle.lw_frame.specs.Starts.{Arrival, start_at, start_said, is_named, is_for_all, first_start, last_start, at_once, start_of, starts_of, IsEarly}

-- Decimals

pub decimal_below : (text : List ℕ) (units : ℕ) (m : Micro) → decimal_of text units ≡ Ok m → m.0 < units * 1000000
unfolding decimal_of
decimal_below text units m e = by_tests (is_decimal text) (nat_le units (units_of text)) (is_finer (decimals text)) (is_negative text && nat_lt 0 (millionths_of text)) refl refl e
  where
    by_tests : (a b c d : Bool) → is_decimal text ≡ a → nat_le units (units_of text) ≡ b → ◌≡◌ {A = Result Micro DecimalFault} (if not a then Err Shape else (if b then Err Large else (if c then Err Fine else (if d then Err Negative else Ok (record { 0 = millionths_of text }))))) (Ok m) → m.0 < units * 1000000
    by_tests false b c d s l e = cc
    by_tests true true c d s l e = cc
    by_tests true false true d s l e = cc
    by_tests true false false true s l e = cc
    by_tests true false false false s l e =
        let same : ◌≡◌ {A = Micro} (record { 0 = millionths_of text }) m = cc in
        let whole : units_of text < units = leb-false units (units_of text) l in
        let part = below_one (decimals text) (second_of_three (list_all is_ascii_digit (whole_part text)) (list_all is_ascii_digit (decimals text)) (nat_lt 0 (length (whole_part text) + length (decimals text))) s) in
        subst (λ (k : Micro). k.0 < units * 1000000) same (omega arith)

pub said_early : (rise fall : List ℕ) (m : Micro) → start_said rise fall ≡ Ok m → IsEarly m
unfolding start_said
said_early rise fall m e = by_times (decimal_of rise 1000000) (decimal_of fall 1000000) refl refl e
  where
    by_times : (r f : Result Micro DecimalFault) → decimal_of rise 1000000 ≡ r → decimal_of fall 1000000 ≡ f → start_at r f ≡ Ok m → IsEarly m
    by_times (Ok x) (Ok y) a b e =
        let p = decimal_below rise 1000000 x a in
        let q = decimal_below fall 1000000 y b in
        let same : ◌≡◌ {A = Micro} (record { 0 = max x.0 y.0 }) m = cc in
        subst IsEarly same (omega arith)
    by_times (Ok x) (Err f) a b e = cc
    by_times (Err f) (Ok y) a b e = cc
    by_times (Err f) (Err h) a b e = cc

-- Starts

abbrev pub AreEarly : List Arrival → Type 0
AreEarly arrivals = AllByRecursion (λ (a : Arrival). IsEarly a.start) arrivals

-- the first of some early starts
abbrev EarlyOption : Option Micro → Type 0
EarlyOption o = (m : Micro) → o ≡ Some m → IsEarly m

pub joined_early : (xs ys : List Arrival) → AreEarly xs → AreEarly ys → AreEarly (xs ++ ys)
joined_early [] ys a b = b
joined_early (x ∷ xs) ys a b = (a.0, joined_early xs ys a.1 b)

reversed_early : (xs : List Arrival) → AreEarly xs → AreEarly (reverse xs)
reversed_early [] a = tt
reversed_early (x ∷ xs) a = subst AreEarly (sym (reverse-append (x ∷ []) xs)) (joined_early (reverse xs) (x ∷ []) (reversed_early xs a.1) (a.0, tt))

filtered_early : (p : Arrival → Bool) (xs : List Arrival) → AreEarly xs → AreEarly (filter p xs)
filtered_early p [] a = tt
filtered_early p (x ∷ xs) a = by_test (p x) (filtered_early p xs a.1)
  where
    by_test : (b : Bool) → AreEarly (filter p xs) → AreEarly (cond b (x ∷ filter p xs) (filter p xs))
    by_test true rest = (a.0, rest)
    by_test false rest = rest

first_early : (xs : List Arrival) → AreEarly xs → EarlyOption (first_start xs)
first_early [] a m e = cc
first_early (x ∷ xs) a m e = let same : x.start ≡ m = cc in subst IsEarly same a.0

last_early : (is : Option (List ℕ) → Bool) (xs : List Arrival) → AreEarly xs → EarlyOption (last_start is xs)
last_early is xs a = first_early (reverse (filter (λ (x : Arrival). is x.named) xs)) (reversed_early (filter (λ (x : Arrival). is x.named) xs) (filtered_early (λ (x : Arrival). is x.named) xs a))

else_early : (o : Option Micro) (m : Micro) → EarlyOption o → IsEarly m → IsEarly (unwrap_or o m)
else_early None m early is = is
else_early (Some s) m early is = early s refl

at_once_early : IsEarly at_once
at_once_early = omega arith

start_early : (xs : List Arrival) (name : List ℕ) → AreEarly xs → IsEarly (start_of xs name)
start_early xs name a = else_early (last_start (is_named name) xs) (unwrap_or (last_start is_for_all xs) at_once) (last_early (is_named name) xs a) (else_early (last_start is_for_all xs) at_once (last_early is_for_all xs a) at_once_early)

zeros_early : (n : ℕ) → AllByRecursion IsEarly (replicate n at_once)
zeros_early zero = tt
zeros_early (suc n) = (at_once_early, zeros_early n)

both_early : (names : List (List ℕ)) (xs : List Arrival) (n : ℕ) → AreEarly xs → AllByRecursion IsEarly (map (start_of xs) names ++ replicate n at_once)
both_early [] xs n a = zeros_early n
both_early (name ∷ names) xs n a = (start_early xs name a, both_early names xs n a)

-- the starts that early lines say are early
pub starts_early : (xs : List Arrival) (names : List (List ℕ)) (n : ℕ) → AreEarly xs → All IsEarly (starts_of xs names n)
starts_early xs names n a = All-from_recursion IsEarly (starts_of xs names n) (both_early names xs n a)
