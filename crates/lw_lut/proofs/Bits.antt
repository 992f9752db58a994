-- Bits of packed numbers, and the numbers that values spell.
use Rattle.std.proofs.Common.{◌≡◌, ℕ, zero, suc, ◌+◌, ◌-◌, ◌*◌, ◌/◌, ◌%◌, ◌^◌, ◌<◌, ◌≤◌, ◌==◌, Bool, true, false, List, [], ◌∷◌, ◌++◌, length, if◌then◌else◌, refl, ap, ◌∙◌, arith, length-append}
use Rattle.std.proofs.lemmas.Nat.Bits.{bit_at-suc, bit_at_lowest}
use Rattle.std.proofs.lemmas.Nat.{pow-add}
use Rattle.std.proofs.Math.Nat.{pow-le-pow_right}
use Rattle.lw_lut.specs.Cuts.{spelled, is_set}
use Rattle.lw_lut.specs.Packed.{packed}

-- one bit as a number
pub digit : Bool → ℕ
digit true = 1
digit false = 0

digit_is : (b : Bool) → (if b then 1 else 0) ≡ digit b
unfolding digit
digit_is true = refl
digit_is false = refl

digit_set : (b : Bool) (n : ℕ) → ((digit b + 2 * n) % 2 == 1) ≡ b
unfolding digit
digit_set true n = let e : (1 + 2 * n) % 2 ≡ 1 = omega arith in rw e refl
digit_set false n = let e : (0 + 2 * n) % 2 ≡ 0 = omega arith in rw e refl

digit_half : (b : Bool) (n : ℕ) → (digit b + 2 * n) / 2 ≡ n
unfolding digit
digit_half true n = omega arith
digit_half false n = omega arith

digit_low : (b : Bool) → digit b < 2
unfolding digit
digit_low true = omega arith
digit_low false = omega arith

pub packed_next : (f : ℕ → Bool) (place count : ℕ) → packed f place (suc count) ≡ digit (f place) + 2 * packed f (suc place) count
packed_next f place count = ap (λ d. d + 2 * packed f (suc place) count) (digit_is (f place))

pub packed_set : (f : ℕ → Bool) (place count i : ℕ) → i < count → is_set (packed f place count) i ≡ f (place + i)
packed_set f place zero i lt = absurd (omega arith)
packed_set f place (suc count) zero lt =
    let at : place + 0 ≡ place = omega arith in
    rw (packed_next f place count, bit_at_lowest (digit (f place) + 2 * packed f (suc place) count), at) (digit_set (f place) (packed f (suc place) count))
packed_set f place (suc count) (suc i) lt =
    let at : place + suc i ≡ suc place + i = omega arith in
    rw (packed_next f place count, bit_at-suc (digit (f place) + 2 * packed f (suc place) count) i, digit_half (f place) (packed f (suc place) count), at) (packed_set f (suc place) count i (omega arith))

pub packed_low : (f : ℕ → Bool) (place count : ℕ) → packed f place count < 2 ^ count
packed_low f place zero = omega arith
packed_low f place (suc count) =
    let low = packed_low f (suc place) count in
    let d = digit_low (f place) in
    let p : 2 ^ suc count ≡ 2 * 2 ^ count = omega arith in
    rw (packed_next f place count, p) (omega arith)

-- Spelled numbers.

choice_low : (b : Bool) (n : ℕ) → (if b then n else 0) ≤ n
choice_low true n = omega arith
choice_low false n = omega arith

choice_times : (b : Bool) (n k : ℕ) → (if b then n * k else 0) ≡ (if b then n else 0) * k
choice_times true n k = refl
choice_times false n k = omega arith

pub spelled_low : (v : ℕ → Bool) (cs : List ℕ) → spelled v cs < 2 ^ length cs
spelled_low v [] = omega arith
spelled_low v (c ∷ cs) =
    let low = spelled_low v cs in
    let head = choice_low (v c) (2 ^ length cs) in
    let p : 2 ^ suc (length cs) ≡ 2 * 2 ^ length cs = omega arith in
    rw p (omega arith)

spelled_step : (v : ℕ → Bool) (x : ℕ) (xs ys : List ℕ) → (if v x then 2 ^ length (xs ++ ys) else 0) ≡ (if v x then 2 ^ length xs else 0) * 2 ^ length ys
spelled_step v x xs ys =
    let n : 2 ^ length (xs ++ ys) ≡ 2 ^ length xs * 2 ^ length ys = ap (λ k. 2 ^ k) (length-append xs ys) ∙ pow-add 2 (length xs) (length ys) in
    ap (λ k. if v x then k else 0) n ∙ choice_times (v x) (2 ^ length xs) (2 ^ length ys)

pub spelled_join : (v : ℕ → Bool) (xs ys : List ℕ) → spelled v (xs ++ ys) ≡ spelled v xs * 2 ^ length ys + spelled v ys
spelled_join v [] ys = omega arith
spelled_join v (x ∷ xs) ys =
    let ih = spelled_join v xs ys in
    let step = spelled_step v x xs ys in
    rw (step, ih) (distribute (if v x then 2 ^ length xs else 0) (spelled v xs) (2 ^ length ys) (spelled v ys))
  where
    distribute : (a b k r : ℕ) → a * k + (b * k + r) ≡ (a + b) * k + r
    distribute a b k r = grind arith

pub packed_fits : (f : ℕ → Bool) (place count : ℕ) → count < 64 → packed f place count < 2 ^ 63
packed_fits f place count lt =
    let low = packed_low f place count in
    let up : 2 ^ count ≤ 2 ^ 63 = pow-le-pow_right {n = 2} (omega arith) {i = count} {j = 63} (omega arith) in
    omega (arith, low, up)

pub few_numbers : (n : ℕ) → n ≤ 6 → 2 ^ n ≤ 64
few_numbers n le = pow-le-pow_right {n = 2} (omega arith) {i = n} {j = 6} le

-- one more value before those that are packed
pub packed_before : (f : ℕ → Bool) (place all bits : ℕ) → 0 < place → place ≤ all → bits ≡ packed f place (all - place) → (value : Bool) → value ≡ f (place - 1) → (if value then 1 else 0) + 2 * bits ≡ packed f (place - 1) (all - (place - 1))
packed_before f place all bits some within is value same =
    let at : suc (place - 1) ≡ place = omega arith in
    let more : all - (place - 1) ≡ suc (all - place) = omega arith in
    rw (more, at, is, same) refl
