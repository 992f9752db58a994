-- Bits of words.
use Rattle.std.proofs.Common.{ℕ, ◌+◌, ◌-◌, ◌<◌, ◌≡◌, ◌≢◌, ◌^◌, Bool, true, false, not, ◌&&◌, ◌||◌, cond, eqb, refl, ap, arith}
use Rattle.std.specs.Prelude.{bit_and, bit_or}
use Rattle.std.specs.Int.{bit_at, bit_not, w64}
use Rattle.std.proofs.lemmas.Nat.{or_lt, pow_below}
use Rattle.std.proofs.lemmas.Nat.Bits.{bit_at_and, bit_at_or, bit_at_not, bit_at_ones, bit_at_above, bit_at-pow_same, bit_at-pow_other, bit_at-zero, bit_at-lt}
use Rattle.std.proofs.lemmas.Bool.Decides.{nat_tests}
use Rattle.lw_facts.proofs.Numbers.{min_bit, max_bit, not_bit}
use Rattle.lw_genlib.specs.Words.{bit}
use Rattle.lw_net.specs.Signs.{met_by}
use Rattle.lw_report.specs.Marking.{marked}
use Rattle.lw_report.specs.Vectors.{is_one}

-- Bits of what operators give.

pub bit_and_is : (k a b : ℕ) → bit k (bit_and a b) ≡ (bit k a && bit k b)
bit_and_is k a b = min_bit (bit_at a k) (bit_at b k) _ (bit_at_and a b k) (bit_at-lt a k) (bit_at-lt b k)

pub bit_or_is : (k a b : ℕ) → bit k (bit_or a b) ≡ (bit k a || bit k b)
bit_or_is k a b = max_bit (bit_at a k) (bit_at b k) _ (bit_at_or a b k) (bit_at-lt a k) (bit_at-lt b k)

pub bit_not_is : (k a : ℕ) → k < 64 → a < 2 ^ 64 → bit k (bit_not w64 a) ≡ not (bit k a)
bit_not_is k a lt small = not_bit (bit_at a k) _ (bit_at_not w64 a k small lt) (bit_at-lt a k)

pub bit_ones : (k : ℕ) → k < 64 → bit k (2 ^ 64 - 1) ≡ true
bit_ones k lt = ap (λ x. eqb x 1) (bit_at_ones 64 k lt)

pub bit_zero : (k : ℕ) → bit k 0 ≡ false
bit_zero k = ap (λ x. eqb x 1) (bit_at-zero k)

-- A bit that is set.

same_by : (k w : ℕ) (b : Bool) → w < 2 ^ k → bit k (cond b (bit_or w (2 ^ k)) w) ≡ b
same_by k w true low =
    let one : bit_at (bit_or w (2 ^ k)) k ≡ 1 = omega (arith, bit_at_or w (2 ^ k) k, bit_at-pow_same k, bit_at-lt w k) in
    ap (λ x. eqb x 1) one
same_by k w false low = ap (λ x. eqb x 1) (bit_at_above w k k low (omega arith))

other_by : (k j w : ℕ) (b : Bool) → j ≢ k → bit j (cond b (bit_or w (2 ^ k)) w) ≡ bit j w
other_by k j w true apart =
    let same : bit_at (bit_or w (2 ^ k)) j ≡ bit_at w j = omega (arith, bit_at_or w (2 ^ k) j, bit_at-pow_other k j apart) in
    ap (λ x. eqb x 1) same
other_by k j w false apart = refl

low_by : (k w : ℕ) (b : Bool) → w < 2 ^ k → cond b (bit_or w (2 ^ k)) w < 2 ^ (k + 1)
low_by k w true low =
    let more : 2 ^ k < 2 ^ (k + 1) = pow_below k (k + 1) (omega arith) in
    or_lt (k + 1) w (2 ^ k) (omega (arith, low, more)) more
low_by k w false low =
    let more : 2 ^ k < 2 ^ (k + 1) = pow_below k (k + 1) (omega arith) in
    omega (arith, low, more)

-- the bit of the digit
pub bit_marked : (k w d : ℕ) → w < 2 ^ k → bit k (marked k w d) ≡ is_one d
bit_marked k w d low = same_by k w (is_one d) low

-- the other bits stay
pub bit_marked-other : (k j w d : ℕ) → j ≢ k → bit j (marked k w d) ≡ bit j w
bit_marked-other k j w d apart = other_by k j w (is_one d) apart

pub marked_low : (k w d : ℕ) → w < 2 ^ k → marked k w d < 2 ^ (k + 1)
marked_low k w d low = low_by k w (is_one d) low

-- a column that asks for nothing
pub met_default : (sign : ℕ) (v : Bool) → sign ≢ 49 → sign ≢ 48 → met_by sign v ≡ true
met_default sign v not_one not_zero = grind (arith, nat_tests)
