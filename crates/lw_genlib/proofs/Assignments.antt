-- Assignments by numbers: what the words of pins say, and that each assignment has a number.
use Rattle.std.proofs.Common.{ℕ, zero, suc, ◌+◌, ◌-◌, ◌*◌, ◌/◌, ◌%◌, ◌<◌, ◌≤◌, ◌≡◌, ◌^◌, Bool, true, false, not, ◌&&◌, ◌||◌, cond, eqb, List, [], ◌∷◌, take, get_or, refl, sym, ap, ap₂, ◌∙◌, subst, arith, inl, inr, pow-suc}
use native.Mathlib.Decide.{dec_lt}
use Rattle.std.specs.Prelude.{slice_index, bit_and}
use Rattle.std.specs.Int.{bit_at}
use Rattle.std.proofs.lemmas.List.{get_or-take}
use Rattle.std.proofs.lemmas.Nat.{pow-add}
use Rattle.std.proofs.Math.Nat.{pow-le-pow_right}
use Rattle.std.proofs.lemmas.Nat.Bits.{bit_at_cat_low, bit_at_cat_high, bit_at-lt, shr_and_one, same_from_bits_below}
use Rattle.std.proofs.lemmas.Bool.Decides.{nat_tests}
use Rattle.std.proofs.lemmas.Bool.{and_parts}
use Rattle.lw_laws.specs.Expressions.{Expr, Exprs, expr_value, all_true, some_true, MentionsPin, SomeMentionsPin}
use Rattle.lw_laws.specs.Expressions.Expr.{expr_const, expr_pin, expr_not, expr_and, expr_or}
use Rattle.lw_laws.specs.Expressions.Exprs.{no_exprs, more_exprs}
use Rattle.lw_genlib.specs.Cells.{HaveOneTruth}
use Rattle.lw_genlib.specs.Words.{bit, pins_at, assigned, AgreeIn, block_count}

-- Values that pins which stand in it share.
module _ (y z : ℕ → Bool) where
  mutual
    pub value_by_pins : (e : Expr) → ((k : ℕ) → MentionsPin e k → y k ≡ z k) → expr_value y e ≡ expr_value z e
    value_by_pins (expr_const b) same = refl
    value_by_pins (expr_pin k) same = same k refl
    value_by_pins (expr_not e) same = ap not (value_by_pins e same)
    value_by_pins (expr_and es) same = all_by_pins es same
    value_by_pins (expr_or es) same = some_by_pins es same

    all_by_pins : (es : Exprs) → ((k : ℕ) → SomeMentionsPin es k → y k ≡ z k) → all_true y es ≡ all_true z es
    all_by_pins no_exprs same = refl
    all_by_pins (more_exprs e es) same = ap₂ (λ a b. a && b) (value_by_pins e (λ k m. same k (inl m))) (all_by_pins es (λ k m. same k (inr m)))

    some_by_pins : (es : Exprs) → ((k : ℕ) → SomeMentionsPin es k → y k ≡ z k) → some_true y es ≡ some_true z es
    some_by_pins no_exprs same = refl
    some_by_pins (more_exprs e es) same = ap₂ (λ a b. a || b) (value_by_pins e (λ k m. same k (inl m))) (some_by_pins es (λ k m. same k (inr m)))

-- A table that is right, by its computation.
abbrev all_below : (ℕ → Bool) → ℕ → Bool
all_below p zero = true
all_below p (suc n) = p n && all_below p n

below_passes : (p : ℕ → Bool) (n k : ℕ) → all_below p n ≡ true → k < n → p k ≡ true
below_passes p zero k all lt = absurd (omega arith)
below_passes p (suc n) k all lt = at_place (dec_lt k n) (below_passes p n k (and_parts (p n) (all_below p n) all).1)
  where
    at_place : Dec (k < n) → (k < n → p k ≡ true) → p k ≡ true
    at_place (yes less) earlier = earlier less
    at_place (no more) earlier = let same : k ≡ n = omega arith in ap p same ∙ (and_parts (p n) (all_below p n) all).0

abbrev alike : Bool → Bool → Bool
alike true b = b
alike false b = not b

same_from_alike : (a b : Bool) → alike a b ≡ true → a ≡ b
same_from_alike true true e = refl
same_from_alike true false e = cc
same_from_alike false true e = cc
same_from_alike false false e = refl

abbrev low_words : List ℕ
low_words = 0xaaaa_aaaa_aaaa_aaaa ∷ 0xcccc_cccc_cccc_cccc ∷ 0xf0f0_f0f0_f0f0_f0f0 ∷ 0xff00_ff00_ff00_ff00 ∷ 0xffff_0000_ffff_0000 ∷ 0xffff_ffff_0000_0000 ∷ []

low_table : all_below (λ p. all_below (λ k. alike (bit k (get_or low_words p 0)) (bit p k)) 64) 6 ≡ true
low_table = refl

-- the word of a low pin
pub low_pin : (block p : ℕ) → p < 6 → (k : ℕ) → k < 64 → bit k (get_or low_words p 0) ≡ bit p (block * 64 + k)
low_pin block p lt k within =
    let row : all_below (λ k. alike (bit k (get_or low_words p 0)) (bit p k)) 64 ≡ true = below_passes (λ p. all_below (λ k. alike (bit k (get_or low_words p 0)) (bit p k)) 64) 6 p low_table lt in
    let here : bit k (get_or low_words p 0) ≡ bit p k = same_from_alike _ _ (below_passes (λ k. alike (bit k (get_or low_words p 0)) (bit p k)) 64 k row within) in
    here ∙ sym (ap (λ n. eqb n 1) (bit_at_cat_low block 6 k p lt))

-- the word of another pin is one bit of the block's number
pub high_pin : (block p : ℕ) → 6 ≤ p → (k : ℕ) → k < 64 → bit p (block * 64 + k) ≡ eqb (bit_and (block / 2 ^ (p - 6)) 1) 1
high_pin block p le k within = ap (λ n. eqb n 1) (bit_at_cat_high block 6 k p within le ∙ sym (shr_and_one block (p - 6)))

-- words with the same bits are one
bit_same : (x y : ℕ) → x < 2 → y < 2 → eqb x 1 ≡ eqb y 1 → x ≡ y
bit_same x y xl yl e = grind (arith, nat_tests)

pub same_words : (a b : ℕ) → a < 2 ^ 64 → b < 2 ^ 64 → ((k : ℕ) → k < 64 → bit k a ≡ bit k b) → a ≡ b
same_words a b al bl same = same_from_bits_below 64 a b al bl (λ k lt. bit_same (bit_at a k) (bit_at b k) (bit_at-lt a k) (bit_at-lt b k) (same k lt))

-- the number of an assignment of so many pins
abbrev pub number_of : (ℕ → Bool) → ℕ → ℕ
number_of y zero = 0
number_of y (suc n) = cond (y n) 1 0 * 2 ^ n + number_of y n

top_small : (b : Bool) (p v : ℕ) → v < p → cond b 1 0 * p + v < p * 2
top_small true p v lt = omega arith
top_small false p v lt = omega arith

pub number_small : (y : ℕ → Bool) (n : ℕ) → number_of y n < 2 ^ n
number_small y zero = omega arith
number_small y (suc n) =
    let less : number_of y n < 2 ^ n = number_small y n in
    let power : 2 ^ suc n ≡ 2 ^ n * 2 = pow-suc 2 n in
    rw power (top_small (y n) (2 ^ n) (number_of y n) less)

pub number_bit : (y : ℕ → Bool) (n p : ℕ) → p < n → bit p (number_of y n) ≡ y p
number_bit y zero p lt = absurd (omega arith)
number_bit y (suc n) p lt = at_place (dec_lt p n) (number_bit y n p)
  where
    top : (b : Bool) → bit 0 (cond b 1 0) ≡ b
    top true = refl
    top false = refl

    at_place : Dec (p < n) → (p < n → bit p (number_of y n) ≡ y p) → bit p (number_of y (suc n)) ≡ y p
    at_place (yes less) earlier = ap (λ m. eqb m 1) (bit_at_cat_low (cond (y n) 1 0) n (number_of y n) p less) ∙ earlier less
    at_place (no more) earlier =
        let same : p ≡ n = omega arith in
        let none : p - n ≡ 0 = omega arith in
        ap (λ m. eqb m 1) (bit_at_cat_high (cond (y n) 1 0) n (number_of y n) p (number_small y n) (omega arith))
        ∙ (ap (λ i. bit i (cond (y n) 1 0)) none ∙ (top (y n) ∙ ap y (sym same)))

-- Two expressions agree in a block.
module _ (e f : Expr) (pins block : ℕ) (words : List ℕ) (v w : ℕ)
    (values : (p k : ℕ) → p < 16 → k < 64 → bit k (slice_index words p) ≡ bit p (block * 64 + k)) (few : pins ≤ 16)
    (over : (k : ℕ) → MentionsPin e k → k < pins) (also : (k : ℕ) → MentionsPin f k → k < pins)
    (left : (k : ℕ) → k < 64 → bit k v ≡ expr_value (pins_at k (take pins words)) e)
    (right : (k : ℕ) → k < 64 → bit k w ≡ expr_value (pins_at k (take pins words)) f) where
  assigned_at : (k p : ℕ) → k < 64 → p < pins → pins_at k (take pins words) p ≡ assigned (block * 64 + k) p
  assigned_at k p lt within = ap (bit k) (get_or-take pins words p 0 within) ∙ values p k (omega arith) lt

  pub words_agree : v ≡ w → AgreeIn e f block
  words_agree same k lt =
      sym (left k lt ∙ value_by_pins _ (assigned (block * 64 + k)) e (λ p m. assigned_at k p lt (over p m)))
      ∙ (ap (bit k) same ∙ (right k lt ∙ value_by_pins _ (assigned (block * 64 + k)) f (λ p m. assigned_at k p lt (also p m))))

  pub agreeing_words : v < 2 ^ 64 → w < 2 ^ 64 → AgreeIn e f block → v ≡ w
  agreeing_words vl wl agree =
      same_words v w vl wl (λ k lt. left k lt ∙ (value_by_pins _ (assigned (block * 64 + k)) e (λ p m. assigned_at k p lt (over p m))
      ∙ (agree k lt ∙ sym (right k lt ∙ value_by_pins _ (assigned (block * 64 + k)) f (λ p m. assigned_at k p lt (also p m))))))

two_power : (i j : ℕ) → i ≤ j → 2 ^ i ≤ 2 ^ j
two_power i j le = pow-le-pow_right {n = 2} (omega arith) {i = i} {j = j} le

-- the block of an assignment
pub block_within : (pins n : ℕ) → n < 2 ^ pins → n / 64 < block_count pins
block_within pins n lt = at_size (dec_lt pins 6)
  where
    at_size : Dec (pins < 6) → n / 64 < block_count pins
    at_size (yes less) =
        let few : 2 ^ pins ≤ 2 ^ 6 = two_power pins 6 (omega arith) in
        let one : pins - 6 ≡ 0 = omega arith in
        subst (λ m. n / 64 < 2 ^ m) (sym one) (omega arith)
    at_size (no more) =
        let split : pins ≡ pins - 6 + 6 = omega arith in
        let power : 2 ^ pins ≡ 2 ^ (pins - 6) * 2 ^ 6 = ap (λ m. 2 ^ m) split ∙ pow-add 2 (pins - 6) 6 in
        omega arith

-- agreeing in all blocks of their pins they have one truth table
pub one_truth : (e f : Expr) (pins : ℕ) → pins ≤ 16 → ((k : ℕ) → MentionsPin e k → k < pins) → ((k : ℕ) → MentionsPin f k → k < pins)
    → ((block : ℕ) → block < block_count pins → AgreeIn e f block) → HaveOneTruth e f
one_truth e f pins few over also agree y =
    let a : ℕ = number_of y pins in
    let small : number_of y pins < 2 ^ pins = number_small y pins in
    let within : number_of y pins / 64 < block_count pins = block_within pins (number_of y pins) small in
    let parts : number_of y pins / 64 * 64 + number_of y pins % 64 ≡ number_of y pins = omega arith in
    let here = agree (number_of y pins / 64) within (number_of y pins % 64) (omega arith) in
    value_by_pins y (assigned (number_of y pins)) e (λ p m. sym (number_bit y pins p (over p m)))
    ∙ (subst (λ n. expr_value (assigned n) e ≡ expr_value (assigned n) f) parts here
    ∙ value_by_pins (assigned (number_of y pins)) y f (λ p m. number_bit y pins p (also p m)))

-- the same value under each of the first assignments is the same value under all
pub truth_below : (e f : Expr) (pins : ℕ) → ((k : ℕ) → MentionsPin e k → k < pins) → ((k : ℕ) → MentionsPin f k → k < pins)
    → ((n : ℕ) → n < 2 ^ pins → expr_value (assigned n) e ≡ expr_value (assigned n) f) → HaveOneTruth e f
truth_below e f pins over also agree y =
    value_by_pins y (assigned (number_of y pins)) e (λ p m. sym (number_bit y pins p (over p m)))
    ∙ (agree (number_of y pins) (number_small y pins)
    ∙ value_by_pins (assigned (number_of y pins)) y f (λ p m. number_bit y pins p (also p m)))
