-- Cuts of a list of operands, and the masks that make them.
use Rattle.std.proofs.Common.{◌≡◌, ◌+◌, ◌-◌, ◌*◌, ◌/◌, ◌%◌, ◌^◌, ◌==◌, ◌<◌, ◌≤◌, ◌≢◌, max, ap₂, ℕ, zero, suc, if◌then◌else◌, Bool, true, false, List, [], ◌∷◌, length, refl, ap, sym, ◌∙◌, subst, arith, pow-suc}
use Rattle.std.specs.Int.Bits.{bit_or, or_step}
use Rattle.std.specs.List.{AllByRecursion}
use Rattle.std.proofs.lemmas.Nat.{pow_pos}
use Rattle.lw_form.proofs.Parts.{unpicked}
use Rattle.lw_laws.specs.NumberedForms.{IsCut, IsCovering}
use Rattle.lw_laws.specs.NumberedForms.IsCovering.{in_none, in_left, in_right, in_both}
use Rattle.lw_form.specs.Kept.{AreApart}
use Rattle.lw_laws.specs.NumberedForms.IsCut.{cut_none, cut_left, cut_right}
use Rattle.lw_form.specs.Bases.{picked}
use Rattle.lw_assoc.specs.Drafting.{other}

-- the other operands are those of the other mask
pub picked_other : (fs : List ℕ) (mask : ℕ) → mask < 2 ^ length fs → picked fs (other fs mask) ≡ unpicked fs mask
picked_other [] mask lt = refl
picked_other (f ∷ fs) mask lt = by_bit (mask % 2) (other (f ∷ fs) mask % 2) refl refl (ap (picked fs) half ∙ picked_other fs (mask / 2) below) where
  double : 2 ^ length (f ∷ fs) ≡ 2 ^ length fs * 2
  double = pow-suc 2 (length fs)

  below : mask / 2 < 2 ^ length fs
  below = let p = double in omega arith

  half : other (f ∷ fs) mask / 2 ≡ other fs (mask / 2)
  half = let p = double in omega arith

  bits : (k j : ℕ) → mask % 2 ≡ k → other (f ∷ fs) mask % 2 ≡ j → k + j ≡ 1
  bits k j e d = let p = double in omega arith

  by_bit : (k j : ℕ) → mask % 2 ≡ k → other (f ∷ fs) mask % 2 ≡ j → picked fs (other (f ∷ fs) mask / 2) ≡ unpicked fs (mask / 2) → (if j == 1 then f ∷ picked fs (other (f ∷ fs) mask / 2) else picked fs (other (f ∷ fs) mask / 2)) ≡ (if k == 1 then unpicked fs (mask / 2) else f ∷ unpicked fs (mask / 2))
  by_bit zero (suc zero) e d is = ap (λ l. f ∷ l) is
  by_bit (suc zero) zero e d is = is
  by_bit zero zero e d is = absurd (let b = bits zero zero e d in omega arith)
  by_bit (suc zero) (suc j) e d is = absurd (let b = bits (suc zero) (suc j) e d in omega arith)
  by_bit zero (suc (suc j)) e d is = absurd (let b = bits zero (suc (suc j)) e d in omega arith)
  by_bit (suc (suc k)) j e d is = absurd (let b = bits (suc (suc k)) j e d in omega arith)

-- a cut is made by this mask
pub record IsCutBy (fs ls rs : List ℕ) : Type 0 where
  pub mask : ℕ
  pub within : mask < 2 ^ length fs
  pub left : ls ≡ picked fs mask
  pub right : rs ≡ unpicked fs mask

with_bit : (f : ℕ) (fs ls rs : List ℕ) (mask m : ℕ) → mask % 2 ≡ 1 → mask / 2 ≡ m → ls ≡ picked fs m → rs ≡ unpicked fs m → (f ∷ ls ≡ picked (f ∷ fs) mask) × (rs ≡ unpicked (f ∷ fs) mask)
with_bit f fs ls rs mask m e d l r =
    (ap (λ hs. f ∷ hs) (l ∙ ap (picked fs) (sym d)) ∙ ap (λ (k : ℕ). if k == 1 then f ∷ picked fs (mask / 2) else picked fs (mask / 2)) (sym e), r ∙ ap (unpicked fs) (sym d) ∙ ap (λ (k : ℕ). if k == 1 then unpicked fs (mask / 2) else f ∷ unpicked fs (mask / 2)) (sym e))

without_bit : (f : ℕ) (fs ls rs : List ℕ) (mask m : ℕ) → mask % 2 ≡ 0 → mask / 2 ≡ m → ls ≡ picked fs m → rs ≡ unpicked fs m → (ls ≡ picked (f ∷ fs) mask) × (f ∷ rs ≡ unpicked (f ∷ fs) mask)
without_bit f fs ls rs mask m e d l r =
    (l ∙ ap (picked fs) (sym d) ∙ ap (λ (k : ℕ). if k == 1 then f ∷ picked fs (mask / 2) else picked fs (mask / 2)) (sym e), ap (λ hs. f ∷ hs) (r ∙ ap (unpicked fs) (sym d)) ∙ ap (λ (k : ℕ). if k == 1 then unpicked fs (mask / 2) else f ∷ unpicked fs (mask / 2)) (sym e))

pub cut_mask : {fs ls rs : List ℕ} → IsCut fs ls rs → IsCutBy fs ls rs
cut_mask cut_none = record { mask = 0; within = omega arith; left = refl; right = refl }
cut_mask (cut_left {f = f} {fs = fs} {ls = ls} {rs = rs} c) =
    let m = cut_mask c in
    let lt = m.within in
    let p = pow-suc 2 (length fs) in
    let is = with_bit f fs ls rs (2 * m.mask + 1) m.mask (omega arith) (omega arith) m.left m.right in
    record { mask = 2 * m.mask + 1; within = omega arith; left = is.0; right = is.1 }
cut_mask (cut_right {f = f} {fs = fs} {ls = ls} {rs = rs} c) =
    let m = cut_mask c in
    let lt = m.within in
    let p = pow-suc 2 (length fs) in
    let is = without_bit f fs ls rs (2 * m.mask) m.mask (omega arith) (omega arith) m.left m.right in
    record { mask = 2 * m.mask; within = omega arith; left = is.0; right = is.1 }

-- a mask that leaves the last operand out, and the other mask
pub record AreMasks (k mask rest : ℕ) : Type 0 where
  pub some : 1 ≤ mask
  pub within : mask < 2 ^ k
  pub rest_some : 1 ≤ rest
  pub rest_within : rest < 2 ^ k

-- one of the two masks leaves the last operand out
pub half_mask : (k mask : ℕ) → 1 ≤ k → mask < 2 ^ k → (mask < 2 ^ (k - 1) → ⊥) → 2 ^ k - 1 - mask < 2 ^ (k - 1)
half_mask zero mask some lt ge = absurd (omega arith)
half_mask (suc k) mask some lt ge = let p = pow-suc 2 k in let q : 2 ^ (suc k - 1) ≡ 2 ^ k = ap (λ j. 2 ^ j) (omega arith) in omega arith

pub half_within : (k n half mask : ℕ) → 1 ≤ k → n ≡ k → half ≡ 2 ^ (n - 1) → mask < half → mask < 2 ^ k
half_within k n half mask some e h lt = by_count k some (subst (λ j. mask < 2 ^ (j - 1)) e (subst (λ m. mask < m) h lt)) where
  by_count : (k : ℕ) → 1 ≤ k → mask < 2 ^ (k - 1) → mask < 2 ^ k
  by_count zero some lt = absurd (omega arith)
  by_count (suc k) some lt = let p = pow-suc 2 k in let q : 2 ^ (suc k - 1) ≡ 2 ^ k = ap (λ j. 2 ^ j) (omega arith) in omega arith

-- digits of two masks that together have all bits
or_digits : (a b n : ℕ) → bit_or a b ≡ 2 * n + 1 → (bit_or (a / 2) (b / 2) ≡ n) × (max (a % 2) (b % 2) ≡ 1)
or_digits a b n e = let s = or_step a b in (omega arith, omega arith)

ones_split : (k : ℕ) → 2 ^ suc k - 1 ≡ 2 * (2 ^ k - 1) + 1
ones_split k = let p = pow-suc 2 k in let q = pow_pos k in omega arith

-- two masks that together have all bits make two parts that together have all operands
pub covering_by : (fs : List ℕ) (a b : ℕ) → bit_or a b ≡ 2 ^ length fs - 1 → IsCovering fs (picked fs a) (picked fs b)
covering_by [] a b e = in_none
covering_by (f ∷ fs) a b e =
    let d = or_digits a b (2 ^ length fs - 1) (e ∙ ones_split (length fs)) in
    by_bits (a % 2) (b % 2) d.1 (omega arith) (omega arith) (covering_by fs (a / 2) (b / 2) d.0)
  where
    by_bits : (i j : ℕ) → max i j ≡ 1 → i < 2 → j < 2 → IsCovering fs (picked fs (a / 2)) (picked fs (b / 2)) → IsCovering (f ∷ fs) (if i == 1 then f ∷ picked fs (a / 2) else picked fs (a / 2)) (if j == 1 then f ∷ picked fs (b / 2) else picked fs (b / 2))
    by_bits zero zero m l r c = absurd (omega arith)
    by_bits (suc zero) zero m l r c = in_left c
    by_bits zero (suc zero) m l r c = in_right c
    by_bits (suc zero) (suc zero) m l r c = in_both c
    by_bits (suc (suc i)) j m l r c = absurd (omega arith)
    by_bits zero (suc (suc j)) m l r c = absurd (omega arith)
    by_bits (suc zero) (suc (suc j)) m l r c = absurd (omega arith)

-- two parts that together have all operands are made by two such masks
pub record AreCoveredBy (fs ls rs : List ℕ) : Type 0 where
  pub mask : ℕ
  pub rest : ℕ
  pub within : mask < 2 ^ length fs
  pub rest_within : rest < 2 ^ length fs
  pub all : bit_or mask rest ≡ 2 ^ length fs - 1
  pub left : ls ≡ picked fs mask
  pub right : rs ≡ picked fs rest

has_bit : (f : ℕ) (fs ls : List ℕ) (mask m : ℕ) → mask % 2 ≡ 1 → mask / 2 ≡ m → ls ≡ picked fs m → f ∷ ls ≡ picked (f ∷ fs) mask
has_bit f fs ls mask m e d l =
    ap (λ hs. f ∷ hs) (l ∙ ap (picked fs) (sym d)) ∙ ap (λ (k : ℕ). if k == 1 then f ∷ picked fs (mask / 2) else picked fs (mask / 2)) (sym e)

no_bit : (f : ℕ) (fs ls : List ℕ) (mask m : ℕ) → mask % 2 ≡ 0 → mask / 2 ≡ m → ls ≡ picked fs m → ls ≡ picked (f ∷ fs) mask
no_bit f fs ls mask m e d l =
    l ∙ ap (picked fs) (sym d) ∙ ap (λ (k : ℕ). if k == 1 then f ∷ picked fs (mask / 2) else picked fs (mask / 2)) (sym e)

more_bits : (k a b i j : ℕ) → i < 2 → j < 2 → max i j ≡ 1 → bit_or a b ≡ 2 ^ k - 1 → bit_or (2 * a + i) (2 * b + j) ≡ 2 ^ suc k - 1
more_bits k a b i j li lj m e =
    let s = or_step (2 * a + i) (2 * b + j) in
    let ha : (2 * a + i) / 2 ≡ a = omega arith in
    let hb : (2 * b + j) / 2 ≡ b = omega arith in
    let ra : (2 * a + i) % 2 ≡ i = omega arith in
    let rb : (2 * b + j) % 2 ≡ j = omega arith in
    let o : bit_or ((2 * a + i) / 2) ((2 * b + j) / 2) ≡ 2 ^ k - 1 = ap₂ bit_or ha hb ∙ e in
    let x : max ((2 * a + i) % 2) ((2 * b + j) % 2) ≡ 1 = ap₂ max ra rb ∙ m in
    let p = ones_split k in
    omega arith

pub covering_masks : {fs ls rs : List ℕ} → IsCovering fs ls rs → AreCoveredBy fs ls rs
covering_masks in_none = record { mask = 0; rest = 0; within = omega arith; rest_within = omega arith; all = refl; left = refl; right = refl }
covering_masks (in_left {f = f} {fs = fs} {ls = ls} {rs = rs} c) =
    let m = covering_masks c in
    let p = pow-suc 2 (length fs) in
    let lt = m.within in
    let gt = m.rest_within in
    record {
      mask = 2 * m.mask + 1;
      rest = 2 * m.rest + 0;
      within = omega arith;
      rest_within = omega arith;
      all = more_bits (length fs) m.mask m.rest 1 0 (omega arith) (omega arith) refl m.all;
      left = has_bit f fs ls (2 * m.mask + 1) m.mask (omega arith) (omega arith) m.left;
      right = no_bit f fs rs (2 * m.rest + 0) m.rest (omega arith) (omega arith) m.right;
    }
covering_masks (in_right {f = f} {fs = fs} {ls = ls} {rs = rs} c) =
    let m = covering_masks c in
    let p = pow-suc 2 (length fs) in
    let lt = m.within in
    let gt = m.rest_within in
    record {
      mask = 2 * m.mask + 0;
      rest = 2 * m.rest + 1;
      within = omega arith;
      rest_within = omega arith;
      all = more_bits (length fs) m.mask m.rest 0 1 (omega arith) (omega arith) refl m.all;
      left = no_bit f fs ls (2 * m.mask + 0) m.mask (omega arith) (omega arith) m.left;
      right = has_bit f fs rs (2 * m.rest + 1) m.rest (omega arith) (omega arith) m.right;
    }
covering_masks (in_both {f = f} {fs = fs} {ls = ls} {rs = rs} c) =
    let m = covering_masks c in
    let p = pow-suc 2 (length fs) in
    let lt = m.within in
    let gt = m.rest_within in
    record {
      mask = 2 * m.mask + 1;
      rest = 2 * m.rest + 1;
      within = omega arith;
      rest_within = omega arith;
      all = more_bits (length fs) m.mask m.rest 1 1 (omega arith) (omega arith) refl m.all;
      left = has_bit f fs ls (2 * m.mask + 1) m.mask (omega arith) (omega arith) m.left;
      right = has_bit f fs rs (2 * m.rest + 1) m.rest (omega arith) (omega arith) m.right;
    }

-- a mask and the other one have all bits
pub or_other : (k mask : ℕ) → mask < 2 ^ k → bit_or mask (2 ^ k - 1 - mask) ≡ 2 ^ k - 1
or_other zero mask lt = let z : mask ≡ 0 = omega arith in rw z refl
or_other (suc k) mask lt =
    let p = pow-suc 2 k in
    let s = or_step mask (2 ^ suc k - 1 - mask) in
    let h : (2 ^ suc k - 1 - mask) / 2 ≡ 2 ^ k - 1 - mask / 2 = omega arith in
    let ih = or_other k (mask / 2) (omega arith) in
    let o : bit_or (mask / 2) ((2 ^ suc k - 1 - mask) / 2) ≡ 2 ^ k - 1 = ap (bit_or (mask / 2)) h ∙ ih in
    let x : max (mask % 2) ((2 ^ suc k - 1 - mask) % 2) ≡ 1 = omega arith in
    let n = ones_split k in
    omega arith

-- different masks pick different operands, where no two are equal
picked_all : (P : ℕ → Type 0) (fs : List ℕ) (mask : ℕ) → AllByRecursion P fs → AllByRecursion P (picked fs mask)
picked_all P [] mask all = tt
picked_all P (f ∷ fs) mask (p, all) = by_test (mask % 2 == 1) (picked_all P fs (mask / 2) all) where
  by_test : (t : Bool) → AllByRecursion P (picked fs (mask / 2)) → AllByRecursion P (if t then f ∷ picked fs (mask / 2) else picked fs (mask / 2))
  by_test true a = (p, a)
  by_test false a = a

not_picked : (f : ℕ) (fs hs : List ℕ) (mask : ℕ) → AllByRecursion (λ h. f / 2 ≢ h / 2) fs → f ∷ hs ≡ picked fs mask → ⊥
not_picked f fs hs mask apart e =
    (subst (AllByRecursion (λ h. f / 2 ≢ h / 2)) (sym e) (picked_all (λ h. f / 2 ≢ h / 2) fs mask apart)).0 refl

pub picked_once : (fs : List ℕ) (a b : ℕ) → AreApart fs → a < 2 ^ length fs → b < 2 ^ length fs → picked fs a ≡ picked fs b → a ≡ b
picked_once [] a b apart la lb e = omega arith
picked_once (f ∷ fs) a b (some, first, rest) la lb e =
    let p = pow-suc 2 (length fs) in
    by_bits (a % 2) (b % 2) refl refl (omega arith) (omega arith) (picked_once fs (a / 2) (b / 2) rest (omega arith) (omega arith)) e
  where
    by_bits : (i j : ℕ) → a % 2 ≡ i → b % 2 ≡ j → i < 2 → j < 2 → (picked fs (a / 2) ≡ picked fs (b / 2) → a / 2 ≡ b / 2) → (if i == 1 then f ∷ picked fs (a / 2) else picked fs (a / 2)) ≡ (if j == 1 then f ∷ picked fs (b / 2) else picked fs (b / 2)) → a ≡ b
    by_bits zero zero ea eb l r ih s = let h = ih s in omega arith
    by_bits (suc zero) (suc zero) ea eb l r ih s =
        let t : picked fs (a / 2) ≡ picked fs (b / 2) = cc in let h = ih t in omega arith
    by_bits (suc zero) zero ea eb l r ih s = absurd (not_picked f fs (picked fs (a / 2)) (b / 2) first s)
    by_bits zero (suc zero) ea eb l r ih s = absurd (not_picked f fs (picked fs (b / 2)) (a / 2) first (sym s))
    by_bits (suc (suc i)) j ea eb l r ih s = absurd (omega arith)
    by_bits zero (suc (suc j)) ea eb l r ih s = absurd (omega arith)
    by_bits (suc zero) (suc (suc j)) ea eb l r ih s = absurd (omega arith)
