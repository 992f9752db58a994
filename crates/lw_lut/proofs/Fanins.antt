-- Fan-ins of tables, and the values that numbers give them.
use Rattle.std.proofs.Common.{◌≡◌, ◌≢◌, ◌+◌, ◌-◌, ◌*◌, ◌/◌, ◌%◌, ◌^◌, ◌<◌, ◌≤◌, ◌==◌, inl, inr, ℕ, zero, suc, Bool, true, false, List, [], ◌∷◌, ◌++◌, length, drop, take, Contains, get_or, if◌then◌else◌, refl, sym, ap, ap₂, ◌∙◌, arith}
use Rattle.std.proofs.lemmas.Bool.{cases_eq, eq-eqb, ne_eqb}
use Rattle.std.proofs.lemmas.List.{take_more, map_push}
use Rattle.std.proofs.Math.Nat.{pow-le-pow_right}
use Rattle.std.proofs.lemmas.Nat.{div-mul-add}
use Rattle.lw_pool.specs.declared.id.ClassId.{ClassId}
use Rattle.lw_lut.specs.Cuts.{spelled, is_set}
use Rattle.lw_lut.specs.Tables.{given}
use Rattle.lw_lut.proofs.Bits.{spelled_join, spelled_low}
use Rattle.lw_pool.specs.Numbers.{numbers}
use Rattle.lw_lut.proofs.Numbers.{long}

-- the class is not the first one
pub given_skip : (f : ℕ) (fs : List ℕ) (place c : ℕ) → f ≢ c → given (f ∷ fs) place c ≡ given fs place c
given_skip f fs place c ne = ap (λ b. if b then is_set place (length fs) else given fs place c) (ne_eqb f c ne)

pub given_first : (f : ℕ) (fs : List ℕ) (place c : ℕ) → f ≡ c → given (f ∷ fs) place c ≡ is_set place (length fs)
given_first f fs place c e = ap (λ b. if b then is_set place (length fs) else given fs place c) (eq-eqb f c e)

-- the classes from a place on
pub given_from : (classes : List ClassId) (k place c : ℕ) (d : ClassId) → k < length classes → (get_or classes k d).0 ≢ c → given (numbers (drop k classes)) place c ≡ given (numbers (drop (k + 1) classes)) place c
given_from [] k place c d lt ne = absurd (omega arith)
given_from (x ∷ xs) zero place c d lt ne = given_skip x.0 (numbers xs) place c ne
given_from (x ∷ xs) (suc k) place c d lt ne =
    let e : suc k + 1 ≡ suc (k + 1) = omega arith in
    rw e (given_from xs k place c d (omega arith) ne)

pub given_here : (classes : List ClassId) (k place c : ℕ) (d : ClassId) → k < length classes → (get_or classes k d).0 ≡ c → given (numbers (drop k classes)) place c ≡ is_set place (length classes - 1 - k)
given_here [] k place c d lt e = absurd (omega arith)
given_here (x ∷ xs) zero place c d lt e =
    let l : length (numbers xs) ≡ length (x ∷ xs) - 1 - 0 = let n = long xs in omega (arith, n) in
    given_first x.0 (numbers xs) place c e ∙ ap (is_set place) l
given_here (x ∷ xs) (suc k) place c d lt e =
    let l : length xs - 1 - k ≡ length (x ∷ xs) - 1 - suc k = omega arith in
    given_here xs k place c d (omega arith) e ∙ ap (is_set place) l

pub given_past : (classes : List ClassId) (k place c : ℕ) → length classes ≤ k → given (numbers (drop k classes)) place c ≡ false
given_past [] zero place c le = refl
given_past [] (suc k) place c le = refl
given_past (x ∷ xs) zero place c le = absurd (omega arith)
given_past (x ∷ xs) (suc k) place c le = given_past xs k place c (omega arith)

-- one more pin
pub spelled_more : (v : ℕ → Bool) (pins : List ClassId) (k n : ℕ) (d : ClassId) (b : Bool) → k < length pins → n ≡ spelled v (numbers (take k pins)) → b ≡ v (get_or pins k d).0 → (if b then 1 else 0) + 2 * n ≡ spelled v (numbers (take (k + 1) pins))
spelled_more v pins k n d b lt is value =
    let e : numbers (take (k + 1) pins) ≡ numbers (take k pins) ++ (get_or pins k d).0 ∷ [] = ap numbers (take_more pins k d lt) ∙ map_push (λ (c : ClassId). c.0) (take k pins) (get_or pins k d) in
    let j = spelled_join v (numbers (take k pins)) ((get_or pins k d).0 ∷ []) in
    rw (e, j, is, value) (one (v (get_or pins k d).0) (spelled v (numbers (take k pins))))
  where
    one : (b : Bool) (m : ℕ) → (if b then 1 else 0) + 2 * m ≡ m * 2 + ((if b then 1 else 0) + 0)
    one b m = omega arith

pub spelled_fits : (v : ℕ → Bool) (pins : List ClassId) (n : ℕ) → n ≡ spelled v (numbers pins) → length pins ≤ 6 → n < 64
spelled_fits v pins n is le =
    let low = spelled_low v (numbers pins) in
    let l = long pins in
    let up : 2 ^ length (numbers pins) ≤ 2 ^ 6 = pow-le-pow_right {n = 2} (omega arith) {i = length (numbers pins)} {j = 6} (omega (arith, l, le)) in
    omega (arith, low, up, is)

-- The values that a spelled number gives are those that spelled it.

high_bit : (b : Bool) (hi m r : ℕ) → r < m → ((hi * (2 * m) + (if b then m else 0) + r) / m % 2 == 1) ≡ b
high_bit true hi m r lt =
    let e : hi * (2 * m) + m + r ≡ (2 * hi + 1) * m + r = grind arith in
    let s : (2 * hi + 1) % 2 ≡ 1 = omega arith in
    rw (e, div-mul-add (2 * hi + 1) m r lt, s) refl
high_bit false hi m r lt =
    let e : hi * (2 * m) + 0 + r ≡ (2 * hi) * m + r = grind arith in
    let s : (2 * hi) % 2 ≡ 0 = omega arith in
    rw (e, div-mul-add (2 * hi) m r lt, s) refl

given_spelled : (v : ℕ → Bool) (fs : List ℕ) (hi c : ℕ) → Contains fs c → given fs (hi * 2 ^ length fs + spelled v fs) c ≡ v c
given_spelled v [] hi c (k, lt, e) = absurd (omega arith)
given_spelled v (f ∷ fs) hi c inside = elim (cases_eq f c) [
  | inl same ↦
      let p : 2 ^ suc (length fs) ≡ 2 * 2 ^ length fs = omega arith in
      let sum : hi * 2 ^ suc (length fs) + ((if v f then 2 ^ length fs else 0) + spelled v fs) ≡ hi * (2 * 2 ^ length fs) + (if v f then 2 ^ length fs else 0) + spelled v fs = rw p (omega arith) in
      given_first f fs (hi * 2 ^ suc (length fs) + ((if v f then 2 ^ length fs else 0) + spelled v fs)) c same ∙ (ap (λ n. is_set n (length fs)) sum ∙ (high_bit (v f) hi (2 ^ length fs) (spelled v fs) (spelled_low v fs) ∙ ap v same))
  | inr other ↦
      let place = hi * 2 ^ suc (length fs) + ((if v f then 2 ^ length fs else 0) + spelled v fs) in
      let next = given_spelled v fs (2 * hi + (if v f then 1 else 0)) c (later f fs c other inside) in
      given_skip f fs place c other ∙ (ap (λ n. given fs n c) (carried (v f) hi (2 ^ length fs) (2 ^ suc (length fs)) (spelled v fs) (omega arith)) ∙ next)
]
  where
    later : (f : ℕ) (fs : List ℕ) (c : ℕ) → f ≢ c → Contains (f ∷ fs) c → Contains fs c
    later f fs c ne (zero, lt, e) = absurd (ne e)
    later f fs c ne (suc k, lt, e) = (k, omega arith, e)

    carried : (b : Bool) (hi m n r : ℕ) → n ≡ 2 * m → hi * n + ((if b then m else 0) + r) ≡ (2 * hi + (if b then 1 else 0)) * m + r
    carried true hi m n r e = rw e (grind arith)
    carried false hi m n r e = rw e (grind arith)

-- pins among the fan-ins have the values that spelled the number
pub spelled_given : (v : ℕ → Bool) (fs ps : List ℕ) → ((c : ℕ) → Contains ps c → Contains fs c) → spelled (given fs (spelled v fs)) ps ≡ spelled v ps
spelled_given v fs [] among = refl
spelled_given v fs (p ∷ ps) among =
    let zero_in : 0 * 2 ^ length fs + spelled v fs ≡ spelled v fs = omega arith in
    let first : given fs (spelled v fs) p ≡ v p = ap (λ n. given fs n p) (sym zero_in) ∙ given_spelled v fs 0 p (among p (0, omega arith, refl)) in
    ap₂ (λ b n. (if b then 2 ^ length ps else 0) + n) first (spelled_given v fs ps (λ c (k, lt, e). among c (suc k, omega arith, e)))
