-- The rows of tables, and the values that they give.
use Rattle.std.proofs.Common.{◌≡◌, ◌+◌, ◌*◌, ◌%◌, ◌^◌, ◌<◌, ◌≤◌, ◌==◌, inl, inr, ℕ, zero, suc, Bool, true, false, ◌&&◌, ◌||◌, List, [], ◌∷◌, ◌++◌, length, map, Some, if◌then◌else◌, refl, sym, ap, ap₂, ◌∙◌, arith}
use Rattle.std.specs.Int.{bit_at}
use Rattle.std.specs.List.{list_any}
use Rattle.std.proofs.lemmas.Bool.{cases_eq, eq-eqb, ne_eqb}
use Rattle.std.proofs.lemmas.Nat.{mod-pow-add, pow_pos}
use Rattle.std.proofs.Math.Bool.{and-false, and-true, or-false}
use Rattle.std.proofs.Math.Nat.{mod-lt, mod-eq_of_lt}
use Rattle.std.proofs.lemmas.Nat.Bits.{bit_at-lt}
use Rattle.lw_laws.specs.Networks.{agrees, row_value}
use Rattle.lw_net.specs.Signs.{asked}
use Rattle.lw_lut.specs.Cuts.{spelled, is_set}
use Rattle.lw_lut.specs.Texts.{binary}
use Rattle.lw_lut_text.specs.Said.{columns_from}
use Rattle.lw_lut.specs.declared.table.Table.{Table}
use Rattle.lw_lut.proofs.Bits.{spelled_low}

-- two tests of equal outcome
pub tests_alike : (a b c d : ℕ) → (a ≡ b → c ≡ d) → (c ≡ d → a ≡ b) → (a == b) ≡ (c == d)
tests_alike a b c d to from = elim (cases_eq a b) [
  | inl e ↦ eq-eqb a b e ∙ sym (eq-eqb c d (to e))
  | inr ne ↦ ne_eqb a b ne ∙ sym (ne_eqb c d (λ e. ne (from e)))
]

-- a bit of a row asks for its value
bit_asked : (b : ℕ) → b < 2 → asked (48 + b) ≡ Some (b == 1)
bit_asked zero lt = refl
bit_asked (suc zero) lt = refl
bit_asked (suc (suc b)) lt = absurd (omega arith)

-- one more bit in front
front : (b r s m : ℕ) (value : Bool) → b < 2 → r < m → s < m → (agrees (b == 1) value && (r == s)) ≡ (b * m + r == (if value then m else 0) + s)
front zero r s m true lt p q = sym (ne_eqb (0 * m + r) (m + s) (λ e. omega (arith, e, p)))
front zero r s m false lt p q = tests_alike r s (0 * m + r) (0 + s) (λ e. omega (arith, e)) (λ e. omega (arith, e))
front (suc zero) r s m true lt p q = tests_alike r s (1 * m + r) (m + s) (λ e. omega (arith, e)) (λ e. omega (arith, e))
front (suc zero) r s m false lt p q = sym (ne_eqb (1 * m + r) (0 + s) (λ e. omega (arith, e, q)))
front (suc (suc b)) r s m value lt p q = absurd (omega arith)

low : (n k : ℕ) → n % 2 ^ k < 2 ^ k
low n k = mod-lt n (pow_pos k)

-- a row holds where its number is spelled
pub row_holds : (v : ℕ → Bool) (fs : List ℕ) (place : ℕ) → row_value (map v fs) (map asked (binary (length fs) place)) ≡ (place % 2 ^ length fs == spelled v fs)
row_holds v [] place = sym (eq-eqb (place % 1) 0 (omega arith))
row_holds v (f ∷ fs) place =
    let n = length fs in
    let b = bit_at place n in
    let whole : place % 2 ^ suc n ≡ b * 2 ^ n + place % 2 ^ n = split n in
    let first : row_value (v f ∷ map v fs) (asked (48 + b) ∷ map asked (binary n place)) ≡ (agrees (b == 1) (v f) && row_value (map v fs) (map asked (binary n place))) = ap (λ a. row_value (v f ∷ map v fs) (a ∷ map asked (binary n place))) (bit_asked b (bit_at-lt place n)) in
    first ∙ (ap (λ t. agrees (b == 1) (v f) && t) (row_holds v fs place)
    ∙ (front b (place % 2 ^ n) (spelled v fs) (2 ^ n) (v f) (bit_at-lt place n) (low place n) (spelled_low v fs)
    ∙ ap (λ k. k == (if v f then 2 ^ n else 0) + spelled v fs) (sym whole)))
  where
    split : (n : ℕ) → place % 2 ^ suc n ≡ bit_at place n * 2 ^ n + place % 2 ^ n
    split n = let e : suc n ≡ 1 + n = omega arith in ap (λ k. place % 2 ^ k) e ∙ mod-pow-add place 1 n

-- what rows give, at these values of the fan-ins
abbrev any_holds : (ℕ → Bool) → List ℕ → List (List ℕ) → Bool
any_holds v fs rows = list_any (row_value (map v fs)) (map (map asked) rows)

module _ (t : Table) (v : ℕ → Bool) (fs : List ℕ) (long : length t.fanins ≡ length fs) where
  abbrev s : ℕ
  s = spelled v fs

  one_row : (place : ℕ) → place < 2 ^ length fs → row_value (map v fs) (map asked (binary (length t.fanins) place)) ≡ (place == s)
  one_row place lt =
      ap (λ n. row_value (map v fs) (map asked (binary n place))) long ∙ (row_holds v fs place ∙ ap (λ k. k == s) (mod-eq_of_lt lt))

  step : (b : Bool) (row : List ℕ) (rest : List (List ℕ)) → any_holds v fs ((if b then row ∷ [] else []) ++ rest) ≡ ((b && row_value (map v fs) (map asked row)) || any_holds v fs rest)
  step true row rest = refl
  step false row rest = refl

  none_behind : (place count : ℕ) → s < place → place + count ≤ 2 ^ length fs → any_holds v fs (columns_from t place count) ≡ false
  none_behind place zero lt le = refl
  none_behind place (suc count) lt le =
      let row = binary (length t.fanins) place in
      let other : row_value (map v fs) (map asked row) ≡ false = one_row place (omega arith) ∙ ne_eqb place s (λ e. omega (arith, e)) in
      step (is_set t.bits place) row (columns_from t (suc place) count)
      ∙ ap₂ (λ a b. a || b) (ap (λ a. is_set t.bits place && a) other ∙ and-false (is_set t.bits place)) (none_behind (suc place) count (omega arith) (omega arith))

  found : (place count : ℕ) → place ≤ s → s < place + count → place + count ≤ 2 ^ length fs → any_holds v fs (columns_from t place count) ≡ is_set t.bits s
  found place zero ge lt le = absurd (omega arith)
  found place (suc count) ge lt le = elim (cases_eq place s) [
    | inl same ↦
        step (is_set t.bits place) row (columns_from t (suc place) count)
        ∙ (ap₂ (λ a b. a || b) (ap (λ a. is_set t.bits place && a) (here ∙ eq-eqb place s same) ∙ and-true (is_set t.bits place)) (none_behind (suc place) count (omega arith) (omega arith))
        ∙ (or-false (is_set t.bits place) ∙ ap (is_set t.bits) same))
    | inr other ↦
        step (is_set t.bits place) row (columns_from t (suc place) count)
        ∙ ap₂ (λ a b. a || b) (ap (λ a. is_set t.bits place && a) (here ∙ ne_eqb place s other) ∙ and-false (is_set t.bits place)) (found (suc place) count (omega (arith, other)) (omega arith) (omega arith))
  ]
    where
      row : List ℕ
      row = binary (length t.fanins) place

      here : row_value (map v fs) (map asked row) ≡ (place == s)
      here = one_row place (omega arith)

  pub columns_hold : any_holds v fs (columns_from t 0 (2 ^ length t.fanins)) ≡ is_set t.bits s
  columns_hold =
      let low = spelled_low v fs in
      let e : 2 ^ length t.fanins ≡ 2 ^ length fs = ap (λ n. 2 ^ n) long in
      found 0 (2 ^ length t.fanins) (omega arith) (omega (arith, low, e)) (omega (arith, e))
