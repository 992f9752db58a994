-- Facts about numbers.
use Rattle.std.proofs.Common.{arith, eqb, inl, inr, max, min, not, refl, suc, zero, ℕ, ◌&&◌, ◌*◌, ◌+◌, ◌-◌, ◌<◌, ◌==◌, ◌||◌, ◌≡◌, ◌⊎◌}
use Rattle.std.proofs.lemmas.Bool.Decides.{nat_tests}
use native.Mathlib.Decide.{dec_lt}

pub times_ten_spread : (n v p : ℕ) → (n * 10 + v) * p ≡ n * (10 * p) + v * p
times_ten_spread n v p = grind arith

pub capped_more : (v d cap : ℕ) → min (min v cap * 10 + d) cap ≡ min (v * 10 + d) cap
capped_more v d cap = omega arith

pub eq_turned : (a b : ℕ) → (a == b) ≡ (b == a)
eq_turned a b = grind (arith, nat_tests)

pub min_bit : (x y z : ℕ) → z ≡ min x y → x < 2 → y < 2 → eqb z 1 ≡ (eqb x 1 && eqb y 1)
min_bit x y z e xl yl = grind (arith, nat_tests)

pub max_bit : (x y z : ℕ) → z ≡ max x y → x < 2 → y < 2 → eqb z 1 ≡ (eqb x 1 || eqb y 1)
max_bit x y z e xl yl = grind (arith, nat_tests)

pub not_bit : (x z : ℕ) → z ≡ 1 - x → x < 2 → eqb z 1 ≡ not (eqb x 1)
not_bit x z e xl = grind (arith, nat_tests)

pub min_max_cases : (x y : ℕ) → ((min x y ≡ x) × (max x y ≡ y)) ⊎ ((min x y ≡ y) × (max x y ≡ x))
min_max_cases x y = by_order (dec_lt x y) where
  by_order : Dec (x < y) → ((min x y ≡ x) × (max x y ≡ y)) ⊎ ((min x y ≡ y) × (max x y ≡ x))
  by_order (yes lt) = inl (omega arith, omega arith)
  by_order (no ge) = inr (omega arith, omega arith)

pub above_is_suc : (f n : ℕ) → n < f → (m : ℕ) × (f ≡ suc m)
above_is_suc zero n lt = absurd (omega arith)
above_is_suc (suc m) n lt = (m, refl)
