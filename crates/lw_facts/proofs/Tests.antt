-- Facts about truth values, and about tests that give one.
use Rattle.std.proofs.Common.{Bool, None, Option, Some, arith, false, is_some, nat_eq, not, refl, sym, true, ℕ, ◌&&◌, ◌<◌, ◌==◌, ◌||◌, ◌≡◌}
use Rattle.std.proofs.lemmas.Bool.Decides.{nat_tests}

pub second_of_three : (a b c : Bool) → (a && b && c) ≡ true → b ≡ true
second_of_three true true c e = refl
second_of_three true false c e = cc
second_of_three false b c e = cc

-- lists of marks
pub none_when_not_some : {A : Type 0} (o : Option A) → is_some o ≡ false → o ≡ None
none_when_not_some None e = refl
none_when_not_some (Some x) e = cc

pub same_tests : (a b : Bool) → (a ≡ true → b ≡ true) → (b ≡ true → a ≡ true) → a ≡ b
same_tests true b f g = sym (f refl)
same_tests false true f g = g refl
same_tests false false f g = refl

pub no_stroke_at_end : (b : ℕ) → (b == 92) ≡ false → (nat_eq 92 b && true) ≡ false
no_stroke_at_end b e = grind (arith, nat_tests)

pub none_of_four : (p q r s : Bool) → not (p || (q || (r || s))) ≡ true → (p ≡ false) × (q ≡ false) × (r ≡ false) × (s ≡ false)
none_of_four true q r s e = cc
none_of_four false true r s e = cc
none_of_four false false true s e = cc
none_of_four false false false true e = cc
none_of_four false false false false e = (refl, refl, refl, refl)

pub not_a_stroke : (b : ℕ) → (nat_eq 92 b && true) ≡ false → (b == 92) ≡ false
not_a_stroke b e = grind (arith, nat_tests)

pub eq_lower : (x y : ℕ) → x < y → (x == y) ≡ false
eq_lower x y l = grind (arith, l)

pub and_swap : (a b c : Bool) → (a && (b && c)) ≡ (b && (a && c))
and_swap true true c = refl
and_swap true false c = refl
and_swap false true c = refl
and_swap false false c = refl
