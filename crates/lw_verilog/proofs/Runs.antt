-- How far runs of bytes go.
use Rattle.std.proofs.Common.{ℕ, ◌≡◌, refl, ◌≤◌, ◌<◌, ◌+◌, Bool, true, false, ◌&&◌, ◌==◌, cond, List, [], ◌∷◌, length, drop, ap, arith}
use Rattle.std.proofs.lemmas.Bool.{eqb-true}
use Rattle.std.proofs.lemmas.List.{drop_all}
use Rattle.lw_verilog.specs.Pieces.{before_pair}

-- The first pair of bytes.

-- the second byte of a pair is within too, where it is no 0
pub pair-inside : (a b : ℕ) (bytes : List ℕ) → 0 < b → before_pair a b bytes < length bytes → before_pair a b bytes + 1 < length bytes
pair-inside a b [] some lt = absurd (omega (arith, lt))
pair-inside a b (x ∷ []) some lt = by_test (x == a) (0 == b) refl lt
  where
    by_test : (s t : Bool) → (0 == b) ≡ t → cond (s && t) 0 (1 + 0) < 1 → cond (s && t) 0 (1 + 0) + 1 < 1
    by_test s true e here = let zero_is : 0 ≡ b = eqb-true 0 b e in absurd (omega (arith, zero_is, some))
    by_test true false e here = absurd (omega (arith, here))
    by_test false false e here = absurd (omega (arith, here))
pair-inside a b (x ∷ y ∷ bytes) some lt = by_test (x == a && y == b) lt (pair-inside a b (y ∷ bytes) some)
  where
    by_test : (t : Bool) → cond t 0 (1 + before_pair a b (y ∷ bytes)) < length (x ∷ y ∷ bytes) → (before_pair a b (y ∷ bytes) < length (y ∷ bytes) → before_pair a b (y ∷ bytes) + 1 < length (y ∷ bytes)) → cond t 0 (1 + before_pair a b (y ∷ bytes)) + 1 < length (x ∷ y ∷ bytes)
    by_test true here later = omega arith
    by_test false here later =
        let next : before_pair a b (y ∷ bytes) + 1 < length (y ∷ bytes) = later (omega (arith, here)) in
        omega (arith, next)

pub pair-none : (a b : ℕ) (bytes : List ℕ) (i : ℕ) → length bytes ≤ i → before_pair a b (drop i bytes) ≡ 0
pair-none a b bytes i far = ap (before_pair a b) (drop_all i bytes far)
