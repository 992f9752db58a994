-- Names that differ.
use Rattle.std.proofs.Common.{◌≡◌, ℕ, Bool, true, false, cond, List, [], ◌∷◌, ◌++◌, find, Some, None, refl}

pub find_first : (p : List ℕ → Bool) (xs ys : List (List ℕ)) (x : List ℕ) → find p xs ≡ Some x → find p (xs ++ ys) ≡ Some x
find_first p [] ys x e = cc
find_first p (y ∷ xs) ys x e = by_test (p y) e (find_first p xs ys x)
  where
    by_test : (b : Bool) → cond b (Some y) (find p xs) ≡ Some x → (find p xs ≡ Some x → find p (xs ++ ys) ≡ Some x) → cond b (Some y) (find p (xs ++ ys)) ≡ Some x
    by_test true is later = is
    by_test false is later = later is

pub find_later : (p : List ℕ → Bool) (xs ys : List (List ℕ)) → find p xs ≡ None → find p (xs ++ ys) ≡ find p ys
find_later p [] ys e = refl
find_later p (y ∷ xs) ys e = by_test (p y) e (find_later p xs ys)
  where
    by_test : (b : Bool) → cond b (Some y) (find p xs) ≡ None → (find p xs ≡ None → find p (xs ++ ys) ≡ find p ys) → cond b (Some y) (find p (xs ++ ys)) ≡ find p ys
    by_test true is later = cc
    by_test false is later = later is
