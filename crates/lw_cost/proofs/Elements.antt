-- Elements of lists that are mapped, set or cut.
use Rattle.std.proofs.Common.{ℕ, zero, suc, ◌<◌, ◌≡◌, List, [], ◌∷◌, map, take, get_or, refl, ap, arith}
use Rattle.std.proofs.Math.ListN.{set}

pub get_or-map : {A B : Type 0} (f : A → B) (xs : List A) (k : ℕ) (d : A) → get_or (map f xs) k (f d) ≡ f (get_or xs k d)
get_or-map f [] k d = refl
get_or-map f (x ∷ xs) zero d = refl
get_or-map f (x ∷ xs) (suc k) d = get_or-map f xs k d

pub take_set : {A : Type 0} (n : ℕ) (xs : List A) (k : ℕ) (x : A) → k < n → take n (set xs k x) ≡ set (take n xs) k x
take_set zero xs k x lt = absurd (omega arith)
take_set (suc n) [] k x lt = refl
take_set (suc n) (y ∷ xs) zero x lt = refl
take_set (suc n) (y ∷ xs) (suc k) x lt = ap (λ zs. y ∷ zs) (take_set n xs k x (omega arith))
