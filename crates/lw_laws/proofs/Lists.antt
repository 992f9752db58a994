-- Elements of lists by place.
use Rattle.std.proofs.Common.{ℕ, zero, suc, ◌<◌, ◌≡◌, List, [], ◌∷◌, ◌++◌, length, map, Contains, Some, slice_get, slice_index_or, refl, subst, arith}
use Rattle.std.specs.List.{AllByRecursion, AllZip}

pub slice_get_some : {X : Type 0} (xs : List X) (i : ℕ) → i < length xs → (x : X) × (slice_get xs i ≡ Some x)
slice_get_some [] i lt = absurd (omega arith)
slice_get_some (y ∷ xs) zero lt = (y, refl)
slice_get_some (y ∷ xs) (suc i) lt = slice_get_some xs i (omega arith)

-- what holds of each element, and of each element that a list contains
pub all_contains : {X : Type 0} (P : X → Type 0) (xs : List X) (x : X) → AllByRecursion P xs → Contains xs x → P x
all_contains P [] x a (k, lt, e) = absurd (omega arith)
all_contains P (y ∷ xs) x (p, a) (zero, lt, e) = subst P e p
all_contains P (y ∷ xs) x (p, a) (suc k, lt, e) = all_contains P xs x a (k, omega arith, e)

pub all_at : {X : Type 0} (P : X → Type 0) (xs : List X) → AllByRecursion P xs → (i : ℕ) (x : X) → slice_get xs i ≡ Some x → P x
all_at P [] a i x e = cc
all_at P (y ∷ xs) (p, a) zero x e = let k : y ≡ x = cc in subst P k p
all_at P (y ∷ xs) (p, a) (suc i) x e = all_at P xs a i x e

pub contains_all : {X : Type 0} (P : X → Type 0) (xs : List X) → ((x : X) → Contains xs x → P x) → AllByRecursion P xs
contains_all P [] f = tt
contains_all P (x ∷ xs) f = (f x (0, omega arith, refl), contains_all P xs (λ y (k, lt, e). f y (suc k, omega arith, e)))

pub all_append : {X : Type 0} (P : X → Type 0) (xs ys : List X) → AllByRecursion P xs → AllByRecursion P ys → AllByRecursion P (xs ++ ys)
all_append P [] ys a b = b
all_append P (x ∷ xs) ys (p, a) b = (p, all_append P xs ys a b)

pub all_map : {X Y : Type 0} (Q : X → Type 0) (P : Y → Type 0) (f : X → Y) (xs : List X) → ((x : X) → Q x → P (f x)) → AllByRecursion Q xs → AllByRecursion P (map f xs)
all_map Q P f [] h a = tt
all_map Q P f (x ∷ xs) h (q, a) = (h x q, all_map Q P f xs h a)

-- what a part of a list contains
pub held_in : {X : Type 0} (rows : List (List X)) (c : ℕ) (x : X) → Contains (slice_index_or rows c []) x → c < length rows
held_in [] c x (k, lt, e) = absurd (omega arith)
held_in (r ∷ rows) zero x at = omega arith
held_in (r ∷ rows) (suc c) x at = let ih = held_in rows c x at in omega arith

-- what holds of entries of two lists, place by place, for what follows from it
pub zip_weaker : {X Y : Type 0} (R S : X → Y → Type 0) → ((x : X) (y : Y) → R x y → S x y) → (xs : List X) (ys : List Y) → AllZip R xs ys → AllZip S xs ys
zip_weaker R S f [] [] a = tt
zip_weaker R S f [] (y ∷ ys) a = absurd a
zip_weaker R S f (x ∷ xs) [] a = absurd a
zip_weaker R S f (x ∷ xs) (y ∷ ys) (r, a) = (f x y r, zip_weaker R S f xs ys a)
