-- Elements of lists by place.
use Rattle.std.proofs.Common.{ℕ, zero, suc, ◌-◌, ◌<◌, ◌≤◌, ◌≡◌, List, [], ◌∷◌, ◌++◌, length, map, Option, Some, None, option_map, slice_get, slice_index_or, refl, ap, sym, ◌∙◌, subst, arith}
use Rattle.std.specs.List.{AllZip}
use Rattle.std.proofs.lemmas.Option.{same_Some, none-some, slice_get-get_or}

-- two lists side by side
module _ {A B : Type 0} (R : A → B → Type 0) where
  pub zip_places : (xs : List A) (ys : List B) → length xs ≡ length ys → ((j : ℕ) (x : A) (y : B) → slice_get xs j ≡ Some x → slice_get ys j ≡ Some y → R x y) → AllZip R xs ys
  zip_places [] [] e h = tt
  zip_places [] (y ∷ ys) e h = absurd (omega arith)
  zip_places (x ∷ xs) [] e h = absurd (omega arith)
  zip_places (x ∷ xs) (y ∷ ys) e h = (h zero x y refl refl, zip_places xs ys (omega arith) (λ j. h (suc j)))

  pub zip_at : (xs : List A) (ys : List B) (j : ℕ) (x : A) (y : B) → AllZip R xs ys → slice_get xs j ≡ Some x → slice_get ys j ≡ Some y → R x y
  zip_at [] ys j x y a e f = absurd (none-some x e)
  zip_at (p ∷ xs) [] j x y a e f = absurd a
  zip_at (p ∷ xs) (q ∷ ys) zero x y (r, a) e f = subst (λ z. R x z) (same_Some q y f) (subst (λ z. R z q) (same_Some p x e) r)
  zip_at (p ∷ xs) (q ∷ ys) (suc j) x y (r, a) e f = zip_at xs ys j x y a e f

  pub zip_left : (xs : List A) (ys : List B) (j : ℕ) (y : B) → AllZip R xs ys → slice_get ys j ≡ Some y → (x : A) × (slice_get xs j ≡ Some x)
  zip_left [] [] j y a e = absurd (none-some y e)
  zip_left [] (q ∷ ys) j y a e = absurd a
  zip_left (p ∷ xs) [] j y a e = absurd a
  zip_left (p ∷ xs) (q ∷ ys) zero y (r, a) e = (p, refl)
  zip_left (p ∷ xs) (q ∷ ys) (suc j) y (r, a) e = zip_left xs ys j y a e

  pub zip_right : (xs : List A) (ys : List B) (j : ℕ) (x : A) → AllZip R xs ys → slice_get xs j ≡ Some x → (y : B) × (slice_get ys j ≡ Some y) × R x y
  zip_right [] ys j x a e = absurd (none-some x e)
  zip_right (p ∷ xs) [] j x a e = absurd a
  zip_right (p ∷ xs) (q ∷ ys) zero x (r, a) e = (q, refl, subst (λ z. R z q) (same_Some p x e) r)
  zip_right (p ∷ xs) (q ∷ ys) (suc j) x (r, a) e = zip_right xs ys j x a e

-- the places of a map
module _ {A B : Type 0} (f : A → B) where
  pub map_at : (xs : List A) (j : ℕ) (x : A) → slice_get xs j ≡ Some x → slice_get (map f xs) j ≡ Some (f x)
  map_at [] j x e = absurd (none-some x e)
  map_at (z ∷ xs) zero x e = ap (λ y. Some (f y)) (same_Some z x e)
  map_at (z ∷ xs) (suc j) x e = map_at xs j x e

  pub from_map : (xs : List A) (j : ℕ) (y : B) → slice_get (map f xs) j ≡ Some y → (x : A) × (slice_get xs j ≡ Some x) × (f x ≡ y)
  from_map [] j y e = absurd (none-some y e)
  from_map (z ∷ xs) zero y e = (z, refl, same_Some (f z) y e)
  from_map (z ∷ xs) (suc j) y e = from_map xs j y e

-- the item of a loop
pub item_at : {A : Type 0} (xs ys : List A) (j : ℕ) (x : A) → xs ≡ ys → j < length xs → x ≡ slice_index_or xs j x → slice_get ys j ≡ Some x
item_at xs ys j x e lt is = subst (λ zs. slice_get zs j ≡ Some x) e (slice_get-get_or xs j x lt ∙ ap Some (sym is))

-- what is read from a list of optional numbers
pub read_map : {A B : Type 0} (f : Option A → Option B) → f None ≡ None → (xs : List (Option A)) (j : ℕ) → slice_index_or (map f xs) j None ≡ f (slice_index_or xs j None)
read_map f e [] j = sym e
read_map f e (z ∷ xs) zero = refl
read_map f e (z ∷ xs) (suc j) = read_map f e xs j

-- the first entries are there
pub some_left : (xs : List ℕ) (cs : List (Option ℕ)) (j c : ℕ) → slice_get xs j ≡ Some c → slice_index_or (map Some xs ++ cs) j None ≡ Some c
some_left [] cs j c e = absurd (none-some c e)
some_left (x ∷ xs) cs zero c e = e
some_left (x ∷ xs) cs (suc j) c e = some_left xs cs j c e

pub read_some : {A : Type 0} (xs : List A) (j : ℕ) (x : A) → slice_get xs j ≡ Some x → slice_index_or (map Some xs) j None ≡ Some x
read_some [] j x e = absurd (none-some x e)
read_some (z ∷ xs) zero x e = e
read_some (z ∷ xs) (suc j) x e = read_some xs j x e

pub somes_append : {A : Type 0} (xs ys : List A) → map Some xs ++ map Some ys ≡ map Some (xs ++ ys)
somes_append [] ys = refl
somes_append (x ∷ xs) ys = ap (λ zs. Some x ∷ zs) (somes_append xs ys)

-- an option that maps to a number holds what maps to it
pub some_mapped : {A : Type 0} (f : A → ℕ) (o : Option A) (n : ℕ) → option_map f o ≡ Some n → (x : A) × (o ≡ Some x) × (f x ≡ n)
some_mapped f None n e = absurd (none-some n e)
some_mapped f (Some x) n e = (x, refl, same_Some (f x) n e)

-- lists with the same entries are one
pub same_lists : {A : Type 0} (xs ys : List A) → length xs ≡ length ys → ((j : ℕ) → j < length xs → slice_get xs j ≡ slice_get ys j) → xs ≡ ys
same_lists [] [] e h = refl
same_lists [] (y ∷ ys) e h = absurd (omega arith)
same_lists (x ∷ xs) [] e h = absurd (omega arith)
same_lists (x ∷ xs) (y ∷ ys) e h =
    let head : x ≡ y = same_Some x y (h zero (omega arith)) in
    let rest : xs ≡ ys = same_lists xs ys (omega arith) (λ j lt. h (suc j) (omega arith)) in
    λ i. head i ∷ rest i
