-- Elements of lists by place.
use Rattle.std.proofs.Common.{ℕ, zero, suc, ◌+◌, ◌<◌, ◌≤◌, ◌≡◌, true, false, eqb, eqb-true, List, [], ◌∷◌, ◌++◌, length, map, take, All, Some, slice_get, get_or, refl, ap, ap₂, sym, ◌∙◌, arith}
use Rattle.std.specs.List.{AllZip, AllByRecursion, list_any}
use Rattle.std.proofs.lemmas.List.{map-append, take_more}
use Rattle.std.proofs.lemmas.Option.{none-some, slice_get-get_or}
use Rattle.std.proofs.lemmas.List.Folds.{Any-from_list_any}
use Rattle.std.proofs.lemmas.Map.Keys.{IsDistinct-from_apart}
use Rattle.std.proofs.lemmas.Map.Steps.{length-le_from_distinct_below}
use Rattle.std.proofs.lemmas.Bool.{ne_eqb}

-- what holds at each place
pub all_places : {X : Type 0} (P : X → Type 0) (xs : List X) → ((k : ℕ) (x : X) → slice_get xs k ≡ Some x → P x) → All P xs
all_places P xs h = λ k d inside. h k (get_or xs k d) (slice_get-get_or xs k d inside)

-- a list of the same length has something at the place
pub place_beside : {X Y : Type 0} (xs : List X) (ys : List Y) (k : ℕ) (x : X) → length xs ≡ length ys → slice_get xs k ≡ Some x → (y : Y) × (slice_get ys k ≡ Some y)
place_beside [] ys k x same e = absurd (none-some x e)
place_beside (z ∷ xs) [] k x same e = absurd (omega arith)
place_beside (z ∷ xs) (y ∷ ys) zero x same e = (y, refl)
place_beside (z ∷ xs) (y ∷ ys) (suc k) x same e = place_beside xs ys k x (omega arith) e

-- lists of the same readings
pub zip_read : {X Y Z : Type 0} (R : X → Y → Type 0) (f : X → Z) (h : Y → Z) (xs : List X) (ys : List Y) → map h ys ≡ map f xs → ((x : X) (y : Y) → f x ≡ h y → R x y) → AllZip R xs ys
zip_read R f h [] [] e from = tt
zip_read R f h [] (y ∷ ys) e from = absurd (cc)
zip_read R f h (x ∷ xs) [] e from = absurd (cc)
zip_read R f h (x ∷ xs) (y ∷ ys) e from =
    let first : f x ≡ h y = cc in
    let rest : map h ys ≡ map f xs = cc in
    (from x y first, zip_read R f h xs ys rest from)

pub zip_maps : {X Y V W : Type 0} (R : V → W → Type 0) (f : X → V) (h : Y → W) (xs : List X) (ys : List Y) → AllZip (λ x y. R (f x) (h y)) xs ys → AllZip R (map f xs) (map h ys)
zip_maps R f h [] [] a = tt
zip_maps R f h [] (y ∷ ys) a = absurd a
zip_maps R f h (x ∷ xs) [] a = absurd a
zip_maps R f h (x ∷ xs) (y ∷ ys) (r, a) = (r, zip_maps R f h xs ys a)

pub zip_right : {X Y : Type 0} (R : X → Y → Type 0) (Q : Y → Type 0) (xs : List X) (ys : List Y) → ((x : X) (y : Y) → R x y → Q y) → AllZip R xs ys → AllByRecursion Q ys
zip_right R Q [] [] from a = tt
zip_right R Q [] (y ∷ ys) from a = absurd a
zip_right R Q (x ∷ xs) [] from a = absurd a
zip_right R Q (x ∷ xs) (y ∷ ys) from (r, a) = (from x y r, zip_right R Q xs ys from a)

pub from_all_map : {X Y : Type 0} (P : Y → Type 0) (f : X → Y) (xs : List X) → AllByRecursion P (map f xs) → AllByRecursion (λ x. P (f x)) xs
from_all_map P f [] a = tt
from_all_map P f (x ∷ xs) (p, a) = (p, from_all_map P f xs a)

-- readings of the first elements, and one more
pub readings_more : {X Y Z : Type 0} (f : X → Z) (h : Y → Z) (xs : List X) (k : ℕ) (x : X) (ys : List Y) (y : Y) → k < length xs → x ≡ get_or xs k x → f x ≡ h y → map h ys ≡ map f (take k xs) → map h (ys ++ y ∷ []) ≡ map f (take (k + 1) xs)
readings_more f h xs k x ys y inside at here before =
    map-append h ys (y ∷ [])
    ∙ (ap₂ (λ zs z. zs ++ z ∷ []) before (sym here ∙ ap f at)
    ∙ (sym (map-append f (take k xs) (get_or xs k x ∷ [])) ∙ ap (map f) (sym (take_more xs k x inside))))

pub names_more : {X Y : Type 0} (h : Y → X) (xs : List X) (k : ℕ) (x : X) (ys : List Y) (y : Y) → k < length xs → x ≡ get_or xs k x → h y ≡ x → map h ys ≡ take k xs → map h (ys ++ y ∷ []) ≡ take (k + 1) xs
names_more h xs k x ys y inside at here before =
    map-append h ys (y ∷ []) ∙ (ap₂ (λ zs z. zs ++ z ∷ []) before (here ∙ at) ∙ sym (take_more xs k x inside))

-- numbers below n that differ are at most n
pub few_distinct : (xs : List ℕ) (n : ℕ) → ((i j c : ℕ) → slice_get xs i ≡ Some c → slice_get xs j ≡ Some c → i < j → ⊥) → ((i c : ℕ) → slice_get xs i ≡ Some c → c < n) → length xs ≤ n
few_distinct xs n apart below =
    length-le_from_distinct_below xs n (IsDistinct-from_apart eqb xs differ) within
  where
    differ : (i j d : ℕ) → i < j → j < length xs → eqb (get_or xs i d) (get_or xs j d) ≡ false
    differ i j d lt inside =
        let a = slice_get-get_or xs i d (omega arith) in
        let b = slice_get-get_or xs j d inside in
        ne_eqb (get_or xs i d) (get_or xs j d) (λ same. apart i j (get_or xs j d) (a ∙ ap (λ n. Some n) same) b lt)

    within : (q : ℕ) → list_any (eqb q) xs ≡ true → q < n
    within q e =
        let (k, x, inside, is, same) = Any-from_list_any (eqb q) xs e in
        let at : slice_get xs k ≡ Some q = slice_get-get_or xs k x inside ∙ ap (λ n. Some n) (is ∙ sym (eqb-true q x same)) in
        below k q at
