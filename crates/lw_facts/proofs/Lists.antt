-- Facts about lists.
use Rattle.std.proofs.lemmas.Map.Keys.{IsDistinct-from_apart}
use Rattle.std.proofs.lemmas.Bool.{false_from_ne_true, false≢true}
use Rattle.lw_facts.specs.Sums.{total}
use Rattle.lw_facts.proofs.Numbers.{capped_more, times_ten_spread}
use Rattle.std.proofs.Common.{All, Bool, Contains, IsTrue, List, None, Option, Some, [], ap, arith, cond, drop, false, get_or, inl, inr, length, map, min, not, refl, replicate, reverse, slice_get, slice_index_or, subst, suc, suc-add, sym, take, true, zero, zero-add, ℕ, ◌&&◌, ◌*◌, ◌++◌, ◌+◌, ◌-◌, ◌<◌, ◌^◌, ◌∙◌, ◌∷◌, ◌≡◌, ◌≤◌, ◌⊎◌, ap₂, ◌||◌}
use Rattle.std.proofs.Math.Nat.{pow-succ'}
use Rattle.std.proofs.lemmas.Bool.Decides.{same_from_decides}
use Rattle.std.proofs.lemmas.Grind.{common_steps}
use Rattle.std.proofs.lemmas.Int.Digits.{digits_value_more}
use Rattle.std.proofs.lemmas.List.{drop-append-le, get_or-map, get_or-reverse, get_or-take, length-drop, length-map, length-reverse, length-take, take-append-le}
use Rattle.std.proofs.lemmas.List.Elements.{All-take}
use Rattle.std.proofs.lemmas.List.Sums.{AllPass-from_list_all, list_all-from_AllPass, prefix_len-le-length}
use Rattle.std.proofs.lemmas.Option.{get_or_from_slice_get, none-some, slice_get-get_or, slice_get_within, same_Some}
use Rattle.std.proofs.lemmas.Slice.Eq.{bytes_eq-Decides}
use Rattle.std.proofs.lemmas.Str.{digit_value_digit}
use Rattle.std.specs.Char.{digit_value, is_ascii_digit}
use Rattle.std.specs.Cmp.Lexicographic.{bytes_decides}
use Rattle.std.specs.Int.{IsInRange}
use Rattle.std.specs.List.{AllByRecursion, AllByRecursion as Each, IsDistinct, list_all, position, position_or_len, range_with_len, slice_range, list_any}
use Rattle.std.specs.Prelude.{unwrap_or}
use Rattle.std.specs.Str.{bytes_eq}
use Rattle.std.specs.Str.Parse.{digits_value, digits_value_after}

pub falses_at : (n j : ℕ) → slice_index_or (replicate n false) j false ≡ false
falses_at zero j = refl
falses_at (suc n) zero = refl
falses_at (suc n) (suc j) = falses_at n j

pub all_append_names : (P : List ℕ → Type 0) (xs ys : List (List ℕ)) → AllByRecursion P xs → AllByRecursion P ys → AllByRecursion P (xs ++ ys)
all_append_names P [] ys first second = second
all_append_names P (x ∷ xs) ys first second = (first.0, all_append_names P xs ys first.1 second)

pub range_join : (s a b : ℕ) → range_with_len s a ++ range_with_len (s + a) b ≡ range_with_len s (a + b)
range_join s zero b =
    let e : s + 0 ≡ s = omega arith in
    let f : 0 + b ≡ b = omega arith in
    rw (e, f) refl
range_join s (suc a) b =
    let e : s + suc a ≡ s + 1 + a = omega arith in
    let f : suc a + b ≡ suc (a + b) = omega arith in
    rw (e, f) (ap (λ xs. s ∷ xs) (range_join (s + 1) a b))

pub distinct_left : (xs ys : List (List ℕ)) → IsDistinct bytes_eq (xs ++ ys) → IsDistinct bytes_eq xs
unfolding IsDistinct
distinct_left [] ys d = tt
distinct_left (x ∷ xs) ys d = (front xs d.0, distinct_left xs ys d.1)
  where
    front : (zs : List (List ℕ)) → Each (λ z. bytes_eq x z ≡ false) (zs ++ ys) → Each (λ z. bytes_eq x z ≡ false) zs
    front [] each = tt
    front (z ∷ zs) each = (each.0, front zs each.1)

-- a part of digits has digits alone
pub digits_take : (n : ℕ) (ds : List ℕ) → list_all is_ascii_digit ds ≡ true → list_all is_ascii_digit (take n ds) ≡ true
digits_take n ds all = list_all-from_AllPass is_ascii_digit (take n ds) (All-take (λ d. is_ascii_digit d ≡ true) n ds (AllPass-from_list_all is_ascii_digit ds all))

pub drop_get : {A : Type 0} (xs : List A) (i : ℕ) (x : A) → slice_get xs i ≡ Some x → drop i xs ≡ x ∷ drop (i + 1) xs
drop_get [] i x e = cc
drop_get (y ∷ xs) zero x e = let same : y ≡ x = cc in ap (λ z. z ∷ xs) same
drop_get (y ∷ xs) (suc i) x e =
    let more : suc i + 1 ≡ suc (i + 1) = omega arith in
    drop_get xs i x e ∙ ap (λ n. x ∷ drop n (y ∷ xs)) (sym more)

pub take_get : {A : Type 0} (xs : List A) (i : ℕ) (x : A) → slice_get xs i ≡ Some x → take (i + 1) xs ≡ take i xs ++ x ∷ []
take_get [] i x e = cc
take_get (y ∷ xs) zero x e = let same : y ≡ x = cc in ap (λ z. z ∷ []) same
take_get (y ∷ xs) (suc i) x e =
    let more : suc i + 1 ≡ suc (i + 1) = omega arith in
    ap (λ n. take n (y ∷ xs)) more ∙ ap (λ r. y ∷ r) (take_get xs i x e)

pub get_drop : {A : Type 0} (xs : List A) (from i : ℕ) → slice_get (drop from xs) i ≡ slice_get xs (from + i)
get_drop xs zero i = let same : 0 + i ≡ i = omega arith in sym (ap (slice_get xs) same)
get_drop [] (suc from) i = let more : suc from + i ≡ suc (from + i) = omega arith in sym (ap (slice_get []) more)
get_drop (x ∷ xs) (suc from) i =
    let more : suc from + i ≡ suc (from + i) = omega arith in
    get_drop xs from i ∙ sym (ap (slice_get (x ∷ xs)) more)

-- a part that is longer by one
pub slice_range_more : {A : Type 0} (xs : List A) (from i : ℕ) (x : A) → from ≤ i → slice_get xs i ≡ Some x → slice_range xs from (i + 1) ≡ slice_range xs from i ++ x ∷ []
slice_range_more xs from i x le e =
    let more : i + 1 - from ≡ (i - from) + 1 = omega arith in
    let place : from + (i - from) ≡ i = omega arith in
    ap (λ n. take n (drop from xs)) more
    ∙ take_get (drop from xs) (i - from) x (get_drop xs from (i - from) ∙ (ap (slice_get xs) place ∙ e))

-- the first element decides, or the others do
pub list_all_get : (p : List ℕ → Bool) (words : List (List ℕ)) (i : ℕ) (word : List ℕ) (b : Bool) → slice_get words i ≡ Some word → p word ≡ b → list_all p (drop i words) ≡ (b && list_all p (drop (i + 1) words))
list_all_get p words i word b e is = ap (list_all p) (drop_get words i word e) ∙ ap (λ t. t && list_all p (drop (i + 1) words)) is

pub some_within : {A : Type 0} (xs : List (Option A)) (j : ℕ) (x : A) → slice_index_or xs j None ≡ Some x → j < length xs
some_within [] j x e = absurd (none-some x e)
some_within (z ∷ xs) zero x e = omega arith
some_within (z ∷ xs) (suc j) x e = let ih = some_within xs j x e in omega arith

-- what holds of all entries, at a place
pub all_at : {A : Type 0} (P : A → Type 0) (xs : List A) (j : ℕ) (x : A) → All P xs → slice_get xs j ≡ Some x → P x
all_at P xs j x all at = subst P (get_or_from_slice_get xs j x x at) (all j x (slice_get_within xs j x at))

pub contains_map : {A B : Type 0} (f : A → B) (xs : List A) (x : A) → Contains xs x → Contains (map f xs) (f x)
contains_map f xs x (k, lt, e) = (k, subst (λ n. k < n) (sym (length-map xs f)) lt, get_or-map f xs k x (f x) lt ∙ ap f e)

pub bytes_eq_is : (xs ys : List ℕ) → bytes_eq xs ys ≡ true → xs ≡ ys
bytes_eq_is xs ys e = (bytes_eq-Decides xs ys).0 e

pub bytes_eq_same : (xs ys : List ℕ) → xs ≡ ys → bytes_eq xs ys ≡ true
bytes_eq_same xs ys e = (bytes_eq-Decides xs ys).1 e

-- what is not equal is told apart
pub bytes_differ : (x y : List ℕ) → (x ≡ y → ⊥) → bytes_eq x y ≡ false
bytes_differ x y differ = false_from_ne_true (bytes_eq x y) (λ same. differ (bytes_eq_is x y same))

pub bytes_eq_turned : (x y : List ℕ) → bytes_eq x y ≡ bytes_eq y x
bytes_eq_turned x y = same_from_decides (bytes_eq x y) (bytes_eq y x) (bytes_decides x y) (let d = bytes_decides y x in (λ e. sym (d.0 e), λ e. d.1 (sym e)))

pub bytes_differ_turned : (x y : List ℕ) → bytes_eq x y ≡ false → bytes_eq y x ≡ false
bytes_differ_turned x y e = bytes_eq_turned y x ∙ e

-- a name that is not one before it
pub differs_at : (x : List ℕ) (ys : List (List ℕ)) (k : ℕ) (e : List ℕ) → AllByRecursion (λ y. bytes_eq x y ≡ false) ys → k < length ys → bytes_eq x (get_or ys k e) ≡ false
differs_at x [] k e all lt = absurd (omega arith)
differs_at x (y ∷ ys) zero e all lt = all.0
differs_at x (y ∷ ys) (suc k) e all lt = differs_at x ys k e all.1 (omega arith)

-- a name is none of those before it
pub none_before : (names : List (List ℕ)) (i : ℕ) (d : List ℕ) → IsDistinct bytes_eq names → i < length names → list_any (bytes_eq (get_or names i d)) (take i names) ≡ false
unfolding IsDistinct
none_before [] i d distinct below = absurd (omega arith)
none_before (x ∷ xs) zero d distinct below = refl
none_before (x ∷ xs) (suc i) d distinct below =
    let inside : i < length xs = omega arith in
    ap₂ (λ a b. a || b) (bytes_differ_turned x (get_or xs i d) (differs_at x xs i d distinct.0 inside)) (none_before xs i d distinct.1 inside)

-- the same, for a list that is given in two parts
pub none_among : (xs : List (List ℕ)) (x : List ℕ) (rest : List (List ℕ)) → IsDistinct bytes_eq (xs ++ x ∷ rest) → list_any (bytes_eq x) xs ≡ false
unfolding IsDistinct
none_among [] x rest d = refl
none_among (y ∷ xs) x rest d = ap₂ (λ a b. a || b) (bytes_differ_turned y x (middle xs d.0)) (none_among xs x rest d.1)
  where
    middle : (zs : List (List ℕ)) → Each (λ z. bytes_eq y z ≡ false) (zs ++ x ∷ rest) → bytes_eq y x ≡ false
    middle [] each = each.0
    middle (z ∷ zs) each = middle zs each.1

-- names of which no two are one
pub distinct_of : (xs : List (List ℕ)) → ((i j : ℕ) (name : List ℕ) → slice_get xs i ≡ Some name → slice_get xs j ≡ Some name → i ≡ j) → IsDistinct bytes_eq xs
distinct_of xs differ = IsDistinct-from_apart bytes_eq xs (λ i j d before within. bytes_differ (get_or xs i d) (get_or xs j d) (λ same.
    let one = slice_get-get_or xs i d (omega (arith, before, within)) in
    let other = slice_get-get_or xs j d within in
    let is : i ≡ j = differ i j (get_or xs j d) (subst (λ (x : List ℕ). slice_get xs i ≡ Some x) same one) other in
    omega (arith, is, before)))

-- a new name put at the end
pub distinct_push : (names : List (List ℕ)) (name : List ℕ) → IsDistinct bytes_eq names → list_any (bytes_eq name) names ≡ false → IsDistinct bytes_eq (names ++ name ∷ [])
unfolding IsDistinct
distinct_push [] name distinct is = (tt, tt)
distinct_push (x ∷ xs) name distinct is = by_test (bytes_eq name x) refl is (distinct_push xs name distinct.1)
  where
    by_test : (b : Bool) → bytes_eq name x ≡ b → (b || list_any (bytes_eq name) xs) ≡ false → (list_any (bytes_eq name) xs ≡ false → IsDistinct bytes_eq (xs ++ name ∷ [])) → IsDistinct bytes_eq ((x ∷ xs) ++ name ∷ [])
    by_test true e now rest = absurd (false≢true (sym now))
    by_test false e now rest = (all_append_names (λ y. bytes_eq x y ≡ false) xs (name ∷ []) distinct.0 (bytes_differ_turned name x e, tt), rest now)

pub first_position : (x : List ℕ) (xs : List (List ℕ)) → position_or_len (bytes_eq x) (x ∷ xs) ≡ 0
first_position x xs = grind (arith, bytes_eq_same x x refl)

pub first_place : (names : List (List ℕ)) (k : ℕ) (d : List ℕ) → IsDistinct bytes_eq names → k < length names → position_or_len (bytes_eq (get_or names k d)) names ≡ k
unfolding IsDistinct
first_place [] k d distinct lt = absurd (omega arith)
first_place (x ∷ xs) zero d distinct lt = first_position x xs
first_place (x ∷ xs) (suc k) d distinct lt = by_test (bytes_eq (get_or xs k d) x) (bytes_differ_turned x (get_or xs k d) (differs_at x xs k d distinct.0 (omega arith))) (first_place xs k d distinct.1 (omega arith))
  where
    by_test : (b : Bool) → b ≡ false → position_or_len (bytes_eq (get_or xs k d)) xs ≡ k → cond (not b) (1 + position_or_len (bytes_eq (get_or xs k d)) xs) 0 ≡ suc k
    by_test false is rest = omega (arith, rest)
    by_test true is rest = cc

pub contains_cases : {X : Type 0} (y : X) (xs : List X) (x : X) → Contains (y ∷ xs) x → (y ≡ x) ⊎ Contains xs x
contains_cases y xs x (zero, lt, e) = inl e
contains_cases y xs x (suc k, lt, e) = inr (k, omega arith, e)

pub contains_tail : {X : Type 0} (y : X) (xs : List X) (x : X) → Contains xs x → Contains (y ∷ xs) x
contains_tail y xs x (k, lt, e) = (suc k, omega arith, e)

-- a place of a list in a longer one
pub get_right : {X : Type 0} (xs ys : List X) (k : ℕ) (x : X) → slice_get ys k ≡ Some x → slice_get (xs ++ ys) (length xs + k) ≡ Some x
get_right [] ys k x e = rw zero-add e
get_right (z ∷ xs) ys k x e = rw suc-add (get_right xs ys k x e)

pub at_contained : {X : Type 0} (xs : List X) (k : ℕ) (x : X) → slice_get xs k ≡ Some x → Contains xs x
at_contained xs k x e = (k, slice_get_within xs k x e, get_or_from_slice_get xs k x x e)

-- what holds of the entry at each place holds of all
pub all_by_place : {A : Type 0} (P : A → Type 0) (xs : List A) → ((j : ℕ) (x : A) → slice_get xs j ≡ Some x → P x) → AllByRecursion P xs
all_by_place P [] h = tt
all_by_place P (x ∷ xs) h = (h zero x refl, all_by_place P xs (λ j. h (suc j)))

-- an element at a place of a list
pub contained_at : {X : Type 0} (xs : List X) (x : X) → Contains xs x → (k : ℕ) × (slice_get xs k ≡ Some x)
contained_at xs x (k, lt, e) = (k, slice_get-get_or xs k x lt ∙ ap (λ y. Some y) e)

-- the places before one from the last down
pub get_reverse : {X : Type 0} (xs : List X) (k : ℕ) (d : X) → k < length xs → slice_get xs (length xs - 1 - k) ≡ Some (get_or (reverse xs) k d)
get_reverse xs k d lt = slice_get-get_or xs (length xs - 1 - k) d (omega arith) ∙ ap (λ x. Some x) (sym (get_or-reverse xs k d lt))

pub contains_take_reverse : {X : Type 0} (xs : List X) (k : ℕ) (x : X) → Contains (take k (reverse xs)) x → (i : ℕ) × (i < k) × (i < length xs) × (slice_get xs (length xs - 1 - i) ≡ Some x)
contains_take_reverse xs k x (i, lt, e) =
    let size : length (take k (reverse xs)) ≡ min k (length (reverse xs)) = length-take k (reverse xs) in
    let back : length (reverse xs) ≡ length xs = length-reverse xs in
    let in' : i < length xs = omega (arith, lt, size, back) in
    let low : i < k = omega (arith, lt, size) in
    (i, low, in', get_reverse xs i x in' ∙ ap (λ y. Some y) (sym (get_or-take k (reverse xs) i x low) ∙ e))

pub contains_reverse : {X : Type 0} (xs : List X) (x : X) → Contains xs x → Contains (reverse xs) x
contains_reverse xs x (k, lt, e) =
    let back : length (reverse xs) ≡ length xs = length-reverse xs in
    let turned : length xs - 1 - (length xs - 1 - k) ≡ k = omega arith in
    (length xs - 1 - k, omega (arith, lt, back), get_or-reverse xs (length xs - 1 - k) x (omega arith) ∙ (ap (λ n. get_or xs n x) turned ∙ e))

-- where none passes, the position is the length
pub position_or_length : {X : Type 0} (p : X → Bool) (xs : List X) → unwrap_or (position p xs) (length xs) ≡ position_or_len p xs
position_or_length p xs = grind (arith, common_steps, prefix_len-le-length)

pub drop_point : (whole rest : List ℕ) → drop (suc (length whole)) (whole ++ 46 ∷ rest) ≡ rest
drop_point [] rest = refl
drop_point (d ∷ ds) rest = drop_point ds rest

pub digits_value_split : (n : ℕ) (ds : List ℕ) → digits_value_after 10 n ds ≡ n * 10 ^ length ds + digits_value 10 ds
digits_value_split n [] = omega arith
digits_value_split n (d ∷ ds) =
    let here : digits_value_after 10 (n * 10 + digit_value d) ds ≡ (n * 10 + digit_value d) * 10 ^ length ds + digits_value 10 ds = digits_value_split (n * 10 + digit_value d) ds in
    let zero_here : digits_value_after 10 (0 * 10 + digit_value d) ds ≡ (0 * 10 + digit_value d) * 10 ^ length ds + digits_value 10 ds = digits_value_split (0 * 10 + digit_value d) ds in
    let power : 10 ^ suc (length ds) ≡ 10 * 10 ^ length ds = pow-succ' 10 (length ds) in
    let apart : (n * 10 + digit_value d) * 10 ^ length ds ≡ n * (10 * 10 ^ length ds) + digit_value d * 10 ^ length ds = times_ten_spread n (digit_value d) (10 ^ length ds) in
    rw power (omega arith)

-- each of the digits is a digit
pub digit_at : (ds : List ℕ) (i : ℕ) → IsTrue (list_all is_ascii_digit ds) → i < length ds → IsInRange 48 57 (get_or ds i 0)
digit_at [] i all lt = absurd (omega arith)
digit_at (d ∷ ds) zero all lt = grind (arith, common_steps)
digit_at (d ∷ ds) (suc i) all lt = digit_at ds i (grind (arith, common_steps)) (omega arith)

-- one more digit
pub decimal_value_more : (ds : List ℕ) (i : ℕ) → IsTrue (list_all is_ascii_digit ds) → i < length ds → digits_value 10 (take (i + 1) ds) ≡ digits_value 10 (take i ds) * 10 + (get_or ds i 0 - 48)
decimal_value_more ds i all lt =
    let digit : IsInRange 48 57 (get_or ds i 0) = digit_at ds i all lt in
    let value : digit_value (get_or ds i 0) + 48 ≡ get_or ds i 0 = digit_value_digit _ digit in
    let more : digits_value 10 (take (i + 1) ds) ≡ digits_value 10 (take i ds) * 10 + digit_value (get_or ds i 0) = digits_value_more 10 ds i lt in
    omega arith

pub capped_step : (ds : List ℕ) (i cap v d w : ℕ) → IsTrue (list_all is_ascii_digit ds) → i < length ds → v ≡ min (digits_value 10 (take i ds)) cap → d ≡ get_or ds i 0 - 48 → w ≡ min (v * 10 + d) cap → w ≡ min (digits_value 10 (take (i + 1) ds)) cap
capped_step ds i cap v d w all lt before digit now =
    let more : digits_value 10 (take (i + 1) ds) ≡ digits_value 10 (take i ds) * 10 + (get_or ds i 0 - 48) = decimal_value_more ds i all lt in
    let capped : min (min (digits_value 10 (take i ds)) cap * 10 + d) cap ≡ min (digits_value 10 (take i ds) * 10 + d) cap = capped_more _ _ _ in
    cc

pub all_front : {X : Type 0} (P : X → Type 0) (xs ys : List X) → AllByRecursion P (xs ++ ys) → AllByRecursion P xs
all_front P [] ys a = tt
all_front P (x ∷ xs) ys (p, a) = (p, all_front P xs ys a)

pub all_last : {X : Type 0} (P : X → Type 0) (xs : List X) (x : X) → AllByRecursion P (xs ++ x ∷ []) → P x
all_last P [] x (p, a) = p
all_last P (y ∷ xs) x (p, a) = all_last P xs x a

-- places of a list with an entry put at its end
pub get_left : {X : Type 0} (xs ys : List X) (b : ℕ) (x : X) → slice_get xs b ≡ Some x → slice_get (xs ++ ys) b ≡ Some x
get_left [] ys b x e = cc
get_left (z ∷ xs) ys zero x e = e
get_left (z ∷ xs) ys (suc b) x e = get_left xs ys b x e

pub get_last : {X : Type 0} (xs : List X) (x : X) → slice_get (xs ++ x ∷ []) (length xs) ≡ Some x
get_last [] x = refl
get_last (z ∷ xs) x = get_last xs x

-- an entry of a list with one more is one of the list, or the last
pub get_last_cases : {X : Type 0} (xs : List X) (y : X) (b : ℕ) (x : X) → slice_get (xs ++ y ∷ []) b ≡ Some x → (slice_get xs b ≡ Some x) ⊎ ((b ≡ length xs) × (x ≡ y))
get_last_cases [] y zero x e = inr (refl, cc)
get_last_cases [] y (suc b) x e = cc
get_last_cases (z ∷ xs) y zero x e = inl e
get_last_cases (z ∷ xs) y (suc b) x e = next (get_last_cases xs y b x e) where
  next : (slice_get xs b ≡ Some x) ⊎ ((b ≡ length xs) × (x ≡ y)) → (slice_get (z ∷ xs) (suc b) ≡ Some x) ⊎ ((suc b ≡ length (z ∷ xs)) × (x ≡ y))
  next (inl e) = inl e
  next (inr (e, k)) = inr (ap suc e, k)

pub contained_in_map : {X Y : Type 0} (f : X → Y) (xs : List X) (y : Y) → Contains (map f xs) y → (x : X) × Contains xs x × (f x ≡ y)
contained_in_map f [] y (k, lt, e) = absurd (omega arith)
contained_in_map f (x ∷ xs) y (zero, lt, e) = (x, (0, omega arith, refl), e)
contained_in_map f (x ∷ xs) y (suc k, lt, e) =
    let (z, (j, l, d), s) = contained_in_map f xs y (k, omega arith, e) in (z, (suc j, omega arith, d), s)

-- an entry of a map
pub record IsImage {A B : Type 0} (f : A → B) (xs : List A) (j : ℕ) (y : B) : Type 0 where
  pub from : A
  pub at : slice_get xs j ≡ Some from
  pub is : f from ≡ y

pub image_at : {A B : Type 0} (f : A → B) (xs : List A) (j : ℕ) (y : B) → slice_get (map f xs) j ≡ Some y → IsImage f xs j y
image_at f [] j y e = absurd (none-some y e)
image_at f (x ∷ xs) zero y e = record { from = x; at = refl; is = same_Some (f x) y e }
image_at f (x ∷ xs) (suc j) y e = let i = image_at f xs j y e in record { from = i.from; at = i.at; is = i.is }

pub index_at : (xs : List ℕ) (k c : ℕ) → slice_get xs k ≡ Some c → slice_index_or xs k 0 ≡ c
index_at [] k c e = cc
index_at (x ∷ xs) ℕ.zero c e = cc
index_at (x ∷ xs) (ℕ.suc k) c e = index_at xs k c e

pub distinct_take : (k : ℕ) (xs : List (List ℕ)) → IsDistinct bytes_eq xs → IsDistinct bytes_eq (take k xs)
unfolding IsDistinct
distinct_take zero xs h = tt
distinct_take (suc k) [] h = tt
distinct_take (suc k) (x ∷ xs) h = (each-front k xs h.0, distinct_take k xs h.1)
  where
    each-front : (j : ℕ) (ys : List (List ℕ)) → Each (λ y. bytes_eq x y ≡ false) ys → Each (λ y. bytes_eq x y ≡ false) (take j ys)
    each-front zero ys each = tt
    each-front (suc j) [] each = tt
    each-front (suc j) (y ∷ ys) each = (each.0, each-front j ys each.1)

-- a stored match has a place in the list of its class
pub get_append_cases : {X : Type 0} (xs ys : List X) (j : ℕ) (x : X) → slice_get (xs ++ ys) j ≡ Some x → (slice_get xs j ≡ Some x) ⊎ ((k : ℕ) × (slice_get ys k ≡ Some x))
get_append_cases [] ys j x e = inr (j, e)
get_append_cases (y ∷ xs) ys zero x e = inl e
get_append_cases (y ∷ xs) ys (suc j) x e = get_append_cases xs ys j x e

pub slice_range_append : (bytes more : List ℕ) (from end : ℕ) → from ≤ length bytes → end ≤ length bytes → slice_range (bytes ++ more) from end ≡ slice_range bytes from end
slice_range_append bytes more from end low high =
    ap (λ b. take (end - from) b) (drop-append-le from bytes more low)
    ∙ take-append-le (end - from) (drop from bytes) more (omega (arith, length-drop from bytes))

total_suc : (xs : List ℕ) (k : ℕ) → k < length xs → total (take (suc k) xs) ≡ total (take k xs) + slice_index_or xs k 0
total_suc [] k lt = absurd (omega arith)
total_suc (x ∷ xs) zero lt = omega arith
total_suc (x ∷ xs) (suc k) lt = let ih = total_suc xs k (omega arith) in omega arith

-- the sum of one more
pub total_more : (xs : List ℕ) (k : ℕ) → k < length xs → total (take (k + 1) xs) ≡ total (take k xs) + slice_index_or xs k 0
total_more xs k lt =
    let one : suc k ≡ k + 1 = omega arith in
    subst (λ n. total (take n xs) ≡ total (take k xs) + slice_index_or xs k 0) one (total_suc xs k lt)
