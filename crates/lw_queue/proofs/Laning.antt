-- What waits in lanes.
use Rattle.std.proofs.Common.{◌≡◌, ℕ, zero, suc, ◌+◌, ◌<◌, ◌≤◌, ◌⊎◌, inl, inr, max, List, [], ◌∷◌, ◌++◌, length, take, Contains, Some, slice_get, slice_set, slice_index_or, refl, ap, sym, ◌∙◌, subst, arith}
use native.Mathlib.Nat.{eq-or-lt_of_le}
use Rattle.std.specs.List.Sorted.{IsPermutation}
use Rattle.std.proofs.lemmas.List.Sorted.{IsPermutation-refl, IsPermutation-trans, IsPermutation-append_right, IsPermutation-middle, IsPermutation-sym}
use Rattle.std.proofs.lemmas.List.{append_assoc, append-nil, take_more}
use Rattle.std.proofs.lemmas.List.Elements.{All-append, Contains-append_left, Contains-append_right}
use Rattle.std.proofs.lemmas.Option.{same_Some}
use Rattle.std.proofs.lemmas.Bool.{cases_lt}
use Rattle.lw_queue.specs.Queues.{Item, IsLane, IsMostLeft, HaveLess, flat}

pub lane_rest : (xs ys : List Item) (x : Item) (last : ℕ) → xs ≡ x ∷ ys → IsLane xs last → IsLane ys last
lane_rest xs ys x last e is = record {
  falling = λ i j y z lt yt zt. is.falling (suc i) (suc j) y z (omega arith) (subst (λ l. slice_get l (suc i) ≡ Some y) (sym e) yt) (subst (λ l. slice_get l (suc j) ≡ Some z) (sym e) zt);
  low = λ i y yt. is.low (suc i) y (subst (λ l. slice_get l (suc i) ≡ Some y) (sym e) yt);
}

-- one more waits behind a lane
pub flat_pushed : (lanes : List (List Item)) (i : ℕ) (lane : List Item) (x : Item) → slice_get lanes i ≡ Some lane → IsPermutation (x ∷ flat lanes) (flat (slice_set lanes i (lane ++ x ∷ [])))
flat_pushed [] i lane x at = cc
flat_pushed (l ∷ ls) zero lane x at =
    let e : lane ≡ l = sym (same_Some l lane at) in
    let back = subst (λ k. IsPermutation (x ∷ (k ++ flat ls)) (lane ++ (x ∷ flat ls))) e (IsPermutation-sym (lane ++ (x ∷ flat ls)) (x ∷ (lane ++ flat ls)) (IsPermutation-middle lane x (flat ls))) in
    subst (λ ys. IsPermutation (x ∷ (l ++ flat ls)) ys) (sym (append_assoc lane (x ∷ []) (flat ls))) back
flat_pushed (l ∷ ls) (suc i) lane x at =
    let next = flat (slice_set ls i (lane ++ x ∷ [])) in
    let more = IsPermutation-append_right l (x ∷ flat ls) next (flat_pushed ls i lane x at) in
    IsPermutation-trans (x ∷ (l ++ flat ls)) (l ++ (x ∷ flat ls)) (l ++ next) (IsPermutation-sym (l ++ (x ∷ flat ls)) (x ∷ (l ++ flat ls)) (IsPermutation-middle l x (flat ls))) more

-- the first of a lane is taken
pub flat_taken : (lanes : List (List Item)) (i : ℕ) (lane : List Item) (x : Item) → slice_get lanes i ≡ Some (x ∷ lane) → IsPermutation (flat lanes) (x ∷ flat (slice_set lanes i lane))
flat_taken [] i lane x at = cc
flat_taken (l ∷ ls) zero lane x at =
    subst (λ k. IsPermutation (k ++ flat ls) (x ∷ (lane ++ flat ls))) (sym (same_Some l (x ∷ lane) at)) (IsPermutation-refl (x ∷ (lane ++ flat ls)))
flat_taken (l ∷ ls) (suc i) lane x at =
    let next = flat (slice_set ls i lane) in
    IsPermutation-trans (l ++ flat ls) (l ++ (x ∷ next)) (x ∷ (l ++ next)) (IsPermutation-append_right l (flat ls) (x ∷ next) (flat_taken ls i lane x at)) (IsPermutation-middle l x next)

pub flat_snoc : (lanes : List (List Item)) (lane : List Item) → flat (lanes ++ lane ∷ []) ≡ flat lanes ++ lane
flat_snoc [] lane = append-nil lane
flat_snoc (l ∷ ls) lane = ap (λ xs. l ++ xs) (flat_snoc ls lane) ∙ sym (append_assoc l (flat ls) lane)

-- the most that is left of two lists
pub most_both : (xs ys : List Item) (a b m : ℕ) → m ≡ max a b → IsMostLeft xs (Some a) → IsMostLeft ys (Some b) → IsMostLeft (xs ++ ys) (Some m)
most_both xs ys a b m e ((x, xt, xe), xall) ((y, yt, ye), yall) = (by_case (cases_lt a b), All-append (λ (z : Item). z.0 ≤ m) xs ys (λ k d lt. let le = xall k d lt in omega arith) (λ k d lt. let le = yall k d lt in omega arith))
  where
    by_case : (a < b) ⊎ (b ≤ a) → (z : Item) × Contains (xs ++ ys) z × (z.0 ≡ m)
    by_case (inl lt) = (y, Contains-append_right xs ys y yt, omega arith)
    by_case (inr le) = (x, Contains-append_left xs ys x xt, omega arith)

pub flat_none : (lanes : List (List Item)) (lane : List Item) → flat lanes ≡ [] → lane ≡ [] → flat (lanes ++ lane ∷ []) ≡ []
flat_none lanes lane e f = flat_snoc lanes lane ∙ (ap (λ xs. xs ++ lane) e ∙ f)

pub flat_next : (lanes : List (List Item)) (i : ℕ) (lane xs : List Item) → i < length lanes → lane ≡ slice_index_or lanes i lane → (xs ++ flat (take i lanes)) ++ lane ≡ xs ++ flat (take (i + 1) lanes)
flat_next lanes i lane xs lt e =
    let more : take (i + 1) lanes ≡ take i lanes ++ lane ∷ [] = take_more lanes i lane lt ∙ ap (λ l. take i lanes ++ l ∷ []) (sym e) in
    append_assoc xs (flat (take i lanes)) lane ∙ ap (λ ys. xs ++ ys) (sym (flat_snoc (take i lanes) lane) ∙ ap flat (sym more))

pub set_same : (lanes : List (List Item)) (i : ℕ) (lane : List Item) → slice_get lanes i ≡ Some lane → slice_set lanes i lane ≡ lanes
set_same [] i lane at = refl
set_same (l ∷ ls) zero lane at = ap (λ k. k ∷ ls) (sym (same_Some l lane at))
set_same (l ∷ ls) (suc i) lane at = ap (λ ks. l ∷ ks) (set_same ls i lane at)

-- one lane more has less
pub less_next : (lanes : List (List Item)) (first i left : ℕ) (lane : List Item) → slice_get lanes i ≡ Some lane → HaveLess lane left → ((j : ℕ) (l : List Item) → first ≤ j → j < i → slice_get lanes j ≡ Some l → HaveLess l left) → (j : ℕ) (l : List Item) → first ≤ j → j < i + 1 → slice_get lanes j ≡ Some l → HaveLess l left
less_next lanes first i left lane at less all j l le lt jt = by_place (eq-or-lt_of_le {n = j} {m = i} (omega arith))
  where
    by_place : (j ≡ i) ⊎ (j < i) → HaveLess l left
    by_place (inr before) = all j l le before jt
    by_place (inl e) = subst (λ k. HaveLess k left) (same_Some lane l (sym at ∙ (ap (slice_get lanes) (sym e) ∙ jt))) less
