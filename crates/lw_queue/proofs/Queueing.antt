-- The first of the choices that wait.
use Rattle.std.proofs.Common.{◌≡◌, ◌≢◌, ℕ, zero, suc, max, ◌-◌, ◌<◌, ◌≤◌, List, [], ◌∷◌, ◌++◌, length, All, Contains, Some, ◌⊎◌, inl, inr, slice_get, slice_index_or, refl, ap, sym, subst, arith}
use native.Mathlib.Nat.{eq-or-lt_of_le}
use Rattle.std.specs.BinaryHeap.{IsHeap, IsUpperBound}
use Rattle.std.specs.Ordering.{nat_cmp, ordering_then}
use Rattle.std.specs.List.Sorted.{IsPermutation}
use Rattle.std.proofs.lemmas.List.Sorted.{first_le_from_greatest, All-permutation, Contains-permutation, IsPermutation-sym, IsPermutation-trans, IsPermutation-append_left, IsPermutation-append_right, IsPermutation-middle}
use Rattle.std.proofs.lemmas.List.Elements.{All-contains, All-cons, All-tail, All-append}
use Rattle.lw_queue.specs.Queues.{Item, item_cmp, flat, HaveLess, IsMostLeft, IsQueue, IsFirstTime, IsFirstOf, Queued, Waits}

pub most_is : (items : List Item) (x : Item) → Contains items x → IsUpperBound item_cmp x items → IsMostLeft items (Some x.0)
most_is items x there upper =
    ((x, there, refl), first_le_from_greatest (λ (a b : ℕ × ℕ). ordering_then (nat_cmp a.0 b.0) (nat_cmp a.1 b.1)) x items upper)

pub left_low : (horizon : ℕ) (items : List Item) (left : ℕ) → All (λ (x : Item). x.0 ≤ horizon) items → IsMostLeft items (Some left) → left ≤ horizon
left_low horizon items left within ((x, there, e), most) =
    let low = All-contains (λ (y : Item). y.0 ≤ horizon) items x within there in
    omega arith

pub first_is : (horizon : ℕ) (items : List Item) (left : ℕ) → All (λ (x : Item). x.0 ≤ horizon) items → IsMostLeft items (Some left) → IsFirstTime (record { horizon = horizon; items = items }) (Some (horizon - left))
first_is horizon items left within ((x, there, e), most) =
    let low : x.0 ≤ horizon = All-contains (λ (y : Item). y.0 ≤ horizon) items x within there in
    let back : horizon - (horizon - left) ≡ x.0 = omega arith in (
      (x.1.1, (omega arith, (x.1.0, subst (λ t. Contains items (t, x.1)) (sym back) there))),
      λ t n (le, (hint, in')).
          let below = All-contains (λ (y : Item). y.0 ≤ left) items (horizon - t, (hint, n)) most in' in
          omega arith,
    )

-- Where none waits before a time, none has more left than up to it.
pub none_before : (horizon time : ℕ) (items : List Item) → All (λ (x : Item). x.0 ≤ horizon) items → time ≤ horizon → ((t n : ℕ) → Waits (record { horizon = horizon; items = items }) t n → time ≤ t) → All (λ (x : Item). x.0 ≤ horizon - time) items
none_before horizon time items within le first k x lt =
    let y = slice_index_or items k x in
    let low : y.0 ≤ horizon = within k x lt in
    let back : horizon - (horizon - y.0) ≡ y.0 = omega arith in
    let there : Contains items y = (k, lt, same items k x lt) in
    let after = first (horizon - y.0) y.1.1 (omega arith, (y.1.0, subst (λ t. Contains items (t, y.1)) (sym back) there)) in
    omega (arith, after, low, le)
  where
    same : (xs : List Item) (k : ℕ) (x : Item) → k < length xs → slice_index_or xs k (slice_index_or xs k x) ≡ slice_index_or xs k x
    same [] k x lt = absurd (omega arith)
    same (z ∷ zs) zero x lt = refl
    same (z ∷ zs) (suc k) x lt = same zs k x (omega arith)

-- and where all have less left, none waits up to the time
pub none_at : (horizon time : ℕ) (items : List Item) → time ≤ horizon → All (λ (x : Item). x.0 < horizon - time) items → (t n : ℕ) → Waits (record { horizon = horizon; items = items }) t n → time < t
none_at horizon time items le less t n (within, (hint, there)) =
    let below = All-contains (λ (y : Item). y.0 < horizon - time) items (horizon - t, (hint, n)) less there in
    omega (arith, below, le, within)

all_left : (P : Item → Type 0) (xs ys : List Item) → All P (xs ++ ys) → All P xs
all_left P [] ys all k d lt = absurd (omega arith)
all_left P (x ∷ xs) ys all zero d lt = all 0 d (omega arith)
all_left P (x ∷ xs) ys all (suc k) d lt = all_left P xs ys (λ j e l. all (suc j) e (omega arith)) k d (omega arith)

all_right : (P : Item → Type 0) (xs ys : List Item) → All P (xs ++ ys) → All P ys
all_right P [] ys all = all
all_right P (x ∷ xs) ys all = all_right P xs ys (λ j e l. all (suc j) e (omega arith))

-- all lanes have less
pub lanes_less : (lanes : List (List Item)) (left : ℕ) → ((i : ℕ) (lane : List Item) → slice_get lanes i ≡ Some lane → HaveLess lane left) → All (λ (x : Item). x.0 ≤ left) (flat lanes) → All (λ (x : Item). x.0 < left) (flat lanes)
lanes_less [] left less low = λ k d lt. absurd (omega arith)
lanes_less (l ∷ ls) left less low =
    All-append (λ (x : Item). x.0 < left) l (flat ls) (less 0 l refl (all_left (λ (x : Item). x.0 ≤ left) l (flat ls) low)) (lanes_less ls left (λ i lane at. less (suc i) lane at) (all_right (λ (x : Item). x.0 ≤ left) l (flat ls) low))

-- One more waits.

pub pushed_lanes : (item : Item) (heap lanes lanes' : List Item) → IsPermutation (item ∷ lanes) lanes' → IsPermutation (item ∷ (heap ++ lanes)) (heap ++ lanes')
pushed_lanes item heap lanes lanes' perm =
    IsPermutation-trans (item ∷ (heap ++ lanes)) (heap ++ (item ∷ lanes)) (heap ++ lanes') (IsPermutation-sym (heap ++ (item ∷ lanes)) (item ∷ (heap ++ lanes)) (IsPermutation-middle heap item lanes)) (IsPermutation-append_right heap (item ∷ lanes) lanes' perm)

pub pushed_heap : (item : Item) (heap heap' lanes : List Item) → IsPermutation (item ∷ heap) heap' → IsPermutation (item ∷ (heap ++ lanes)) (heap' ++ lanes)
pushed_heap item heap heap' lanes perm = IsPermutation-append_left lanes (item ∷ heap) heap' perm

pub queue_pushed : (horizon : ℕ) (item : Item) (heap lanes heap' lanes' : List Item) → item.0 ≤ horizon → IsQueue horizon heap lanes → IsHeap item_cmp heap' → IsPermutation (item ∷ (heap ++ lanes)) (heap' ++ lanes') → IsQueue horizon heap' lanes'
queue_pushed horizon item heap lanes heap' lanes' low is ordered perm = record {
  is_heap = ordered;
  within = All-permutation (λ (x : Item). x.0 ≤ horizon) (item ∷ (heap ++ lanes)) (heap' ++ lanes') perm (All-cons (λ (x : Item). x.0 ≤ horizon) item (heap ++ lanes) low is.within);
}

-- One is taken.

pub taken_lanes : (item : Item) (heap lanes lanes' : List Item) → IsPermutation lanes (item ∷ lanes') → IsPermutation (heap ++ lanes) (item ∷ (heap ++ lanes'))
taken_lanes item heap lanes lanes' perm =
    IsPermutation-trans (heap ++ lanes) (heap ++ (item ∷ lanes')) (item ∷ (heap ++ lanes')) (IsPermutation-append_right heap lanes (item ∷ lanes') perm) (IsPermutation-middle heap item lanes')

pub taken_heap : (item : Item) (heap heap' lanes : List Item) → IsPermutation heap (item ∷ heap') → IsPermutation (heap ++ lanes) (item ∷ (heap' ++ lanes))
taken_heap item heap heap' lanes perm = IsPermutation-append_left lanes heap (item ∷ heap') perm

pub queue_taken : (horizon : ℕ) (item : Item) (heap lanes heap' lanes' : List Item) → IsQueue horizon heap lanes → IsHeap item_cmp heap' → IsPermutation (heap ++ lanes) (item ∷ (heap' ++ lanes')) → IsQueue horizon heap' lanes'
queue_taken horizon item heap lanes heap' lanes' is ordered perm = record {
  is_heap = ordered;
  within = All-tail (λ (x : Item). x.0 ≤ horizon) item (heap' ++ lanes') (All-permutation (λ (x : Item). x.0 ≤ horizon) (heap ++ lanes) (item ∷ (heap' ++ lanes')) perm is.within);
}

-- Nothing is left that waits at a time, before which nothing waits.
pub none_taken : (horizon time : ℕ) (heap : List Item) (lanes : List (List Item)) → IsQueue horizon heap (flat lanes) → time ≤ horizon → ((t n : ℕ) → Waits (record { horizon = horizon; items = heap ++ flat lanes }) t n → time ≤ t) → ((i : ℕ) (lane : List Item) → slice_get lanes i ≡ Some lane → HaveLess lane (horizon - time)) → (All (λ (x : Item). x.0 ≤ horizon - time) heap → All (λ (x : Item). x.0 < horizon - time) heap) → (t n : ℕ) → Waits (record { horizon = horizon; items = heap ++ flat lanes }) t n → time < t
none_taken horizon time heap lanes is le first less heap_less =
    let low = none_before horizon time (heap ++ flat lanes) is.within le first in
    let heap_low = all_left (λ (x : Item). x.0 ≤ horizon - time) heap (flat lanes) low in
    let lanes_low = all_right (λ (x : Item). x.0 ≤ horizon - time) heap (flat lanes) low in
    none_at horizon time (heap ++ flat lanes) le (All-append (λ (x : Item). x.0 < horizon - time) heap (flat lanes) (heap_less heap_low) (lanes_less lanes (horizon - time) less lanes_low))

pub heap_without : (left first : ℕ) (heap : List Item) → IsMostLeft heap (Some first) → first ≢ left → All (λ (x : Item). x.0 ≤ left) heap → All (λ (x : Item). x.0 < left) heap
heap_without left first heap ((x, there, e), most) ne low =
    let le = All-contains (λ (y : Item). y.0 ≤ left) heap x low there in
    let lt : first < left = strict first left (omega arith) ne in
    λ k d l. let m = most k d l in omega arith
  where
    strict : (a b : ℕ) → a ≤ b → a ≢ b → a < b
    strict a b le ne = by_case (eq-or-lt_of_le {n = a} {m = b} le)
      where
        by_case : (a ≡ b) ⊎ (a < b) → a < b
        by_case (inl e) = absurd (ne e)
        by_case (inr lt) = lt

pub taken_left : (items new : List Item) (x : Item) (left : ℕ) → IsMostLeft items (Some left) → IsPermutation items (x ∷ new) → IsUpperBound item_cmp x items → x.0 ≡ left
taken_left items new x left ((y, yt, e), most) perm upper =
    let there : Contains items x = Contains-permutation (x ∷ new) items x (IsPermutation-sym items (x ∷ new) perm) (0, omega arith, refl) in
    let (z, all) = most_is items x there upper in
    let above = All-contains (λ (w : Item). w.0 ≤ x.0) items y all yt in
    let below = All-contains (λ (w : Item). w.0 ≤ left) items x most there in
    omega arith

pub none_in : (left : ℕ) (heap : List Item) → heap ≡ [] → All (λ (x : Item). x.0 ≤ left) heap → All (λ (x : Item). x.0 < left) heap
none_in left heap e low k d lt = let z : length heap ≡ 0 = ap length e in absurd (omega arith)

pub none_waits : (q : Queued) → q.items ≡ [] → (t n : ℕ) → Waits q t n → ⊥
none_waits q e t n (le, (hint, (k, lt, f))) = let none : length q.items ≡ 0 = ap length e in absurd (omega arith)

-- one more than the most time that is left to one that waits
pub most_left : List Item → ℕ
most_left [] = 0
most_left (x ∷ xs) = max (suc x.0) (most_left xs)

most_above : (xs : List Item) (k : ℕ) (x : Item) → k < length xs → slice_index_or xs k x ≡ x → suc x.0 ≤ most_left xs
unfolding most_left
most_above [] k x lt e = absurd (omega arith)
most_above (y ∷ xs) zero x lt e = let f = ap (λ (z : Item). z.0) e in omega arith
most_above (y ∷ xs) (suc k) x lt e = let ih = most_above xs k x (omega arith) e in omega arith

most_below : (xs : List Item) (b : ℕ) → ((k : ℕ) (x : Item) → k < length xs → slice_index_or xs k x ≡ x → x.0 < b) → most_left xs ≤ b
unfolding most_left
most_below [] b all = omega arith
most_below (y ∷ xs) b all =
    let first = all 0 y (omega arith) refl in
    let rest = most_below xs b (λ k x lt e. all (suc k) x (omega arith) e) in
    omega arith

-- it is more than what is left from a time at which something waits
pub most_at : (q : Queued) (time n : ℕ) → Waits q time n → suc (q.horizon - time) ≤ most_left q.items
most_at q time n (le, (hint, (k, lt, e))) = most_above q.items k (q.horizon - time, (hint, n)) lt e

-- and no more where nothing waits up to the time
pub most_after : (q : Queued) (time : ℕ) → time ≤ q.horizon → All (λ (x : Item). x.0 ≤ q.horizon) q.items → ((t m : ℕ) → Waits q t m → time < t) → most_left q.items ≤ q.horizon - time
most_after q time le within later = most_below q.items (q.horizon - time) (λ j x jt f.
    let low : x.0 ≤ q.horizon = subst (λ (y : Item). y.0 ≤ q.horizon) f (within j x jt) in
    let back : q.horizon - (q.horizon - x.0) ≡ x.0 = omega arith in
    let there : Contains q.items (q.horizon - (q.horizon - x.0), x.1) = subst (λ d. Contains q.items (d, x.1)) (sym back) (j, jt, f) in
    let after = later (q.horizon - x.0) x.1.1 (omega arith, (x.1.0, there)) in
    omega (arith, after, low, le))

-- less is left where nothing waits or comes up to the first time
pub most_falls : (coming looked coming' looked' : Queued) (time : ℕ) → IsFirstOf coming looked (Some time) → time ≤ coming.horizon → looked.horizon ≡ coming.horizon → coming'.horizon ≡ coming.horizon → looked'.horizon ≡ coming.horizon → All (λ (x : Item). x.0 ≤ coming'.horizon) coming'.items → All (λ (x : Item). x.0 ≤ looked'.horizon) looked'.items → ((t m : ℕ) → Waits looked' t m → time < t) → ((t m : ℕ) → Waits coming' t m → time < t) → max (most_left coming'.items) (most_left looked'.items) < max (most_left coming.items) (most_left looked.items)
most_falls coming looked coming' looked' time (at, first, second) le e f g within within' over over' =
    let a = most_after coming' time (omega arith) within over' in
    let b = most_after looked' time (omega arith) within' over in
    by_case a b at
  where
    by_case : most_left coming'.items ≤ coming'.horizon - time → most_left looked'.items ≤ looked'.horizon - time → ((n : ℕ) × Waits coming time n) ⊎ ((n : ℕ) × Waits looked time n) → max (most_left coming'.items) (most_left looked'.items) < max (most_left coming.items) (most_left looked.items)
    by_case a b (inl (n, w)) = let c = most_at coming time n w in omega arith
    by_case a b (inr (n, w)) = let c = most_at looked time n w in omega arith

pub first_of : (p q : Queued) (one other : ℕ) → IsFirstTime p (Some one) → IsFirstTime q (Some other) → one < other → IsFirstOf p q (Some one)
first_of p q one other (w, first) (v, second) lt = (inl w, first, λ t n u. let le = second t n u in omega arith)

pub second_of : (p q : Queued) (one other : ℕ) → IsFirstTime p (Some one) → IsFirstTime q (Some other) → other ≤ one → IsFirstOf p q (Some other)
second_of p q one other (w, first) (v, second) lt = (inr v, (λ t n u. let le = first t n u in omega arith), second)
