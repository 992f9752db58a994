-- Points of all classes are as many as those of each class together.
use Rattle.std.proofs.Common.{◌≡◌, ◌≢◌, ℕ, zero, suc, ◌+◌, ◌<◌, ◌≤◌, ◌⊎◌, inl, inr, max, length, replicate, List, [], ◌∷◌, Contains, Some, slice_get, refl, ap, ◌∙◌, subst, arith}
use Rattle.std.proofs.lemmas.Option.{same_Some}
use Rattle.lw_curves.specs.declared.point.Point.{Point}
use Rattle.lw_curves.specs.CurveTables.{point_of, IsRow, AreRows}
use Rattle.lw_curves.specs.Lasts.{ArePointsRising}
use Rattle.lw_curves.specs.Points.{point_count}
use Rattle.lw_curves.specs.Settling.{Spot, spot, Has, AreApart}
use Rattle.lw_choices.proofs.Lists.{at_contained, contained_at, in_tail}
use Rattle.lw_curves.proofs.Stepping.{in_cons}

-- the rows with a point in front of one of them
abbrev add_to : List (List Point) → ℕ → Point → List (List Point)
add_to [] c p = []
add_to (row ∷ rows) zero p = (p ∷ row) ∷ rows
add_to (row ∷ rows) (suc c) p = row ∷ add_to rows c p

-- rows for so many classes
abbrev pub grouped : ℕ → List Spot → List (List Point)
grouped n [] = replicate n []
grouped n (k ∷ ks) = add_to (grouped n ks) k.class (point_of k)

-- more than each class
abbrev pub above : List Spot → ℕ
above [] = 0
above (k ∷ ks) = max (suc k.class) (above ks)

pub below_above : (ks : List Spot) (k : Spot) → Has ks k → k.class < above ks
below_above [] k (i, at) = cc
below_above (l ∷ ks) k (zero, at) = let e = ap (λ (x : Spot). x.class) (same_Some l k at) in omega arith
below_above (l ∷ ks) k (suc i, at) = let ih = below_above ks k (i, at) in omega arith

length_add : (rows : List (List Point)) (c : ℕ) (p : Point) → length (add_to rows c p) ≡ length rows
length_add [] c p = refl
length_add (row ∷ rows) zero p = refl
length_add (row ∷ rows) (suc c) p = ap suc (length_add rows c p)

length_none : (n : ℕ) → length (replicate {A = List Point} n []) ≡ n
length_none zero = refl
length_none (suc n) = ap suc (length_none n)

length_grouped : (n : ℕ) (ks : List Spot) → length (grouped n ks) ≡ n
length_grouped n [] = length_none n
length_grouped n (k ∷ ks) = length_add (grouped n ks) k.class (point_of k) ∙ length_grouped n ks

count_add : (rows : List (List Point)) (c : ℕ) (p : Point) → c < length rows → point_count (add_to rows c p) ≡ suc (point_count rows)
count_add [] c p lt = absurd (omega arith)
count_add (row ∷ rows) zero p lt = omega arith
count_add (row ∷ rows) (suc c) p lt = let ih = count_add rows c p (omega arith) in omega arith

count_none : (n : ℕ) → point_count (replicate n []) ≡ 0
count_none zero = refl
count_none (suc n) = let ih = count_none n in omega arith

pub count_grouped : (n : ℕ) (ks : List Spot) → ((k : Spot) → Has ks k → k.class < n) → point_count (grouped n ks) ≡ length ks
count_grouped n [] below = count_none n
count_grouped n (k ∷ ks) below =
    let size = length_grouped n ks in
    let lt = below k (0, refl) in
    let ih = count_grouped n ks (λ l (i, at). below l (suc i, at)) in
    count_add (grouped n ks) k.class (point_of k) (omega arith) ∙ ap suc ih

add_cases : (rows : List (List Point)) (d : ℕ) (p : Point) (c : ℕ) (row : List Point) → slice_get (add_to rows d p) c ≡ Some row → ((d ≡ c) × (old : List Point) × (slice_get rows c ≡ Some old) × (p ∷ old ≡ row)) ⊎ ((d ≢ c) × (slice_get rows c ≡ Some row))
add_cases [] d p c row at = cc
add_cases (r ∷ rows) zero p zero row at = inl (refl, r, refl, same_Some (p ∷ r) row at)
add_cases (r ∷ rows) zero p (suc c) row at = inr ((λ e. absurd (omega arith)), at)
add_cases (r ∷ rows) (suc d) p zero row at = inr ((λ e. absurd (omega arith)), at)
add_cases (r ∷ rows) (suc d) p (suc c) row at = more (add_cases rows d p c row at)
  where
    more : ((d ≡ c) × (old : List Point) × (slice_get rows c ≡ Some old) × (p ∷ old ≡ row)) ⊎ ((d ≢ c) × (slice_get rows c ≡ Some row)) → ((suc d ≡ suc c) × (old : List Point) × (slice_get (r ∷ rows) (suc c) ≡ Some old) × (p ∷ old ≡ row)) ⊎ ((suc d ≢ suc c) × (slice_get (r ∷ rows) (suc c) ≡ Some row))
    more (inl (e, old, at, f)) = inl (ap suc e, old, at, f)
    more (inr (ne, at)) = inr ((λ e. ne (omega arith)), at)

none_at : (n c : ℕ) (row : List Point) → slice_get (replicate n []) c ≡ Some row → [] ≡ row
none_at zero c row at = cc
none_at (suc n) zero row at = same_Some [] row at
none_at (suc n) (suc c) row at = none_at n c row at

no_row : (c : ℕ) → IsRow [] c []
no_row c = record {
  each = λ p (k, lt, e). absurd (omega arith);
  all = λ k (i, at) e. cc;
  rising = λ i j p q lt at bt. cc;
}

apart_tail : (k : Spot) (ks : List Spot) → AreApart (k ∷ ks) → AreApart ks
apart_tail k ks apart i j l m lt at bt e = apart (suc i) (suc j) l m (omega arith) at bt e

row_same : (k : Spot) (ks : List Spot) (c : ℕ) (row : List Point) → AreApart (k ∷ ks) → k.class ≡ c → IsRow ks c row → IsRow (k ∷ ks) c (point_of k ∷ row)
row_same k ks c row apart e is = record {
  each = λ p in'. each p (in_cons (point_of k) p row in');
  all = λ l (i, at) f. all l i at f;
  rising = rising;
}
  where
    here : k ≡ spot c k.time k.area
    here = λ i. record { class = e i; time = k.time; area = k.area }

    each : (p : Point) → (point_of k ≡ p) ⊎ Contains row p → Has (k ∷ ks) (spot c p.time.0 p.area)
    each p (inl f) = (0, ap Some here ∙ ap (λ (q : Point). Some (spot c q.time.0 q.area)) f)
    each p (inr in') = let (i, at) = is.each p in' in (suc i, at)

    all : (l : Spot) (i : ℕ) → slice_get (k ∷ ks) i ≡ Some l → l.class ≡ c → Contains (point_of k ∷ row) (point_of l)
    all l zero at f = at_contained (point_of k ∷ row) 0 (point_of l) (ap (λ (m : Spot). Some (point_of m)) (same_Some k l at))
    all l (suc i) at f = in_tail (point_of k) (point_of l) row (is.all l (i, at) f)

    rising : (i j : ℕ) (p q : Point) → i < j → slice_get (point_of k ∷ row) i ≡ Some p → slice_get (point_of k ∷ row) j ≡ Some q → p.time.0 < q.time.0
    rising i zero p q lt at bt = absurd (omega arith)
    rising zero (suc j) p q lt at bt =
        let (n, nt) = is.each q (at_contained row j q bt) in
        let less = (apart 0 (suc n) k (spot c q.time.0 q.area) (omega arith) refl nt e).0 in
        subst (λ (x : Point). x.time.0 < q.time.0) (same_Some (point_of k) p at) less
    rising (suc i) (suc j) p q lt at bt = is.rising i j p q (omega arith) at bt

row_other : (k : Spot) (ks : List Spot) (c : ℕ) (row : List Point) → k.class ≢ c → IsRow ks c row → IsRow (k ∷ ks) c row
row_other k ks c row ne is = record {
  each = λ p in'. let (i, at) = is.each p in' in (suc i, at);
  all = λ l (i, at) f. all l i at f;
  rising = is.rising;
}
  where
    all : (l : Spot) (i : ℕ) → slice_get (k ∷ ks) i ≡ Some l → l.class ≡ c → Contains row (point_of l)
    all l zero at f = absurd (ne (ap (λ (m : Spot). m.class) (same_Some k l at) ∙ f))
    all l (suc i) at f = is.all l (i, at) f

pub rows_grouped : (n : ℕ) (ks : List Spot) → AreApart ks → (c : ℕ) (row : List Point) → slice_get (grouped n ks) c ≡ Some row → IsRow ks c row
rows_grouped n [] apart c row at = subst (IsRow [] c) (none_at n c row at) (no_row c)
rows_grouped n (k ∷ ks) apart c row at = by_case (rows_grouped n ks (apart_tail k ks apart)) (add_cases (grouped n ks) k.class (point_of k) c row at)
  where
    by_case : ((d : ℕ) (r : List Point) → slice_get (grouped n ks) d ≡ Some r → IsRow ks d r) → ((k.class ≡ c) × (old : List Point) × (slice_get (grouped n ks) c ≡ Some old) × (point_of k ∷ old ≡ row)) ⊎ ((k.class ≢ c) × (slice_get (grouped n ks) c ≡ Some row)) → IsRow (k ∷ ks) c row
    by_case rows (inl (e, old, at, f)) = subst (IsRow (k ∷ ks) c) f (row_same k ks c old apart e (rows c old at))
    by_case rows (inr (ne, at)) = row_other k ks c row ne (rows c row at)

-- Rows of the points have no more points together.

add_most : (rows : List (List Point)) (c : ℕ) (p : Point) → point_count (add_to rows c p) ≤ suc (point_count rows)
add_most [] c p = omega arith
add_most (row ∷ rows) zero p = omega arith
add_most (row ∷ rows) (suc c) p = let ih = add_most rows c p in omega arith

grouped_most : (n : ℕ) (ks : List Spot) → point_count (grouped n ks) ≤ length ks
grouped_most n [] = let e = count_none n in omega arith
grouped_most n (k ∷ ks) =
    let ih = grouped_most n ks in
    let more = add_most (grouped n ks) k.class (point_of k) in
    omega arith

head_less : (x : Point) (xs : List Point) → ArePointsRising (x ∷ xs) → (p : Point) → Contains xs p → x.time.0 < p.time.0
head_less x xs rising p in' =
    let (i, at) = contained_at xs p in' in rising 0 (suc i) x p (omega arith) refl at

tail_rising : (x : Point) (xs : List Point) → ArePointsRising (x ∷ xs) → ArePointsRising xs
tail_rising x xs rising i j p q lt at bt = rising (suc i) (suc j) p q (omega arith) at bt

no_longer : (xs ys : List Point) → ArePointsRising xs → ArePointsRising ys → ((p : Point) → Contains xs p → Contains ys p) → length xs ≤ length ys
no_longer [] ys up up' all = omega arith
no_longer (x ∷ xs) [] up up' all = let (k, lt, e) = all x (0, omega arith, refl) in absurd (omega (arith, lt))
no_longer (x ∷ xs) (y ∷ ys) up up' all = by_head (no_longer xs ys (tail_rising x xs up) (tail_rising y ys up')) (no_longer (x ∷ xs) ys up (tail_rising y ys up')) (in_cons y x ys (all x (0, omega arith, refl)))
  where
    by_head : (((p : Point) → Contains xs p → Contains ys p) → length xs ≤ length ys) → (((p : Point) → Contains (x ∷ xs) p → Contains ys p) → length (x ∷ xs) ≤ length ys) → (y ≡ x) ⊎ Contains ys x → length (x ∷ xs) ≤ length (y ∷ ys)
    by_head both behind (inl e) =
        let ih = both (λ p in'. later p in' (in_cons y p ys (all p (in_tail x p xs in')))) in
        omega (arith, ih)
      where
        later : (p : Point) → Contains xs p → (y ≡ p) ⊎ Contains ys p → Contains ys p
        later p in' (inr there) = there
        later p in' (inl f) =
            let less = head_less x xs up p in' in
            let t = ap (λ (q : Point). q.time.0) e in
            let u = ap (λ (q : Point). q.time.0) f in
            absurd (omega (arith, less, t, u))
    by_head both behind (inr there) =
        let ih = behind (λ p in'. later p (in_cons x p xs in') (in_cons y p ys (all p in'))) in
        omega (arith, ih)
      where
        later : (p : Point) → (x ≡ p) ⊎ Contains xs p → (y ≡ p) ⊎ Contains ys p → Contains ys p
        later p here (inr other) = other
        later p (inl e) (inl f) = subst (Contains ys) e there
        later p (inr in') (inl f) =
            let less = head_less x xs up p in' in
            let first = head_less y ys up' x there in
            let u = ap (λ (q : Point). q.time.0) f in
            absurd (omega (arith, less, first, u))

counts_below : (rows others : List (List Point)) → length rows ≡ length others → ((c : ℕ) (row other : List Point) → slice_get rows c ≡ Some row → slice_get others c ≡ Some other → length row ≤ length other) → point_count rows ≤ point_count others
counts_below [] others e below = omega arith
counts_below (row ∷ rows) [] e below = absurd (omega (arith, e))
counts_below (row ∷ rows) (other ∷ others) e below =
    let first = below 0 row other refl refl in
    let ih = counts_below rows others (omega (arith, e)) (λ c r o at bt. below (suc c) r o at bt) in
    omega (arith, first, ih)

pub rows_few : (n : ℕ) (ks : List Spot) (rows : List (List Point)) → AreApart ks → AreRows ks n 0 rows → point_count rows ≤ length ks
rows_few n ks rows apart are =
    let size = length_grouped n ks in
    let below = counts_below rows (grouped n ks) (omega (arith, size, are.one_each)) (λ c row other at bt. shorter c row other (are.each c row at) (rows_grouped n ks apart c other bt)) in
    let most = grouped_most n ks in
    omega (arith, below, most)
  where
    shorter : (c : ℕ) (row other : List Point) → IsRow ks (0 + c) row → IsRow ks c other → length row ≤ length other
    shorter c row other is are =
        let same : ◌≡◌ {A = ℕ} (0 + c) c = omega arith in
        let is' = subst (λ d. IsRow ks d row) same is in
        no_longer row other is'.rising are.rising (λ p in'. are.all (spot c p.time.0 p.area) (is'.each p in') refl)
