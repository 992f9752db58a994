-- Rows of points by class, and how they stand in one array.
use Rattle.std.proofs.Common.{◌≡◌, ℕ, zero, suc, ◌+◌, ◌-◌, ◌<◌, ◌≤◌, ◌⊎◌, inl, inr, length, map, take, drop, reverse, List, [], ◌∷◌, ◌++◌, Contains, Option, Some, None, slice_get, refl, ap, ap₂, sym, ◌∙◌, subst, subst₂, arith}
use Rattle.std.specs.List.{slice_range}
use Rattle.std.proofs.Math.Seq.{drop-append-add, take-append_seam}
use Rattle.std.proofs.lemmas.List.{reverse-append, length-append, length-map}
use Rattle.std.proofs.lemmas.Option.{same_Some, slice_get_within}
use Rattle.std.proofs.lemmas.Bool.{cases_lt}
use native.Mathlib.Decide.{ℕ_discrete}
use Rattle.lw_curves.specs.declared.point.Found.{Found}
use Rattle.lw_curves.specs.declared.point.Way.{Way}
use Rattle.lw_curves.specs.declared.point.Point.{Point}
use Rattle.lw_curves.specs.Backing.{Held, IsHeld, spot_in}
use Rattle.lw_curves.specs.Fronts.{held_at, held_of, spots_of}
use Rattle.lw_curves.specs.CurveTables.{point_of, point_in, way_in, IsRow, IsHeldRow, IsRowPushed, AreRows, AreHeldRows, AreLefts, rows_of, AreCurveArrays, IsTable}
use Rattle.lw_choices.specs.Chains.{IsLast}
use Rattle.lw_curves.specs.Settling.{Spot, spot, Has, AreApart}
use Rattle.lw_curves.proofs.Backed.{map_has}
use Rattle.lw_curves.proofs.Fronting.{held_class, held_get, held_spot}
use Rattle.lw_choices.proofs.Lists.{contained_at, at_contained}

-- The points of the class at the places from a bound on.
pub record IsRowFrom (held : List Held) (c bound : ℕ) (row : List Held) : Type 0 where
  pub each : (h : Held) → IsHeld row h → (i : ℕ) × (bound ≤ i) × (slice_get held i ≡ Some h) × (h.spot.class ≡ c)
  pub all : (i : ℕ) (h : Held) → bound ≤ i → slice_get held i ≡ Some h → h.spot.class ≡ c → IsHeld row h
  pub rising : (i j : ℕ) (g h : Held) → i < j → slice_get row i ≡ Some g → slice_get row j ≡ Some h → g.spot.time < h.spot.time

-- The points at the places from a bound on are put, and the next place is the last one before it.
pub record IsPutting (cs : List ℕ) (ps : List Found) (c : ℕ) (points new_points : List Point) (ways new_ways : List Way) (next : Option ℕ) : Type 0 where
  pub bound : ℕ
  pub last : IsLast cs c bound next
  pub row : List Held
  pub is : IsRowFrom (held_of cs ps) c bound row
  pub points_are : reverse new_points ≡ map point_in row ++ reverse points
  pub ways_are : reverse new_ways ≡ map way_in row ++ reverse ways

module _ (cs : List ℕ) (ps : List Found) (c : ℕ) (points : List Point) (ways : List Way) where
  pub putting_first : (next : Option ℕ) → IsLast cs c (length cs) next → IsPutting cs ps c points points ways ways next
  putting_first next last = record {
    bound = length cs;
    last = last;
    row = [];
    is = record {
      each = λ h (i, at). cc;
      all = λ i h le at e. let lt = slice_get_within cs i h.spot.class (held_class cs ps i h at) in absurd (omega arith);
      rising = λ i j g h lt at bt. cc;
    };
    points_are = refl;
    ways_are = refl;
  }

  pub putting_next : (old new : List Point) (old_ways new_ways : List Way) (place : ℕ) (found : Found) (next : Option ℕ) → AreApart (spots_of cs ps) → IsPutting cs ps c points old ways old_ways (Some place) → slice_get ps place ≡ Some found → IsLast cs c place next → new ≡ old ++ point_in (held_at c found) ∷ [] → new_ways ≡ old_ways ++ way_in (held_at c found) ∷ [] → IsPutting cs ps c points new ways new_ways next
  putting_next old new old_ways new_ways place found next apart is pt last same same_ways = record {
    bound = place;
    last = last;
    row = held_at c found ∷ is.row;
    is = record {
      each = λ h (i, at). each h i at;
      all = λ i h le at e. all i h le at e (ℕ_discrete i place);
      rising = rising;
    };
    points_are = ap reverse same ∙ (reverse-append old (point_in (held_at c found) ∷ []) ∙ ap (λ xs. point_in (held_at c found) ∷ xs) is.points_are);
    ways_are = ap reverse same_ways ∙ (reverse-append old_ways (way_in (held_at c found) ∷ []) ∙ ap (λ xs. way_in (held_at c found) ∷ xs) is.ways_are);
  }
    where
      here : slice_get (held_of cs ps) place ≡ Some (held_at c found)
      here = held_get cs ps place c found is.last.1 pt

      each : (h : Held) (i : ℕ) → slice_get (held_at c found ∷ is.row) i ≡ Some h → (j : ℕ) × (place ≤ j) × (slice_get (held_of cs ps) j ≡ Some h) × (h.spot.class ≡ c)
      each h zero at =
          let e = same_Some (held_at c found) h at in
          (place, omega arith, here ∙ ap (λ (x : Held). Some x) e, ap (λ (x : Held). x.spot.class) (sym e))
      each h (suc i) at = let (j, le, bt, e) = is.is.each h (i, at) in let lt = is.last.0 in (j, omega arith, bt, e)

      all : (i : ℕ) (h : Held) → place ≤ i → slice_get (held_of cs ps) i ≡ Some h → h.spot.class ≡ c → Dec (i ≡ place) → IsHeld (held_at c found ∷ is.row) h
      all i h le at e (yes f) = (0, sym here ∙ (ap (slice_get (held_of cs ps)) (sym f) ∙ at))
      all i h le at e (no ne) = by_bound (cases_lt i is.bound)
        where
          by_bound : (i < is.bound) ⊎ (is.bound ≤ i) → IsHeld (held_at c found ∷ is.row) h
          by_bound (inl lt) = absurd (is.last.2 i (omega arith) lt (held_class cs ps i h at ∙ ap Some e))
          by_bound (inr ge) = let (j, bt) = is.is.all i h ge at e in (suc j, bt)

      later : (j : ℕ) (h : Held) → slice_get is.row j ≡ Some h → found.time.0 < h.spot.time
      later j h bt =
          let (i, le, at, e) = is.is.each h (j, bt) in
          let lt = is.last.0 in
          (apart place i (held_at c found).spot h.spot (omega arith) (held_spot cs ps place (held_at c found) here) (held_spot cs ps i h at) (sym e)).0

      rising : (i j : ℕ) (g h : Held) → i < j → slice_get (held_at c found ∷ is.row) i ≡ Some g → slice_get (held_at c found ∷ is.row) j ≡ Some h → g.spot.time < h.spot.time
      rising i zero g h lt at bt = absurd (omega arith)
      rising zero (suc j) g h lt at bt = subst (λ (x : Held). x.spot.time < h.spot.time) (same_Some (held_at c found) g at) (later j h bt)
      rising (suc i) (suc j) g h lt at bt = is.is.rising i j g h (omega arith) at bt

  pub putting_over : (new : List Point) (new_ways : List Way) → IsPutting cs ps c points new ways new_ways None → IsRowPushed (held_of cs ps) c points new ways new_ways
  putting_over new new_ways is = record {
    row = is.row;
    is = record {
      each = λ h in'. let (i, le, at, e) = is.is.each h in' in ((i, at), e);
      all = λ h (i, at) e. by_bound h i at e (cases_lt i is.bound);
      rising = is.is.rising;
    };
    points_are = is.points_are;
    ways_are = is.ways_are;
  }
    where
      by_bound : (h : Held) (i : ℕ) → slice_get (held_of cs ps) i ≡ Some h → h.spot.class ≡ c → (i < is.bound) ⊎ (is.bound ≤ i) → IsHeld is.row h
      by_bound h i at e (inl lt) = absurd (is.last i (omega arith) lt (held_class cs ps i h at ∙ ap Some e))
      by_bound h i at e (inr ge) = is.is.all i h ge at e

-- Rows in one array.

lefts_more : (m n : ℕ) (ls : List ℕ) → m ≤ n → AreLefts m ls → AreLefts n ls
lefts_more m n [] le are = tt
lefts_more m n (l ∷ ls) le (low, are) = (omega arith, are)

module _ {X : Type 0} where
  rows_more : (row xs : List X) (l : ℕ) (ls : List ℕ) → AreLefts (length xs) (l ∷ ls) → rows_of (row ++ xs) (l ∷ ls) ≡ rows_of xs (l ∷ ls)
  rows_more row xs l [] are = refl
  rows_more row xs l (m ∷ ls) (low, (less, are)) =
      let n : length (row ++ xs) ≡ length row + length xs = length-append row xs in
      let first : length (row ++ xs) - l ≡ length row + (length xs - l) = omega arith in
      let wide : (length (row ++ xs) - m) - (length (row ++ xs) - l) ≡ (length xs - m) - (length xs - l) = omega arith in
      let here : slice_range (row ++ xs) (length (row ++ xs) - l) (length (row ++ xs) - m) ≡ slice_range xs (length xs - l) (length xs - m) =
      ap₂ (λ w ys. take w ys) wide (ap (λ k. drop k (row ++ xs)) first ∙ drop-append-add row xs (length xs - l)) in
      ap₂ (λ r rs. r ∷ rs) here (rows_more row xs m ls (omega arith, are))

  first_row : (row xs : List X) (n : ℕ) → n ≡ length (row ++ xs) → slice_range (row ++ xs) (length (row ++ xs) - n) (length (row ++ xs) - length xs) ≡ row
  first_row row xs n e =
      let m : length (row ++ xs) ≡ length row + length xs = length-append row xs in
      let none : length (row ++ xs) - n ≡ 0 = omega arith in
      let wide : (length (row ++ xs) - length xs) - (length (row ++ xs) - n) ≡ length row = omega arith in
      ap₂ (λ w k. take w (drop k (row ++ xs))) wide none ∙ take-append_seam row xs

  -- one more row in front
  rows_next : (row xs : List X) (n l : ℕ) (ls : List ℕ) → n ≡ length (row ++ xs) → l ≡ length xs → AreLefts (length xs) (l ∷ ls) → rows_of (row ++ xs) (n ∷ l ∷ ls) ≡ row ∷ rows_of xs (l ∷ ls)
  rows_next row xs n l ls e f falling =
      let left : slice_range (row ++ xs) (length (row ++ xs) - n) (length (row ++ xs) - l) ≡ row = ap (λ k. slice_range (row ++ xs) (length (row ++ xs) - n) (length (row ++ xs) - k)) f ∙ first_row row xs n e in
      ap₂ (λ r rs. r ∷ rs) left (rows_more row xs l ls falling)

module _ (held : List Held) (count : ℕ) where
  rows_cons : (first : ℕ) (row : List Held) (rows : List (List Held)) → AreHeldRows held count (first + 1) rows → IsHeldRow held first row → AreHeldRows held count first (row ∷ rows)
  rows_cons first row rows are is = record {
    one_each = let n = are.one_each in omega arith;
    each = each;
  }
    where
      each : (i : ℕ) (r : List Held) → slice_get (row ∷ rows) i ≡ Some r → IsHeldRow held (first + i) r
      each zero r at =
          let n : ◌≡◌ {A = ℕ} first (first + zero) = omega arith in
          subst₂ (λ c xs. IsHeldRow held c xs) n (same_Some row r at) is
      each (suc i) r at =
          let n : ◌≡◌ {A = ℕ} (first + 1 + i) (first + suc i) = omega arith in
          subst (λ c. IsHeldRow held c r) n (are.each i r at)

  pub table_next : (first : ℕ) (row : List Held) (points : List Point) (ways : List Way) (lefts : List ℕ) → IsTable held count (first + 1) points ways lefts → IsHeldRow held first row → IsTable held count first (map point_in row ++ points) (map way_in row ++ ways) (length (map point_in row ++ points) ∷ lefts)
  table_next first row points ways lefts are is = record {
    one_each = omega (arith, n, m, points_wide, ways_wide, are.one_each);
    later = lefts;
    all_left = refl;
    falling = (omega arith, lefts_more (length points) (length (map point_in row ++ points)) lefts (omega (arith, n)) are.falling);
    rows = row ∷ are.rows;
    are = rows_cons first row are.rows are.are is;
    points_are = points_are are.later are.all_left;
    ways_are = ways_are are.later are.all_left;
  }
    where
      n : length (map point_in row ++ points) ≡ length (map point_in row) + length points
      n = length-append (map point_in row) points

      m : length (map way_in row ++ ways) ≡ length (map way_in row) + length ways
      m = length-append (map way_in row) ways

      points_wide : length (map point_in row) ≡ length row
      points_wide = length-map row point_in

      ways_wide : length (map way_in row) ≡ length row
      ways_wide = length-map row way_in

      points_are : (ls : List ℕ) → lefts ≡ length points ∷ ls → rows_of (map point_in row ++ points) (length (map point_in row ++ points) ∷ lefts) ≡ map point_in row ∷ map (map point_in) are.rows
      points_are ls e =
          let falling = subst (AreLefts (length points)) e are.falling in
          let here = subst (λ xs. rows_of points xs ≡ map (map point_in) are.rows) e are.points_are in
          subst (λ xs. rows_of (map point_in row ++ points) (length (map point_in row ++ points) ∷ xs) ≡ map point_in row ∷ map (map point_in) are.rows) (sym e) (rows_next (map point_in row) points (length (map point_in row ++ points)) (length points) ls refl refl falling ∙ ap (λ rs. map point_in row ∷ rs) here)

      ways_are : (ls : List ℕ) → lefts ≡ length points ∷ ls → rows_of (map way_in row ++ ways) (length (map point_in row ++ points) ∷ lefts) ≡ map way_in row ∷ map (map way_in) are.rows
      ways_are ls e =
          let falling = subst (λ k. AreLefts k (length points ∷ ls)) (sym are.one_each) (subst (AreLefts (length points)) e are.falling) in
          let here = subst (λ xs. rows_of ways xs ≡ map (map way_in) are.rows) e are.ways_are in
          subst (λ xs. rows_of (map way_in row ++ ways) (length (map point_in row ++ points) ∷ xs) ≡ map way_in row ∷ map (map way_in) are.rows) (sym e) (rows_next (map way_in row) ways (length (map point_in row ++ points)) (length points) ls (omega (arith, n, m, points_wide, ways_wide, are.one_each)) (sym are.one_each) falling ∙ ap (λ rs. map way_in row ∷ rs) here)

-- how many are left is noted for one class more
module _ {X : Type 0} (xs : List X) where
  pub lefts_in : (lefts : List ℕ) (c : ℕ) → c < length (rows_of xs lefts) → suc c < length lefts
  lefts_in [] c lt = absurd (omega arith)
  lefts_in (l ∷ []) c lt = absurd (omega arith)
  lefts_in (l ∷ m ∷ ls) zero lt = omega arith
  lefts_in (l ∷ m ∷ ls) (suc c) lt = let ih = lefts_in (m ∷ ls) c (omega arith) in omega arith

  pub lefts_out : (lefts : List ℕ) (c : ℕ) → suc c < length lefts → c < length (rows_of xs lefts)
  lefts_out [] c lt = absurd (omega arith)
  lefts_out (l ∷ []) c lt = absurd (omega arith)
  lefts_out (l ∷ m ∷ ls) zero lt = omega arith
  lefts_out (l ∷ m ∷ ls) (suc c) lt = let ih = lefts_out (m ∷ ls) c (omega arith) in omega arith

  pub no_row : (lefts : List ℕ) (c : ℕ) → length lefts ≤ suc c → slice_get (rows_of xs lefts) c ≡ None
  no_row [] c le = refl
  no_row (l ∷ []) c le = refl
  no_row (l ∷ m ∷ ls) zero le = absurd (omega arith)
  no_row (l ∷ m ∷ ls) (suc c) le = no_row (m ∷ ls) c (omega arith)

  pub row_is : (lefts : List ℕ) (c l m : ℕ) → slice_get lefts c ≡ Some l → slice_get lefts (suc c) ≡ Some m → slice_get (rows_of xs lefts) c ≡ Some (slice_range xs (length xs - l) (length xs - m))
  row_is [] c l m at bt = cc
  row_is (j ∷ []) zero l m at bt = cc
  row_is (j ∷ []) (suc c) l m at bt = cc
  row_is (j ∷ k ∷ ls) zero l m at bt = ap₂ (λ x y. Some (slice_range xs (length xs - x) (length xs - y))) (same_Some j l at) (same_Some k m bt)
  row_is (j ∷ k ∷ ls) (suc c) l m at bt = row_is (k ∷ ls) c l m at bt

pub left_low : (most : ℕ) (lefts : List ℕ) (c l : ℕ) → AreLefts most lefts → slice_get lefts c ≡ Some l → l ≤ most
left_low most [] c l are at = cc
left_low most (k ∷ ls) zero l (le, are) at = let e = same_Some k l at in omega arith
left_low most (k ∷ ls) (suc c) l (le, are) at = let ih = left_low k ls c l are at in omega arith

pub left_falls : (most : ℕ) (lefts : List ℕ) (c l m : ℕ) → AreLefts most lefts → slice_get lefts c ≡ Some l → slice_get lefts (suc c) ≡ Some m → m ≤ l
left_falls most [] c l m are at bt = cc
left_falls most (k ∷ ls) zero l m (le, are) at bt = let e = same_Some k l at in let low = left_low k ls 0 m are bt in omega arith
left_falls most (k ∷ ls) (suc c) l m (le, are) at bt = left_falls k ls c l m are at bt

-- Rows without the choices.

pub map_get : {X : Type 0} {Y : Type 0} (f : X → Y) (xs : List X) (i : ℕ) (y : Y) → slice_get (map f xs) i ≡ Some y → (x : X) × (slice_get xs i ≡ Some x) × (f x ≡ y)
map_get f [] i y at = cc
map_get f (x ∷ xs) zero y at = (x, refl, same_Some (f x) y at)
map_get f (x ∷ xs) (suc i) y at = map_get f xs i y at

pub get_map : {X : Type 0} {Y : Type 0} (f : X → Y) (xs : List X) (i : ℕ) (x : X) → slice_get xs i ≡ Some x → slice_get (map f xs) i ≡ Some (f x)
get_map f [] i x at = cc
get_map f (y ∷ xs) zero x at = ap (λ z. Some (f z)) (same_Some y x at)
get_map f (y ∷ xs) (suc i) x at = get_map f xs i x at

row_shown : (held : List Held) (c : ℕ) (row : List Held) → IsHeldRow held c row → IsRow (map spot_in held) c (map point_in row)
row_shown held c row is = record {
  each = λ p in'. let (i, at) = contained_at (map point_in row) p in' in each p i (map_get point_in row i p at);
  all = λ k (i, at) e. let (g, has, f) = map_has held i k at in all k g f (is.all g has (ap (λ (x : Spot). x.class) f ∙ e));
  rising = λ i j p q lt at bt.
      let (g, gt, e) = map_get point_in row i p at in
      let (h, ht, f) = map_get point_in row j q bt in
      subst₂ (λ (x y : Point). x.time.0 < y.time.0) e f (is.rising i j g h lt gt ht);
}
  where
    each : (p : Point) (i : ℕ) → (h : Held) × (slice_get row i ≡ Some h) × (point_in h ≡ p) → Has (map spot_in held) (spot c p.time.0 p.area)
    each p i (h, at, e) =
        let ((j, bt), f) = is.each h (i, at) in
        let here = get_map spot_in held j h bt in
        let same : h.spot ≡ spot c p.time.0 p.area = (λ k. record { class = f k; time = (e k).time.0; area = (e k).area }) in
        (j, here ∙ ap (λ (x : Spot). Some x) same)

    all : (k : Spot) (g : Held) → g.spot ≡ k → IsHeld row g → Contains (map point_in row) (point_of k)
    all k g f (i, at) = at_contained (map point_in row) i (point_of k) (get_map point_in row i g at ∙ ap (λ (x : Spot). Some (point_of x)) f)

pub rows_shown : (held : List Held) (count first : ℕ) (rows : List (List Held)) → AreHeldRows held count first rows → AreRows (map spot_in held) count first (map (map point_in) rows)
rows_shown held count first rows are = record {
  one_each = let n = length-map rows (map point_in) in omega (arith, n, are.one_each);
  each = λ i row at. each i row (map_get (map point_in) rows i row at);
}
  where
    each : (i : ℕ) (row : List Point) → (r : List Held) × (slice_get rows i ≡ Some r) × (map point_in r ≡ row) → IsRow (map spot_in held) (first + i) row
    each i row (r, at, e) = subst (IsRow (map spot_in held) (first + i)) e (row_shown held (first + i) r (are.each i r at))

pub table_rising : (held : List Held) (count : ℕ) (points : List Point) (ways : List Way) (lefts : List ℕ) → IsTable held count 0 points ways lefts → AreCurveArrays points ways lefts
table_rising held count points ways lefts is = record {
  one_each = is.one_each;
  falling = is.falling;
  rising = λ c row at. ((rows_shown held count 0 is.rows is.are).each c row (ap (λ rs. slice_get rs c) (sym is.points_are) ∙ at)).rising;
}
