-- Points by class stay apart when one is added.
use Rattle.std.proofs.Common.{◌≡◌, ◌≢◌, ℕ, zero, suc, ◌+◌, ◌<◌, ◌≤◌, ◌⊎◌, inl, inr, length, map, replicate, List, [], ◌∷◌, ◌++◌, Some, None, slice_get, slice_set, refl, ap, sym, ◌∙◌, subst, subst₂, arith}
use native.Mathlib.Decide.{ℕ_discrete}
use Rattle.std.proofs.lemmas.Option.{same_Some, slice_get_within}
use Rattle.std.proofs.lemmas.Bool.{cases_lt}
use Rattle.lw_curves.specs.declared.point.Found.{Found}
use Rattle.lw_choices.specs.Areas.{most_area}
use Rattle.lw_choices.specs.Chains.{IsLast}
use Rattle.lw_curves.specs.Backing.{Held, IsHeld, IsHeldGained, spot_in}
use Rattle.lw_curves.specs.Fronts.{spots_of, held_at, held_of, IsLastAt, IsLeastOf, IsLeastSpot}
use Rattle.lw_curves.specs.Settling.{Spot, spot, Has, AreApart, HasAtMost, IsGained}
use Rattle.lw_choices.proofs.Lists.{get_last, get_push, push_cases, get_set, get_set_other, set_cases}

all_same : (n x k area : ℕ) → slice_get (replicate n x) k ≡ Some area → area ≡ x
all_same zero x k area at = cc
all_same (suc n) x zero area at = sym (same_Some x area at)
all_same (suc n) x (suc k) area at = all_same n x k area at

-- where there are no points, no class has a least area
pub least_of_none : (n c area : ℕ) → slice_get (replicate n (most_area + 1)) c ≡ Some area → IsLeastOf [] c area
least_of_none n c area at = record {
  low = λ k has e. absurd (none k has.0 has.1);
  at = inl (all_same n (most_area + 1) c area at);
}
  where
    none : (k : Spot) (i : ℕ) → slice_get [] i ≡ Some k → ⊥
    none k i e = cc

pub spots_push : (cs : List ℕ) (ps : List Found) (c : ℕ) (p : Found) → length ps ≡ length cs → spots_of (cs ++ c ∷ []) (ps ++ p ∷ []) ≡ spots_of cs ps ++ spot c p.time.0 p.area ∷ []
spots_push [] [] c p e = refl
spots_push [] (q ∷ ps) c p e = absurd (omega arith)
spots_push (d ∷ cs) [] c p e = absurd (omega arith)
spots_push (d ∷ cs) (q ∷ ps) c p e = ap (λ ks. spot d q.time.0 q.area ∷ ks) (spots_push cs ps c p (omega arith))

pub spots_set : (cs : List ℕ) (ps : List Found) (i c : ℕ) (p : Found) → length ps ≡ length cs → slice_get cs i ≡ Some c → spots_of cs (slice_set ps i p) ≡ slice_set (spots_of cs ps) i (spot c p.time.0 p.area)
spots_set [] ps i c p e at = cc
spots_set (d ∷ cs) [] i c p e at = absurd (omega arith)
spots_set (d ∷ cs) (q ∷ ps) zero c p e at = ap (λ x. spot x p.time.0 p.area ∷ spots_of cs ps) (same_Some d c at)
spots_set (d ∷ cs) (q ∷ ps) (suc i) c p e at = ap (λ ks. spot d q.time.0 q.area ∷ ks) (spots_set cs ps i c p (omega arith) at)

pub spots_at : (cs : List ℕ) (ps : List Found) (i c : ℕ) (p : Found) → slice_get cs i ≡ Some c → slice_get ps i ≡ Some p → slice_get (spots_of cs ps) i ≡ Some (spot c p.time.0 p.area)
spots_at [] ps i c p at bt = cc
spots_at (d ∷ cs) [] i c p at bt = cc
spots_at (d ∷ cs) (q ∷ ps) zero c p at bt = ap (λ (x : Spot). Some x) (λ k. spot (same_Some d c at k) (same_Some q p bt k).time.0 (same_Some q p bt k).area)
spots_at (d ∷ cs) (q ∷ ps) (suc i) c p at bt = spots_at cs ps i c p at bt

pub spot_class : (cs : List ℕ) (ps : List Found) (i : ℕ) (k : Spot) → slice_get (spots_of cs ps) i ≡ Some k → slice_get cs i ≡ Some k.class
spot_class [] ps i k e = cc
spot_class (d ∷ cs) [] i k e = cc
spot_class (d ∷ cs) (q ∷ ps) zero k e = ap (λ (x : Spot). Some x.class) (same_Some (spot d q.time.0 q.area) k e)
spot_class (d ∷ cs) (q ∷ ps) (suc i) k e = spot_class cs ps i k e

pub length_spots : (cs : List ℕ) (ps : List Found) → length ps ≡ length cs → length (spots_of cs ps) ≡ length cs
length_spots [] ps e = refl
length_spots (d ∷ cs) [] e = absurd (omega arith)
length_spots (d ∷ cs) (q ∷ ps) e = ap suc (length_spots cs ps (omega arith))

itself : (xs : List Spot) (l : Spot) → Has xs l → HasAtMost xs l.class l.time l.area
itself xs l has = (l, has, refl, omega arith, omega arith)

-- a point behind all
module _ (xs : List Spot) (s : Spot) where
  pub gained_push : IsGained xs (xs ++ s ∷ []) s
  gained_push = record {
    has = (length xs, get_last xs s);
    only = λ l (i, at). old l i (push_cases xs s i l at);
    kept = λ l (i, at). itself (xs ++ s ∷ []) l (i, get_push xs s i l at);
  }
    where
      old : (l : Spot) (i : ℕ) → (slice_get xs i ≡ Some l) ⊎ ((i ≡ length xs) × (s ≡ l)) → Has xs l ⊎ (l ≡ s)
      old l i (inl at) = inl (i, at)
      old l i (inr (e, f)) = inr (sym f)

  pub apart_push : AreApart xs → ((k : Spot) → Has xs k → k.class ≡ s.class → (k.time < s.time) × (s.area < k.area)) → AreApart (xs ++ s ∷ [])
  apart_push apart below i j k l lt at bt e = by_case (push_cases xs s i k at) (push_cases xs s j l bt)
    where
      by_case : (slice_get xs i ≡ Some k) ⊎ ((i ≡ length xs) × (s ≡ k)) → (slice_get xs j ≡ Some l) ⊎ ((j ≡ length xs) × (s ≡ l)) → (k.time < l.time) × (l.area < k.area)
      by_case (inl f) (inl g) = apart i j k l lt f g e
      by_case (inl f) (inr (g, h)) = subst (λ (z : Spot). (k.time < z.time) × (z.area < k.area)) h (below k (i, f) (e ∙ ap (λ (z : Spot). z.class) (sym h)))
      by_case (inr (f, h)) (inl g) = let b = slice_get_within xs j l g in absurd (omega arith)
      by_case (inr (f, h)) (inr (g, m)) = absurd (omega arith)

-- a point in place of the last of its class, of the same time and more area
module _ (xs : List Spot) (s o : Spot) (place : ℕ) (at : slice_get xs place ≡ Some o) (same_class : o.class ≡ s.class) (same_time : o.time ≡ s.time) (less : s.area < o.area) where
  pub gained_set : IsGained xs (slice_set xs place s) s
  gained_set = record {
    has = (place, get_set xs place s (slice_get_within xs place o at));
    only = λ l (i, bt). old l i (set_cases xs place i s l bt);
    kept = λ l (i, bt). kept l i bt (ℕ_discrete i place);
  }
    where
      old : (l : Spot) (i : ℕ) → ((i ≡ place) × (s ≡ l)) ⊎ ((i ≢ place) × (slice_get xs i ≡ Some l)) → Has xs l ⊎ (l ≡ s)
      old l i (inl (e, f)) = inr (sym f)
      old l i (inr (ne, bt)) = inl (i, bt)

      kept : (l : Spot) (i : ℕ) → slice_get xs i ≡ Some l → Dec (i ≡ place) → HasAtMost (slice_set xs place s) l.class l.time l.area
      kept l i bt (yes e) =
          let same : o ≡ l = same_Some o l (sym at ∙ (ap (slice_get xs) (sym e) ∙ bt)) in
          subst (λ (z : Spot). HasAtMost (slice_set xs place s) z.class z.time z.area) same (s, (place, get_set xs place s (slice_get_within xs place o at)), sym same_class, omega arith, omega arith)
      kept l i bt (no ne) = itself (slice_set xs place s) l (i, get_set_other xs place i s l ne bt)

  pub apart_set : AreApart xs → ((k : Spot) (j : ℕ) → place < j → slice_get xs j ≡ Some k → k.class ≡ s.class → ⊥) → ((k : Spot) → Has xs k → k.class ≡ s.class → s.area < k.area) → AreApart (slice_set xs place s)
  apart_set apart last below i j k l lt kt lt' e = by_case (set_cases xs place i s k kt) (set_cases xs place j s l lt')
    where
      by_case : ((i ≡ place) × (s ≡ k)) ⊎ ((i ≢ place) × (slice_get xs i ≡ Some k)) → ((j ≡ place) × (s ≡ l)) ⊎ ((j ≢ place) × (slice_get xs j ≡ Some l)) → (k.time < l.time) × (l.area < k.area)
      by_case (inl (f, g)) (inl (h, m)) = absurd (omega arith)
      by_case (inl (f, g)) (inr (h, m)) = absurd (last l j (omega arith) m (sym e ∙ ap (λ (z : Spot). z.class) (sym g)))
      by_case (inr (f, g)) (inl (h, m)) =
          let class : k.class ≡ s.class = e ∙ ap (λ (z : Spot). z.class) (sym m) in
          let (t, a) = apart i place k o (omega arith) g at (class ∙ sym same_class) in
          let b = below k (i, g) class in
          subst (λ (z : Spot). (k.time < z.time) × (z.area < k.area)) m (omega arith, b)
      by_case (inr (f, g)) (inr (h, m)) = apart i j k l lt g m e

-- the least areas of the classes
module _ (old new : List Spot) (s : Spot) (gained : IsGained old new s) where
  pub least_new : s.area ≤ most_area → ((k : Spot) → Has old k → k.class ≡ s.class → s.area < k.area) → IsLeastOf new s.class s.area
  least_new small below = record {
    low = λ k has e. low k e (gained.only k has);
    at = inr (s, gained.has, refl, refl);
  }
    where
      low : (k : Spot) → k.class ≡ s.class → Has old k ⊎ (k ≡ s) → s.area ≤ k.area
      low k e (inl h) = let b = below k h e in omega arith
      low k e (inr f) = let a = ap (λ (z : Spot). z.area) f in omega arith

  pub least_kept : (c area : ℕ) → c ≢ s.class → IsLeastOf old c area → IsLeastOf new c area
  least_kept c area ne is = record { low = λ k has e. low k e (gained.only k has); at = by_at is.at }
    where
      low : (k : Spot) → k.class ≡ c → Has old k ⊎ (k ≡ s) → area ≤ k.area
      low k e (inl h) = is.low k h e
      low k e (inr f) = absurd (ne (sym e ∙ ap (λ (z : Spot). z.class) f))

      by_at : (area ≡ most_area + 1) ⊎ ((k : Spot) × Has old k × (k.class ≡ c) × (k.area ≡ area)) → (area ≡ most_area + 1) ⊎ ((k : Spot) × Has new k × (k.class ≡ c) × (k.area ≡ area))
      by_at (inl e) = inl e
      by_at (inr (k, has, e, f)) =
          let (l, other, g, lt, la) = gained.kept k has in
          let b = low l (g ∙ e) (gained.only l other) in
          inr (l, other, g ∙ e, omega arith)

  pub least_all : (least : List ℕ) → s.area ≤ most_area → ((k : Spot) → Has old k → k.class ≡ s.class → s.area < k.area) → ((c area : ℕ) → slice_get least c ≡ Some area → IsLeastOf old c area) → (c area : ℕ) → slice_get (slice_set least s.class s.area) c ≡ Some area → IsLeastOf new c area
  least_all least small below is c area e = by_case (set_cases least s.class c s.area area e)
    where
      by_case : ((c ≡ s.class) × (s.area ≡ area)) ⊎ ((c ≢ s.class) × (slice_get least c ≡ Some area)) → IsLeastOf new c area
      by_case (inl (f, g)) = subst₂ (λ x y. IsLeastOf new x y) (sym f) g (least_new small below)
      by_case (inr (ne, f)) = least_kept c area ne (is c area f)

-- Where the search for the points of a class by a time has come to: the place has the class, and no later place has a point of the
-- class by the time.
pub record IsSeeking (cs : List ℕ) (ps : List Found) (c time place : ℕ) : Type 0 where
  pub at : slice_get cs place ≡ Some c
  pub late : (k : Spot) (j : ℕ) → place < j → slice_get (spots_of cs ps) j ≡ Some k → k.class ≡ c → k.time ≤ time → ⊥

module _ (cs : List ℕ) (ps : List Found) (c time : ℕ) where
  pub seek_first : (place : ℕ) → IsLast cs c (length cs) (Some place) → IsSeeking cs ps c time place
  seek_first place (lt, at, none) = record {
    at = at;
    late = λ k j after here e by. let h = spot_class cs ps j k here in none j (omega arith) (slice_get_within cs j k.class h) (h ∙ ap Some e);
  }

  pub seek_none : IsLast cs c (length cs) None → IsLeastSpot (spots_of cs ps) c time None
  seek_none none k (j, here) e by = let h = spot_class cs ps j k here in none j (omega arith) (slice_get_within cs j k.class h) (h ∙ ap Some e)

  not_here : (place : ℕ) (p : Found) → slice_get cs place ≡ Some c → slice_get ps place ≡ Some p → time < p.time.0 → (k : Spot) → slice_get (spots_of cs ps) place ≡ Some k → k.time ≤ time → ⊥
  not_here place p at bt lt k here by =
      let same = same_Some (spot c p.time.0 p.area) k (sym (spots_at cs ps place c p at bt) ∙ here) in
      let t = ap (λ (z : Spot). z.time) same in
      absurd (omega arith)

  pub seek_next : (place next : ℕ) (p : Found) → IsSeeking cs ps c time place → slice_get ps place ≡ Some p → time < p.time.0 → IsLast cs c place (Some next) → IsSeeking cs ps c time next
  seek_next place next p seeking bt lt (below, at, none) = record {
    at = at;
    late = λ k j after here e by. by_place k j after here e by (ℕ_discrete j place);
  }
    where
      by_place : (k : Spot) (j : ℕ) → next < j → slice_get (spots_of cs ps) j ≡ Some k → k.class ≡ c → k.time ≤ time → Dec (j ≡ place) → ⊥
      by_place k j after here e by (yes same) = not_here place p seeking.at bt lt k (ap (slice_get (spots_of cs ps)) (sym same) ∙ here) by
      by_place k j after here e by (no ne) = before (cases_lt j place)
        where
          before : (j < place) ⊎ (place ≤ j) → ⊥
          before (inl l) = none j (omega arith) l (spot_class cs ps j k here ∙ ap Some e)
          before (inr l) = seeking.late k j (omega arith) here e by

  -- any earlier place of the class will do, where its point is late too
  pub seek_at : (place : ℕ) (p : Found) → AreApart (spots_of cs ps) → slice_get cs place ≡ Some c → slice_get ps place ≡ Some p → time ≤ p.time.0 → IsSeeking cs ps c time place
  seek_at place p apart at bt low = record {
    at = at;
    late = λ k j after here e by.
        let there = spots_at cs ps place c p at bt in
        let (t, a) = apart place j (spot c p.time.0 p.area) k after there here (sym e) in
        absurd (omega arith);
  }

  pub seek_jump : (place : ℕ) (p : Found) → AreApart (spots_of cs ps) → slice_get cs place ≡ Some c → slice_get ps place ≡ Some p → time < p.time.0 → IsSeeking cs ps c time place
  seek_jump place p apart at bt lt = seek_at place p apart at bt (omega arith)

  pub seek_over : (place : ℕ) (p : Found) → IsSeeking cs ps c time place → slice_get ps place ≡ Some p → time < p.time.0 → IsLast cs c place None → IsLeastSpot (spots_of cs ps) c time None
  seek_over place p seeking bt lt none k (j, here) e by = by_place (ℕ_discrete j place)
    where
      by_place : Dec (j ≡ place) → ⊥
      by_place (yes same) = not_here place p seeking.at bt lt k (ap (slice_get (spots_of cs ps)) (sym same) ∙ here) by
      by_place (no ne) = before (cases_lt j place)
        where
          before : (j < place) ⊎ (place ≤ j) → ⊥
          before (inl l) = none j (omega arith) l (spot_class cs ps j k here ∙ ap Some e)
          before (inr l) = seeking.late k j (omega arith) here e by

  pub seek_found : (place : ℕ) (p : Found) → AreApart (spots_of cs ps) → IsSeeking cs ps c time place → slice_get ps place ≡ Some p → p.time.0 ≤ time → IsLeastSpot (spots_of cs ps) c time (Some p.area)
  seek_found place p apart seeking bt le = ((spot c p.time.0 p.area, (place, here), refl, le, refl), λ k (j, kt) e by. least k j kt e by (ℕ_discrete j place))
    where
      here : slice_get (spots_of cs ps) place ≡ Some (spot c p.time.0 p.area)
      here = spots_at cs ps place c p seeking.at bt

      least : (k : Spot) (j : ℕ) → slice_get (spots_of cs ps) j ≡ Some k → k.class ≡ c → k.time ≤ time → Dec (j ≡ place) → p.area ≤ k.area
      least k j kt e by (yes same) =
          let s = same_Some (spot c p.time.0 p.area) k (sym here ∙ (ap (slice_get (spots_of cs ps)) (sym same) ∙ kt)) in
          let a = ap (λ (z : Spot). z.area) s in
          omega arith
      least k j kt e by (no ne) = before (cases_lt j place)
        where
          before : (j < place) ⊎ (place ≤ j) → p.area ≤ k.area
          before (inl l) = let (t, a) = apart j place k (spot c p.time.0 p.area) l kt here e in omega arith
          before (inr l) = absurd (seeking.late k j (omega arith) kt e by)

-- A point is put.
module _ (cs : List ℕ) (ps : List Found) (c : ℕ) (p : Found) (one_each : length ps ≡ length cs) (apart : AreApart (spots_of cs ps)) (less : (k : Spot) → Has (spots_of cs ps) k → k.class ≡ c → p.area < k.area) where
  pub put_push : ((k : Spot) → Has (spots_of cs ps) k → k.class ≡ c → k.time < p.time.0) → AreApart (spots_of (cs ++ c ∷ []) (ps ++ p ∷ [])) × IsGained (spots_of cs ps) (spots_of (cs ++ c ∷ []) (ps ++ p ∷ [])) (spot c p.time.0 p.area)
  put_push late =
      let s = spot c p.time.0 p.area in
      let e = spots_push cs ps c p one_each in (
        subst AreApart (sym e) (apart_push (spots_of cs ps) s apart (λ k has f. (late k has f, less k has f))),
        subst (λ xs. IsGained (spots_of cs ps) xs s) (sym e) (gained_push (spots_of cs ps) s),
      )

  pub put_set : (place : ℕ) → IsLastAt cs ps c p.time.0 place → AreApart (spots_of cs (slice_set ps place p)) × IsGained (spots_of cs ps) (spots_of cs (slice_set ps place p)) (spot c p.time.0 p.area)
  put_set place l =
      let s = spot c p.time.0 p.area in
      let o = spot c l.point.time.0 l.point.area in
      let (lt, at, none) = l.last in
      let here = spots_at cs ps place c l.point at l.at in
      let e = spots_set cs ps place c p one_each at in
      let low = less o (place, here) refl in (
        subst AreApart (sym e) (apart_set (spots_of cs ps) s o place here refl l.time_is low apart (λ k j after kt f. let h = spot_class cs ps j k kt in none j (omega arith) (slice_get_within cs j k.class h) (h ∙ ap Some f)) less),
        subst (λ xs. IsGained (spots_of cs ps) xs s) (sym e) (gained_set (spots_of cs ps) s o place here refl l.time_is low),
      )

-- points of the class are before a time that is not the last one's
pub last_before : (cs : List ℕ) (ps : List Found) (c time place : ℕ) (q : Found) → AreApart (spots_of cs ps) → ((k : Spot) → Has (spots_of cs ps) k → k.time ≤ time) → IsLast cs c (length cs) (Some place) → slice_get ps place ≡ Some q → q.time.0 ≢ time → (k : Spot) → Has (spots_of cs ps) k → k.class ≡ c → k.time < time
last_before cs ps c time place q apart late (lt, at, none) bt ne k (j, kt) e = by_place (ℕ_discrete j place)
  where
    here : slice_get (spots_of cs ps) place ≡ Some (spot c q.time.0 q.area)
    here = spots_at cs ps place c q at bt

    earlier : q.time.0 < time
    earlier = let l = late (spot c q.time.0 q.area) (place, here) in omega (arith, l, ne)

    by_place : Dec (j ≡ place) → k.time < time
    by_place (yes same) =
        let s = same_Some (spot c q.time.0 q.area) k (sym here ∙ (ap (slice_get (spots_of cs ps)) (sym same) ∙ kt)) in
        let t = ap (λ (z : Spot). z.time) s in
        omega (arith, t, earlier)
    by_place (no ne) = before (cases_lt j place)
      where
        before : (j < place) ⊎ (place ≤ j) → k.time < time
        before (inl l) = let (t, a) = apart j place k (spot c q.time.0 q.area) l kt here e in omega (arith, t, earlier)
        before (inr l) = let h = spot_class cs ps j k kt in absurd (none j (omega arith) (slice_get_within cs j k.class h) (h ∙ ap Some e))

pub none_before : (cs : List ℕ) (ps : List Found) (c time : ℕ) → IsLast cs c (length cs) None → (k : Spot) → Has (spots_of cs ps) k → k.class ≡ c → k.time < time
none_before cs ps c time none k (j, kt) e = let h = spot_class cs ps j k kt in absurd (none j (omega arith) (slice_get_within cs j k.class h) (h ∙ ap Some e))

pub least_had : (spots : List Spot) (c time area v : ℕ) → IsLeastOf spots c v → v ≤ area → area ≤ most_area → ((k : Spot) → Has spots k → k.time ≤ time) → HasAtMost spots c time area
least_had spots c time area v is le small late = by_at is.at
  where
    by_at : (v ≡ most_area + 1) ⊎ ((k : Spot) × Has spots k × (k.class ≡ c) × (k.area ≡ v)) → HasAtMost spots c time area
    by_at (inl e) = absurd (omega arith)
    by_at (inr (k, has, e, f)) = (k, has, e, late k has, omega arith)

-- The same points with their choices.

pub held_spots : (cs : List ℕ) (ps : List Found) → map spot_in (held_of cs ps) ≡ spots_of cs ps
held_spots [] ps = refl
held_spots (c ∷ cs) [] = refl
held_spots (c ∷ cs) (p ∷ ps) = ap (λ ks. spot c p.time.0 p.area ∷ ks) (held_spots cs ps)

held_push : (cs : List ℕ) (ps : List Found) (c : ℕ) (p : Found) → length ps ≡ length cs → held_of (cs ++ c ∷ []) (ps ++ p ∷ []) ≡ held_of cs ps ++ held_at c p ∷ []
held_push [] [] c p e = refl
held_push [] (q ∷ ps) c p e = absurd (omega arith)
held_push (d ∷ cs) [] c p e = absurd (omega arith)
held_push (d ∷ cs) (q ∷ ps) c p e = ap (λ ks. held_at d q ∷ ks) (held_push cs ps c p (omega arith))

held_set : (cs : List ℕ) (ps : List Found) (i c : ℕ) (p : Found) → length ps ≡ length cs → slice_get cs i ≡ Some c → held_of cs (slice_set ps i p) ≡ slice_set (held_of cs ps) i (held_at c p)
held_set [] ps i c p e at = cc
held_set (d ∷ cs) [] i c p e at = absurd (omega arith)
held_set (d ∷ cs) (q ∷ ps) zero c p e at = ap (λ x. held_at x p ∷ held_of cs ps) (same_Some d c at)
held_set (d ∷ cs) (q ∷ ps) (suc i) c p e at = ap (λ ks. held_at d q ∷ ks) (held_set cs ps i c p (omega arith) at)

pub held_get : (cs : List ℕ) (ps : List Found) (i c : ℕ) (p : Found) → slice_get cs i ≡ Some c → slice_get ps i ≡ Some p → slice_get (held_of cs ps) i ≡ Some (held_at c p)
held_get [] ps i c p at bt = cc
held_get (d ∷ cs) [] i c p at bt = cc
held_get (d ∷ cs) (q ∷ ps) zero c p at bt = ap (λ (x : Held). Some x) (λ k. held_at (same_Some d c at k) (same_Some q p bt k))
held_get (d ∷ cs) (q ∷ ps) (suc i) c p at bt = held_get cs ps i c p at bt

pub held_class : (cs : List ℕ) (ps : List Found) (i : ℕ) (h : Held) → slice_get (held_of cs ps) i ≡ Some h → slice_get cs i ≡ Some h.spot.class
held_class [] ps i h e = cc
held_class (d ∷ cs) [] i h e = cc
held_class (d ∷ cs) (q ∷ ps) zero h e = ap (λ (x : Held). Some x.spot.class) (same_Some (held_at d q) h e)
held_class (d ∷ cs) (q ∷ ps) (suc i) h e = held_class cs ps i h e

pub held_spot : (cs : List ℕ) (ps : List Found) (i : ℕ) (h : Held) → slice_get (held_of cs ps) i ≡ Some h → slice_get (spots_of cs ps) i ≡ Some h.spot
held_spot [] ps i h e = cc
held_spot (d ∷ cs) [] i h e = cc
held_spot (d ∷ cs) (q ∷ ps) zero h e = ap (λ (x : Held). Some x.spot) (same_Some (held_at d q) h e)
held_spot (d ∷ cs) (q ∷ ps) (suc i) h e = held_spot cs ps i h e

held_gained_push : (xs : List Held) (h : Held) → ((l : Held) → IsHeld xs l → l.order < h.order) → IsHeldGained xs (xs ++ h ∷ []) h
held_gained_push xs h fresh = record {
  has = (length xs, get_last xs h);
  only = λ l (i, at). old l i (push_cases xs h i l at);
  kept = λ l (i, at). inl (i, get_push xs h i l at);
  fresh = fresh;
}
  where
    old : (l : Held) (i : ℕ) → (slice_get xs i ≡ Some l) ⊎ ((i ≡ length xs) × (h ≡ l)) → IsHeld xs l ⊎ (l ≡ h)
    old l i (inl at) = inl (i, at)
    old l i (inr (e, f)) = inr (sym f)

held_gained_set : (xs : List Held) (h o : Held) (place : ℕ) → slice_get xs place ≡ Some o → o.spot.class ≡ h.spot.class → o.spot.time ≡ h.spot.time → h.spot.area < o.spot.area → ((l : Held) → IsHeld xs l → l.order < h.order) → IsHeldGained xs (slice_set xs place h) h
held_gained_set xs h o place at class time less fresh = record {
  has = (place, get_set xs place h (slice_get_within xs place o at));
  only = λ l (i, bt). old l i (set_cases xs place i h l bt);
  kept = λ l (i, bt). kept l i bt (ℕ_discrete i place);
  fresh = fresh;
}
  where
    old : (l : Held) (i : ℕ) → ((i ≡ place) × (h ≡ l)) ⊎ ((i ≢ place) × (slice_get xs i ≡ Some l)) → IsHeld xs l ⊎ (l ≡ h)
    old l i (inl (e, f)) = inr (sym f)
    old l i (inr (ne, bt)) = inl (i, bt)

    kept : (l : Held) (i : ℕ) → slice_get xs i ≡ Some l → Dec (i ≡ place) → IsHeld (slice_set xs place h) l ⊎ ((l.spot.class ≡ h.spot.class) × (l.spot.time ≡ h.spot.time) × (h.spot.area < l.spot.area))
    kept l i bt (yes e) =
        let same : o ≡ l = same_Some o l (sym at ∙ (ap (slice_get xs) (sym e) ∙ bt)) in
        inr (subst (λ (z : Held). (z.spot.class ≡ h.spot.class) × (z.spot.time ≡ h.spot.time) × (h.spot.area < z.spot.area)) same (class, time, less))
    kept l i bt (no ne) = inl (i, get_set_other xs place i h l ne bt)

module _ (cs : List ℕ) (ps : List Found) (c : ℕ) (p : Found) (one_each : length ps ≡ length cs) (fresh : (h : Held) → IsHeld (held_of cs ps) h → h.order < p.order) where
  pub put_held_push : IsHeldGained (held_of cs ps) (held_of (cs ++ c ∷ []) (ps ++ p ∷ [])) (held_at c p)
  put_held_push = subst (λ xs. IsHeldGained (held_of cs ps) xs (held_at c p)) (sym (held_push cs ps c p one_each)) (held_gained_push (held_of cs ps) (held_at c p) fresh)

  pub put_held_set : (place : ℕ) → ((k : Spot) → Has (spots_of cs ps) k → k.class ≡ c → p.area < k.area) → IsLastAt cs ps c p.time.0 place → IsHeldGained (held_of cs ps) (held_of cs (slice_set ps place p)) (held_at c p)
  put_held_set place less l =
      let (lt, at, none) = l.last in
      let here = held_get cs ps place c l.point at l.at in
      let low = less (spot c l.point.time.0 l.point.area) (place, spots_at cs ps place c l.point at l.at) refl in
      subst (λ xs. IsHeldGained (held_of cs ps) xs (held_at c p)) (sym (held_set cs ps place c p one_each at)) (held_gained_set (held_of cs ps) (held_at c p) (held_at c l.point) place here refl l.time_is low fresh)

-- orders stay below the number of gains
pub orders_gained : (old new : List Held) (h : Held) (gains : ℕ) → IsHeldGained old new h → h.order ≡ gains → ((l : Held) → IsHeld old l → l.order < gains) → (l : Held) → IsHeld new l → l.order < gains + 1
orders_gained old new h gains gained e orders l has = by_case (gained.only l has)
  where
    by_case : IsHeld old l ⊎ (l ≡ h) → l.order < gains + 1
    by_case (inl in') = let low = orders l in' in omega arith
    by_case (inr same) = let o = ap (λ (x : Held). x.order) same in omega arith
