-- Marks that are taken and marks that wait: what an offer, a class that is taken and a use that is read leave.
use Rattle.std.proofs.Common.{ℕ, zero, suc, ◌+◌, ◌-◌, ◌<◌, ◌≤◌, ◌≡◌, ◌≢◌, ◌⊎◌, eqb, is_some, List, [], ◌∷◌, length, replicate, get_or, Option, Some, None, slice_get, refl, ap, sym, ◌∙◌, subst, subst₂, inl, inr, arith}
use Rattle.std.specs.List.{AllByRecursion}
use Rattle.std.proofs.lemmas.Bool.{cases_eq, eq-eqb, ne_eqb, cond-true, cond-false}
use Rattle.std.proofs.lemmas.Option.{same_Some}
use Rattle.lw_laws.specs.Graphs.{Graph}
use Rattle.lw_laws.specs.Costs.{Cost, IsCall, IsCost}
use Rattle.lw_laws.specs.Covers.{HasPins}
use Rattle.lw_laws.specs.Marks.{Mark, Marks, HaveMarks, IsMarkAtMost, leaf_mark, price, costs_in, greatest_height}
use Rattle.lw_settle.specs.Stores.{Placed, pins_of, times, uses_from}
use Rattle.lw_settle.proofs.Counting.{times-append}
use Rattle.lw_settle.specs.Settling.{IsOffered, HasAtMost, IsSound, IsCovered, IsOffering, untaken}

pub at_most_itself : (k : Mark) → IsMarkAtMost k k
at_most_itself k = record { cost = omega arith; height = λ e. omega arith }

pub at_most_more : (a b c : Mark) → IsMarkAtMost a b → IsMarkAtMost b c → IsMarkAtMost a c
at_most_more a b c p q = record {
  cost = omega (arith, p.cost, q.cost);
  height = λ e.
      let first : a.cost ≡ b.cost = omega (arith, p.cost, q.cost) in
      let second : b.cost ≡ c.cost = omega (arith, p.cost, q.cost) in
      omega (arith, p.height first, q.height second);
}

some_none : {A : Type 0} (o : Option A) (x : A) → o ≡ Some x → o ≡ None → ⊥
some_none o x e f = cc

module _ (g : Graph) (cost : Cost) (ms : List Placed) (taken wait wait' : Marks) (c : ℕ) (k : Mark) (off : IsOffering taken wait wait' c k) where
  -- what holds of all that waited and of what is offered holds of all that waits
  waits_from : (P : ℕ → Mark → Type 0) → ((d : ℕ) (j : Mark) → wait d ≡ Some j → P d j) → P c k → (d : ℕ) (j : Mark) → wait' d ≡ Some j → P d j
  waits_from P all here d j e = by (cases_eq d c)
    where
      at_class : (o : Option Mark) → taken c ≡ o → wait' c ≡ Some j → P c j
      at_class (Some y) t f = all c j (sym (off.closed y t) ∙ f)
      at_class None t f = by_offer (off.at t)
        where
          by_offer : ((wait' c ≡ Some k) × ((x : Mark) → wait c ≡ Some x → IsMarkAtMost k x)) ⊎ ((x : Mark) × (wait c ≡ Some x) × (wait' c ≡ Some x) × IsMarkAtMost x k) → P c j
          by_offer (inl (new, least)) = subst (P c) (same_Some k j (sym new ∙ f)) here
          by_offer (inr (x, was, now, le)) = subst (P c) (same_Some x j (sym now ∙ f)) (all c x was)

      by : (d ≡ c) ⊎ (d ≡ c → ⊥) → P d j
      by (inl same) = subst (λ y. P y j) (sym same) (at_class (taken c) refl (ap wait' (sym same) ∙ e))
      by (inr ne) = all d j (sym (off.others d ne) ∙ e)

  pub offer_sound : (top : Mark) (count : ℕ) → IsSound g cost ms top count taken wait → IsOffered g cost ms taken c k → IsMarkAtMost top k → (k.cost ≤ cost.cap) × (k.height ≤ suc count) → IsSound g cost ms top count taken wait'
  offer_sound top count s by_match high fits = record {
    apart = λ d j e. still_apart d j e (cases_eq d c);
    taken_by = s.taken_by;
    wait_by = waits_from (λ d j. IsOffered g cost ms taken d j) s.wait_by by_match;
    low = s.low;
    high = waits_from (λ d j. IsMarkAtMost top j) s.high high;
    taken_fits = s.taken_fits;
    wait_fits = waits_from (λ d j. (j.cost ≤ cost.cap) × (j.height ≤ suc count)) s.wait_fits fits;
  }
    where
      still_apart : (d : ℕ) (j : Mark) → taken d ≡ Some j → (d ≡ c) ⊎ (d ≡ c → ⊥) → wait' d ≡ None
      still_apart d j e (inl same) =
          ap wait' same ∙ (off.closed j (ap taken (sym same) ∙ e) ∙ s.apart c j (ap taken (sym same) ∙ e))
      still_apart d j e (inr ne) = off.others d ne ∙ s.apart d j e

  module _ (apart : (d : ℕ) (j : Mark) → taken d ≡ Some j → wait d ≡ None) where
    pub offer_keeps : (d : ℕ) (x : Mark) → HasAtMost taken wait d x → HasAtMost taken wait' d x
    offer_keeps d x (j, inl t, le) = (j, inl t, le)
    offer_keeps d x (j, inr w, le) = by (cases_eq d c)
      where
        at_class : (o : Option Mark) → taken c ≡ o → wait c ≡ Some j → HasAtMost taken wait' c x
        at_class (Some y) t f = absurd (some_none (wait c) j f (apart c y t))
        at_class None t f = by_offer (off.at t)
          where
            by_offer : ((wait' c ≡ Some k) × ((y : Mark) → wait c ≡ Some y → IsMarkAtMost k y)) ⊎ ((y : Mark) × (wait c ≡ Some y) × (wait' c ≡ Some y) × IsMarkAtMost y k) → HasAtMost taken wait' c x
            by_offer (inl (new, least)) = (k, inr new, at_most_more k j x (least j f) le)
            by_offer (inr (y, was, now, less)) =
                let same = same_Some y j (sym was ∙ f) in
                (y, inr now, subst (λ z. IsMarkAtMost z x) (sym same) le)

        by : (d ≡ c) ⊎ (d ≡ c → ⊥) → HasAtMost taken wait' d x
        by (inl same) = subst (λ y. HasAtMost taken wait' y x) (sym same) (at_class (taken c) refl (ap wait (sym same) ∙ w))
        by (inr ne) = (j, inr (off.others d ne ∙ w), le)

  pub offer_has : (top : Mark) → ((d : ℕ) (j : Mark) → taken d ≡ Some j → IsMarkAtMost j top) → IsMarkAtMost top k → HasAtMost taken wait' c k
  offer_has top low high = by (taken c) refl
    where
      by_offer : ((wait' c ≡ Some k) × ((y : Mark) → wait c ≡ Some y → IsMarkAtMost k y)) ⊎ ((y : Mark) × (wait c ≡ Some y) × (wait' c ≡ Some y) × IsMarkAtMost y k) → HasAtMost taken wait' c k
      by_offer (inl (new, least)) = (k, inr new, at_most_itself k)
      by_offer (inr (y, was, now, less)) = (y, inr now, less)

      by : (o : Option Mark) → taken c ≡ o → HasAtMost taken wait' c k
      by (Some y) t = (y, inl t, at_most_more y top k (low c y t) high)
      by None t = by_offer (off.at t)

-- how often a number stands among uses
times_same : (j n t : ℕ) → n ≡ j → times j (replicate t n) ≡ t
times_same j n zero e = refl
times_same j n (suc t) e =
    cond-true (eqb n j) (suc (times j (replicate t n))) (times j (replicate t n)) (eq-eqb n j e) ∙ ap suc (times_same j n t e)

times_other : (j n t : ℕ) → n ≢ j → times j (replicate t n) ≡ 0
times_other j n zero ne = refl
times_other j n (suc t) ne =
    cond-false (eqb n j) (suc (times j (replicate t n))) (times j (replicate t n)) (ne_eqb n j ne) ∙ times_other j n t ne

uses_above : (j n c : ℕ) (ms : List Placed) → j < n → times j (uses_from n ms c) ≡ 0
uses_above j n c [] lt = refl
uses_above j n c (m ∷ ms) lt =
    let here = times_other j n (times c (pins_of m)) (λ e. omega arith) in
    let rest = uses_above j (suc n) c ms (omega arith) in
    times-append j (replicate (times c (pins_of m)) n) (uses_from (suc n) ms c) ∙ omega arith

pub times_uses : (j n i c : ℕ) (ms : List Placed) (m : Placed) → j ≡ n + i → slice_get ms i ≡ Some m → times j (uses_from n ms c) ≡ times c (pins_of m)
times_uses j n i c [] m e at = cc
times_uses j n zero c (q ∷ ms) m e at =
    let same : q ≡ m = cc in
    let here = times_same j n (times c (pins_of q)) (omega arith) in
    let rest = uses_above j (suc n) c ms (omega arith) in
    let which = ap (λ (x : Placed). times c (pins_of x)) same in
    times-append j (replicate (times c (pins_of q)) n) (uses_from (suc n) ms c) ∙ omega arith
times_uses j n (suc i) c (q ∷ ms) m e at =
    let here = times_other j n (times c (pins_of q)) (λ s. omega arith) in
    let rest = times_uses j (suc n) i c ms m (omega arith) at in
    times-append j (replicate (times c (pins_of q)) n) (uses_from (suc n) ms c) ∙ omega arith

-- what is left of pins
pub none_untaken : (taken : Marks) (ps : List ℕ) (ks : List Mark) → HaveMarks taken ps ks → untaken taken ps ≡ 0
none_untaken taken [] ks have = refl
none_untaken taken (p ∷ ps) [] have = absurd have
none_untaken taken (p ∷ ps) (k ∷ ks) (e, have) =
    cond-true (is_some (taken p)) (untaken taken ps) (suc (untaken taken ps)) (ap is_some e) ∙ none_untaken taken ps ks have

pub all_marked : (taken : Marks) (ps : List ℕ) → untaken taken ps ≡ 0 → AllByRecursion (λ p. (k : Mark) × (taken p ≡ Some k)) ps
all_marked taken [] e = tt
all_marked taken (p ∷ ps) e = by (taken p) refl (all_marked taken ps)
  where
    by : (o : Option Mark) → taken p ≡ o → (untaken taken ps ≡ 0 → AllByRecursion (λ q. (k : Mark) × (taken q ≡ Some k)) ps) → AllByRecursion (λ q. (k : Mark) × (taken q ≡ Some k)) (p ∷ ps)
    by (Some k) t rest =
        let here = cond-true (is_some (taken p)) (untaken taken ps) (suc (untaken taken ps)) (ap is_some t) in
        ((k, t), rest (sym here ∙ e))
    by None t rest =
        let here = cond-false (is_some (taken p)) (untaken taken ps) (suc (untaken taken ps)) (ap is_some t) in
        absurd (omega arith)

module _ (g : Graph) (cost : Cost) (ms : List Placed) (taken wait taken' wait' : Marks) (c : ℕ) (k : Mark) (was : wait c ≡ Some k) (is : taken' c ≡ Some k) (gone : wait' c ≡ None) (others : (d : ℕ) → d ≢ c → taken' d ≡ taken d) (other_waits : (d : ℕ) → d ≢ c → wait' d ≡ wait d) (apart : (d : ℕ) (j : Mark) → taken d ≡ Some j → wait d ≡ None) where
  pub taken_more : (p : ℕ) (x : Mark) → taken p ≡ Some x → taken' p ≡ Some x
  taken_more p x e = by (cases_eq p c)
    where
      by : (p ≡ c) ⊎ (p ≡ c → ⊥) → taken' p ≡ Some x
      by (inl same) = absurd (some_none (wait c) k was (apart c x (ap taken (sym same) ∙ e)))
      by (inr ne) = others p ne ∙ e

  have_more : (ps : List ℕ) (ks : List Mark) → HaveMarks taken ps ks → HaveMarks taken' ps ks
  have_more [] [] have = tt
  have_more [] (x ∷ ks) have = absurd have
  have_more (p ∷ ps) [] have = absurd have
  have_more (p ∷ ps) (x ∷ ks) (e, have) = (taken_more p x e, have_more ps ks have)

  offered_more : (d : ℕ) (j : Mark) → IsOffered g cost ms taken d j → IsOffered g cost ms taken' d j
  offered_more d j (inl h) = inl h
  offered_more d j (inr (i, m, ks, at, cls, have, e)) = inr (i, m, ks, at, cls, have_more (pins_of m) ks have, e)

  -- what holds of the marks that were taken, and of the new one
  taken_from : (P : ℕ → Mark → Type 0) → ((d : ℕ) (j : Mark) → taken d ≡ Some j → P d j) → P c k → (d : ℕ) (j : Mark) → taken' d ≡ Some j → P d j
  taken_from P all here d j e = by (cases_eq d c)
    where
      by : (d ≡ c) ⊎ (d ≡ c → ⊥) → P d j
      by (inl same) = subst₂ P (sym same) (same_Some k j (sym is ∙ (ap taken' (sym same) ∙ e))) here
      by (inr ne) = all d j (sym (others d ne) ∙ e)

  waits_less : (P : ℕ → Mark → Type 0) → ((d : ℕ) (j : Mark) → wait d ≡ Some j → P d j) → (d : ℕ) (j : Mark) → wait' d ≡ Some j → P d j
  waits_less P all d j e = by (cases_eq d c)
    where
      by : (d ≡ c) ⊎ (d ≡ c → ⊥) → P d j
      by (inl same) = absurd (some_none (wait' d) j e (ap wait' same ∙ gone))
      by (inr ne) = all d j (sym (other_waits d ne) ∙ e)

  pub take_sound : (top : Mark) (count : ℕ) → IsSound g cost ms top count taken wait → ((d : ℕ) (j : Mark) → wait d ≡ Some j → IsMarkAtMost k j) → IsSound g cost ms k (suc count) taken' wait'
  take_sound top count s least = record {
    apart = taken_from (λ d j. wait' d ≡ None) (λ d j e. still_none d j e (cases_eq d c)) gone;
    taken_by = taken_from (λ d j. IsOffered g cost ms taken' d j) (λ d j e. offered_more d j (s.taken_by d j e)) (offered_more c k (s.wait_by c k was));
    wait_by = waits_less (λ d j. IsOffered g cost ms taken' d j) (λ d j e. offered_more d j (s.wait_by d j e));
    low = taken_from (λ d j. IsMarkAtMost j k) (λ d j e. at_most_more j top k (s.low d j e) (s.high c k was)) (at_most_itself k);
    high = waits_less (λ d j. IsMarkAtMost k j) least;
    taken_fits = taken_from (λ d j. (j.cost ≤ cost.cap) × (j.height ≤ suc count)) (λ d j e. let (low, high) = s.taken_fits d j e in (low, omega arith)) (s.wait_fits c k was);
    wait_fits = waits_less (λ d j. (j.cost ≤ cost.cap) × (j.height ≤ suc (suc count))) (λ d j e. let (low, high) = s.wait_fits d j e in (low, omega arith));
  }
    where
      still_none : (d : ℕ) (j : Mark) → taken d ≡ Some j → (d ≡ c) ⊎ (d ≡ c → ⊥) → wait' d ≡ None
      still_none d j e (inl same) = ap wait' same ∙ gone
      still_none d j e (inr ne) = other_waits d ne ∙ s.apart d j e

  take_keeps : (d : ℕ) (x : Mark) → HasAtMost taken wait d x → HasAtMost taken' wait' d x
  take_keeps d x (j, inl t, le) = (j, inl (taken_more d j t), le)
  take_keeps d x (j, inr w, le) = by (cases_eq d c)
    where
      by : (d ≡ c) ⊎ (d ≡ c → ⊥) → HasAtMost taken' wait' d x
      by (inl same) =
          let mark = same_Some k j (sym was ∙ (ap wait (sym same) ∙ w)) in
          (j, inl (ap taken' same ∙ (is ∙ ap Some mark)), le)
      by (inr ne) = (j, inr (other_waits d ne ∙ w), le)

  not_taken : taken c ≡ None
  not_taken = by (taken c) refl
    where
      by : (o : Option Mark) → taken c ≡ o → taken c ≡ None
      by (Some y) t = absurd (some_none (wait c) k was (apart c y t))
      by None t = t

  untaken_take : (ps : List ℕ) → untaken taken ps ≡ untaken taken' ps + times c ps
  untaken_take [] = refl
  untaken_take (p ∷ ps) = by (cases_eq p c) (untaken_take ps)
    where
      by : (p ≡ c) ⊎ (p ≡ c → ⊥) → untaken taken ps ≡ untaken taken' ps + times c ps → untaken taken (p ∷ ps) ≡ untaken taken' (p ∷ ps) + times c (p ∷ ps)
      by (inl same) ih =
          let old : untaken taken (p ∷ ps) ≡ suc (untaken taken ps) = cond-false (is_some (taken p)) (untaken taken ps) (suc (untaken taken ps)) (ap is_some (ap taken same ∙ not_taken)) in
          let new : untaken taken' (p ∷ ps) ≡ untaken taken' ps = cond-true (is_some (taken' p)) (untaken taken' ps) (suc (untaken taken' ps)) (ap is_some (ap taken' same ∙ is)) in
          let one : times c (p ∷ ps) ≡ suc (times c ps) = cond-true (eqb p c) (suc (times c ps)) (times c ps) (eq-eqb p c same) in
          omega arith
      by (inr ne) ih =
          let one : times c (p ∷ ps) ≡ times c ps = cond-false (eqb p c) (suc (times c ps)) (times c ps) (ne_eqb p c ne) in
          by_pin (taken p) refl one
        where
          by_pin : (o : Option Mark) → taken p ≡ o → times c (p ∷ ps) ≡ times c ps → untaken taken (p ∷ ps) ≡ untaken taken' (p ∷ ps) + times c (p ∷ ps)
          by_pin (Some x) t one =
              let old : untaken taken (p ∷ ps) ≡ untaken taken ps = cond-true (is_some (taken p)) (untaken taken ps) (suc (untaken taken ps)) (ap is_some t) in
              let new : untaken taken' (p ∷ ps) ≡ untaken taken' ps = cond-true (is_some (taken' p)) (untaken taken' ps) (suc (untaken taken' ps)) (ap is_some (others p ne ∙ t)) in
              omega arith
          by_pin None t one =
              let old : untaken taken (p ∷ ps) ≡ suc (untaken taken ps) = cond-false (is_some (taken p)) (untaken taken ps) (suc (untaken taken ps)) (ap is_some t) in
              let new : untaken taken' (p ∷ ps) ≡ suc (untaken taken' ps) = cond-false (is_some (taken' p)) (untaken taken' ps) (suc (untaken taken' ps)) (ap is_some (others p ne ∙ t)) in
              omega arith

  -- marks of pins that were all taken before
  have_back : (ps : List ℕ) (ks : List Mark) → untaken taken ps ≡ 0 → HaveMarks taken' ps ks → HaveMarks taken ps ks
  have_back ps ks e have = back ps ks (all_marked taken ps e) have
    where
      back : (qs : List ℕ) (xs : List Mark) → AllByRecursion (λ p. (x : Mark) × (taken p ≡ Some x)) qs → HaveMarks taken' qs xs → HaveMarks taken qs xs
      back [] [] all h = tt
      back [] (x ∷ xs) all h = absurd h
      back (q ∷ qs) [] all h = absurd h
      back (q ∷ qs) (x ∷ xs) ((y, t), all) (f, h) =
          let same = same_Some y x (sym (taken_more q y t) ∙ f) in
          (t ∙ ap Some same, back qs xs all h)

  pub take_covered : (inputs seen : ℕ) (left : List ℕ) → IsCovered g cost ms inputs seen [] taken wait left → IsCovered g cost ms inputs seen (uses_from 0 ms c) taken' wait' left
  take_covered inputs seen left cov = record {
    left_is = λ i m at.
        let was_left = cov.left_is i m at in
        let split = untaken_take (pins_of m) in
        let uses = times_uses i 0 i c ms m (omega arith) at in
        omega arith;
    matches = λ i m ks lt at none have.
        let was_left = cov.left_is i m at in
        let all : untaken taken (pins_of m) ≡ 0 = omega arith in
        take_keeps m.class (price cost m.stored.cell ks) (cov.matches i m ks lt at none (have_back (pins_of m) ks all have));
    leaves = λ i d lt at. take_keeps d (leaf_mark cost i) (cov.leaves i d lt at);
  }

-- a use that is read
pub read_covered : (g : Graph) (cost : Cost) (ms : List Placed) (inputs seen i : ℕ) (m : Placed) (rest : List ℕ) (taken wait wait' : Marks) (left left' : List ℕ) → slice_get ms i ≡ Some m → get_or left' i 0 ≡ get_or left i 0 - 1 → ((j : ℕ) → j ≢ i → get_or left' j 0 ≡ get_or left j 0) → ((d : ℕ) (x : Mark) → HasAtMost taken wait d x → HasAtMost taken wait' d x) → (get_or left' i 0 ≡ 0 → (ks : List Mark) → HaveMarks taken (pins_of m) ks → HasAtMost taken wait' m.class (price cost m.stored.cell ks)) → IsCovered g cost ms inputs seen (i ∷ rest) taken wait left → IsCovered g cost ms inputs seen rest taken wait' left'
read_covered g cost ms inputs seen i m rest taken wait wait' left left' at less others keeps new cov = record {
  left_is = λ j q here. left_at j q here (cases_eq j i);
  matches = λ j q ks lt here none have. match_at j q ks lt here none have (cases_eq j i);
  leaves = λ j d lt here. keeps d (leaf_mark cost j) (cov.leaves j d lt here);
}
  where
    left_at : (j : ℕ) (q : Placed) → slice_get ms j ≡ Some q → (j ≡ i) ⊎ (j ≡ i → ⊥) → get_or left' j 0 ≡ untaken taken (pins_of q) + times j rest
    left_at j q here (inl same) =
        let was = cov.left_is j q here in
        let one : times j (i ∷ rest) ≡ suc (times j rest) = cond-true (eqb i j) (suc (times j rest)) (times j rest) (eq-eqb i j (sym same)) in
        let now : get_or left' j 0 ≡ get_or left j 0 - 1 = ap (λ x. get_or left' x 0) same ∙ (less ∙ ap (λ x. get_or left x 0 - 1) (sym same)) in
        omega arith
    left_at j q here (inr ne) =
        let was = cov.left_is j q here in
        let none : times j (i ∷ rest) ≡ times j rest = cond-false (eqb i j) (suc (times j rest)) (times j rest) (ne_eqb i j (λ e. ne (sym e))) in
        let now = others j ne in
        omega arith

    match_at : (j : ℕ) (q : Placed) (ks : List Mark) → j < seen → slice_get ms j ≡ Some q → get_or left' j 0 ≡ 0 → HaveMarks taken (pins_of q) ks → (j ≡ i) ⊎ (j ≡ i → ⊥) → HasAtMost taken wait' q.class (price cost q.stored.cell ks)
    match_at j q ks lt here none have (inl same) =
        let which = same_Some m q (sym at ∙ (ap (slice_get ms) (sym same) ∙ here)) in
        subst (λ (x : Placed). HasAtMost taken wait' x.class (price cost x.stored.cell ks)) which (new (ap (λ x. get_or left' x 0) (sym same) ∙ none) ks (subst (λ (x : Placed). HaveMarks taken (pins_of x) ks) (sym which) have))
    match_at j q ks lt here none have (inr ne) =
        keeps q.class (price cost q.stored.cell ks) (cov.matches j q ks lt here (sym (others j ne) ∙ none) have)

-- prices
module _ (cost : Cost) (taken : Marks) where
  length-have : (ps : List ℕ) (ks : List Mark) → HaveMarks taken ps ks → length (costs_in ks) ≡ length ps
  length-have [] [] have = refl
  length-have [] (k ∷ ks) have = absurd have
  length-have (p ∷ ps) [] have = absurd have
  length-have (p ∷ ps) (k ∷ ks) (e, have) = ap suc (length-have ps ks have)

  capped : (ps : List ℕ) (ks : List Mark) → ((p : ℕ) (k : Mark) → taken p ≡ Some k → k.cost ≤ cost.cap) → HaveMarks taken ps ks → AllByRecursion (λ d. d ≤ cost.cap) (costs_in ks)
  capped [] [] fits have = tt
  capped [] (k ∷ ks) fits have = absurd have
  capped (p ∷ ps) [] fits have = absurd have
  capped (p ∷ ps) (k ∷ ks) fits (e, have) = (fits p k e, capped ps ks fits have)

  pub price_call : (cell : ℕ) (ps : List ℕ) (ks : List Mark) → HasPins cost.pin_counts cell (length ps) → ((p : ℕ) (k : Mark) → taken p ≡ Some k → k.cost ≤ cost.cap) → HaveMarks taken ps ks → IsCall cost cell (costs_in ks)
  price_call cell ps ks pins fits have = record {
    pins = subst (HasPins cost.pin_counts cell) (sym (length-have ps ks have)) pins;
    capped = capped ps ks fits have;
  }

  pub greatest_fits : (n : ℕ) (ps : List ℕ) (ks : List Mark) → ((p : ℕ) (k : Mark) → taken p ≡ Some k → k.height ≤ n) → HaveMarks taken ps ks → greatest_height ks ≤ n
  greatest_fits n [] [] fits have = omega arith
  greatest_fits n [] (k ∷ ks) fits have = absurd have
  greatest_fits n (p ∷ ps) [] fits have = absurd have
  greatest_fits n (p ∷ ps) (k ∷ ks) fits (e, have) =
      let here = fits p k e in
      let rest = greatest_fits n ps ks fits have in
      omega arith

  pub price_fits : (n cell : ℕ) (ps : List ℕ) (ks : List Mark) → IsCost cost → HasPins cost.pin_counts cell (length ps) → ((p : ℕ) (k : Mark) → taken p ≡ Some k → (k.cost ≤ cost.cap) × (k.height ≤ n)) → HaveMarks taken ps ks → ((price cost cell ks).cost ≤ cost.cap) × ((price cost cell ks).height ≤ suc n)
  price_fits n cell ps ks is pins fits have =
      let high = greatest_fits n ps ks (λ p k e. (fits p k e).1) have in
      (is.capped cell (costs_in ks) (price_call cell ps ks pins (λ p k e. (fits p k e).0) have), omega arith)

  top_in : (c v : ℕ) (top : Mark) (ps : List ℕ) (ks : List Mark) → taken c ≡ Some top → 0 < times c ps → HaveMarks taken ps ks → AllByRecursion (λ d. d ≤ v) (costs_in ks) → (top.cost ≤ v) × (top.height ≤ greatest_height ks)
  top_in c v top [] ks e pos have all = absurd (omega arith)
  top_in c v top (p ∷ ps) [] e pos have all = absurd have
  top_in c v top (p ∷ ps) (k ∷ ks) e pos (f, have) (le, all) = by (cases_eq p c) (λ more. top_in c v top ps ks e more have all)
    where
      by : (p ≡ c) ⊎ (p ≡ c → ⊥) → (0 < times c ps → (top.cost ≤ v) × (top.height ≤ greatest_height ks)) → (top.cost ≤ v) × (top.height ≤ greatest_height (k ∷ ks))
      by (inl same) rest =
          let mark = same_Some k top (sym f ∙ (ap taken same ∙ e)) in
          let c_is = ap (λ (x : Mark). x.cost) mark in
          let h_is = ap (λ (x : Mark). x.height) mark in
          (omega arith, omega arith)
      by (inr ne) rest =
          let none : times c (p ∷ ps) ≡ times c ps = cond-false (eqb p c) (suc (times c ps)) (times c ps) (ne_eqb p c ne) in
          let (a, b) = rest (omega arith) in
          (a, omega arith)

  -- the price of a match is above the mark of each of its pins
  pub price_above : (cell c : ℕ) (top : Mark) (ps : List ℕ) (ks : List Mark) → IsCost cost → HasPins cost.pin_counts cell (length ps) → ((p : ℕ) (k : Mark) → taken p ≡ Some k → k.cost ≤ cost.cap) → HaveMarks taken ps ks → taken c ≡ Some top → 0 < times c ps → IsMarkAtMost top (price cost cell ks)
  price_above cell c top ps ks is pins fits have e pos =
      let call = price_call cell ps ks pins fits have in
      let (low, high) = top_in c (cost.value cell (costs_in ks)) top ps ks e pos have (is.above_pins cell (costs_in ks) call) in
      record { cost = low; height = λ s. omega arith }
