-- What settling keeps, step by step.
use Rattle.std.proofs.Common.{ℕ, zero, suc, ◌+◌, ◌-◌, ◌*◌, ◌^◌, ◌<◌, ◌≤◌, ◌≡◌, ◌≢◌, ◌⊎◌, Bool, true, false, cond, eqb, List, [], ◌∷◌, ◌++◌, length, map, drop, replicate, get_or, set, Option, Some, None, option_map, slice_get, refl, ap, ap₂, sym, ◌∙◌, subst, subst₂, inl, inr, add-one, arith}
use Rattle.std.specs.List.{AllByRecursion}
use Rattle.std.proofs.lemmas.Bool.{cases_eq, cases_lt, eq-eqb, ne_eqb, cond-true, cond-false}
use Rattle.std.proofs.lemmas.List.{drop_more, length-set, get_or-set_same, get_or-set_other}
use Rattle.std.proofs.lemmas.Option.{same_Some, slice_get_within, get_or_from_slice_get}
use Rattle.lw_laws.specs.Graphs.{Graph}
use Rattle.lw_laws.specs.Costs.{Cost, IsCost}
use Rattle.lw_laws.specs.Marks.{Mark as PlainMark, Marks, HaveMarks, IsMarkAtMost, leaf_mark, price}
use Rattle.lw_cost.specs.declared.mark.Mark.{Mark}
use Rattle.lw_cost.specs.Values.{marks_in, plain_mark}
use Rattle.lw_cost.specs.Labels.{marked}
use Rattle.lw_cost.proofs.MarksAsLabels.{marked_more, marked_most, mark_set_same, mark_set_other}
use Rattle.lw_settle.specs.declared.queue.Taken.{Taken}
use Rattle.lw_settle.specs.Queues.{IsFirst, IsLowered}
use Rattle.lw_settle.specs.Stores.{Stored, Placed, placed, pins_of, times, uses_from, uses_of, AreKeptLists, AreOfStoredCells}
use Rattle.lw_settle.specs.Settling.{HasAtMost, IsSound, IsCovered, IsCounted, IsMatchOffered, IsSettling, IsReadingOf, IsReadingSome, AreInputsOffered, Stage, first_stage, untaken, used, zeros, pin_count}
use Rattle.lw_settle.proofs.Taking.{at_most_itself, at_most_more, offer_sound, offer_keeps, offer_has, take_sound, take_covered, read_covered, price_fits, price_above, all_marked}

-- how often matches were read
used_set : (ms : List Placed) (left : List ℕ) (i v : ℕ) (m : Placed) → slice_get ms i ≡ Some m → get_or left i 0 ≡ suc v → suc v ≤ length (pins_of m) → used ms (set left i v) ≡ suc (used ms left)
used_set [] left i v m at e le = cc
used_set (q ∷ ms) [] i v m at e le = absurd (omega arith)
used_set (q ∷ ms) (l ∷ left) zero v m at e le =
    let same : q ≡ m = cc in
    let long = ap (λ (x : Placed). length (pins_of x)) same in
    omega arith
used_set (q ∷ ms) (l ∷ left) (suc i) v m at e le = let ih = used_set ms left i v m at e le in omega arith

zeros_set : (n : ℕ) (left : List ℕ) (i v : ℕ) → i < n → get_or left i 0 ≡ suc v → zeros n (set left i v) ≡ zeros n left + cond (eqb v 0) 1 0
zeros_set n [] i v lt e = absurd (omega arith)
zeros_set zero (l ∷ left) i v lt e = absurd (omega arith)
zeros_set (suc n) (l ∷ left) zero v lt e =
    let none : cond {A = ℕ} (eqb l 0) 1 0 ≡ 0 = cond-false {A = ℕ} (eqb l 0) 1 0 (ne_eqb l 0 (λ s. omega arith)) in
    omega arith
zeros_set (suc n) (l ∷ left) (suc i) v lt e = let ih = zeros_set n left i v (omega arith) e in omega arith

zeros_next : (n : ℕ) (left : List ℕ) → n < length left → zeros (suc n) left ≡ zeros n left + cond (eqb (get_or left n 0) 0) 1 0
zeros_next n [] lt = absurd (omega arith)
zeros_next zero (l ∷ []) lt = omega arith
zeros_next zero (l ∷ k ∷ left) lt = omega arith
zeros_next (suc n) (l ∷ left) lt = let ih = zeros_next n left (omega arith) in omega arith

pub used_none : (ms : List Placed) → used ms (map pin_count ms) ≡ 0
used_none [] = refl
used_none (m ∷ ms) = let ih = used_none ms in omega arith

pub zeros_none : (left : List ℕ) → zeros 0 left ≡ 0
zeros_none [] = refl
zeros_none (l ∷ left) = refl

zeros_few : (n : ℕ) (left : List ℕ) → zeros n left ≤ length left
zeros_few n [] = omega arith
zeros_few zero (l ∷ left) = omega arith
zeros_few (suc n) (l ∷ left) = by (eqb l 0) (zeros_few n left)
  where
    by : (b : Bool) → zeros n left ≤ length left → cond {A = ℕ} b 1 0 + zeros n left ≤ suc (length left)
    by true ih = omega arith
    by false ih = omega arith

used_few : (ms : List Placed) (left : List ℕ) → ((i : ℕ) (m : Placed) → slice_get ms i ≡ Some m → length (pins_of m) ≤ 16) → used ms left ≤ 16 * length ms
used_few [] left few = omega arith
used_few (m ∷ ms) [] few = omega arith
used_few (m ∷ ms) (l ∷ left) few =
    let here = few 0 m refl in
    let ih = used_few ms left (λ i q at. few (suc i) q at) in
    omega arith

-- readings are few
pub done_low : (lists : List (List Stored)) (seen start done : ℕ) (left : List ℕ) → AreKeptLists lists → start < 2 ^ 62 → IsCounted (placed lists) seen start done left → done + 1 < 2 ^ 63
done_low lists seen start done left kept fresh counted =
    omega (arith, used_few (placed lists) left kept.few_pins, zeros_few seen left, counted.sum, counted.one_each, kept.few)

-- a use stands for a match with a pin of the class
append_at : (xs ys : List ℕ) (j x : ℕ) → slice_get (xs ++ ys) j ≡ Some x → (slice_get xs j ≡ Some x) ⊎ ((k : ℕ) × (slice_get ys k ≡ Some x))
append_at [] ys j x e = inr (j, e)
append_at (y ∷ xs) ys zero x e = inl e
append_at (y ∷ xs) ys (suc j) x e = append_at xs ys j x e

replicate_at : (t n j x : ℕ) → slice_get (replicate t n) j ≡ Some x → (x ≡ n) × (0 < t)
replicate_at zero n j x e = cc
replicate_at (suc t) n zero x e = (sym (same_Some n x e), omega arith)
replicate_at (suc t) n (suc j) x e = let (same, pos) = replicate_at t n j x e in (same, omega arith)

use_from : (n c j x : ℕ) (ms : List Placed) → slice_get (uses_from n ms c) j ≡ Some x → (i : ℕ) × (m : Placed) × (x ≡ n + i) × (slice_get ms i ≡ Some m) × (0 < times c (pins_of m))
use_from n c j x [] e = cc
use_from n c j x (m ∷ ms) e = by (append_at (replicate (times c (pins_of m)) n) (uses_from (suc n) ms c) j x e) (λ k f. use_from (suc n) c k x ms f)
  where
    by : (slice_get (replicate (times c (pins_of m)) n) j ≡ Some x) ⊎ ((k : ℕ) × (slice_get (uses_from (suc n) ms c) k ≡ Some x)) → ((k : ℕ) → slice_get (uses_from (suc n) ms c) k ≡ Some x → (i : ℕ) × (q : Placed) × (x ≡ suc n + i) × (slice_get ms i ≡ Some q) × (0 < times c (pins_of q))) → (i : ℕ) × (q : Placed) × (x ≡ n + i) × (slice_get (m ∷ ms) i ≡ Some q) × (0 < times c (pins_of q))
    by (inl h) rest = let (same, pos) = replicate_at (times c (pins_of m)) n j x h in (0, m, omega arith, refl, pos)
    by (inr (k, f)) rest = let (i, q, at, here, pos) = rest k f in (suc i, q, omega arith, here, pos)

pub use_match : (c j x : ℕ) (ms : List Placed) → slice_get (uses_from 0 ms c) j ≡ Some x → (m : Placed) × (slice_get ms x ≡ Some m) × (0 < times c (pins_of m))
use_match c j x ms e =
    let (i, m, at, here, pos) = use_from 0 c j x ms e in
    let same : i ≡ x = omega arith in
    (m, subst (λ k. slice_get ms k ≡ Some m) same here, pos)

have_once : (taken : Marks) (ps : List ℕ) (ks js : List PlainMark) → HaveMarks taken ps ks → HaveMarks taken ps js → ks ≡ js
have_once taken [] [] [] a b = refl
have_once taken [] [] (j ∷ js) a b = absurd b
have_once taken [] (k ∷ ks) js a b = absurd a
have_once taken (p ∷ ps) [] js a b = absurd a
have_once taken (p ∷ ps) (k ∷ ks) [] a b = absurd b
have_once taken (p ∷ ps) (k ∷ ks) (j ∷ js) (e, a) (f, b) =
    ap₂ (λ x xs. x ∷ xs) (same_Some k j (sym e ∙ f)) (have_once taken ps ks js a b)

-- a match that is offered at a price that is not before the top
pub record IsOfferedWell (g : Graph) (cost : Cost) (ms : List Placed) (top : PlainMark) (count place : ℕ) (taken wait wait' : Marks) : Type 0 where
  pub sound : IsSound g cost ms top count taken wait'
  pub keeps : (d : ℕ) (x : PlainMark) → HasAtMost taken wait d x → HasAtMost taken wait' d x
  pub has : (m : Placed) (ks : List PlainMark) → slice_get ms place ≡ Some m → HaveMarks taken (pins_of m) ks → HasAtMost taken wait' m.class (price cost m.stored.cell ks)

pub offered_well : (g : Graph) (cost : Cost) (lists : List (List Stored)) (top : PlainMark) (count place : ℕ) (taken wait wait' : Marks) → IsCost cost → AreOfStoredCells cost.pin_counts lists → IsSound g cost (placed lists) top count taken wait → IsMatchOffered cost (placed lists) place taken wait wait' → ((m : Placed) (ks : List PlainMark) → slice_get (placed lists) place ≡ Some m → HaveMarks taken (pins_of m) ks → IsMarkAtMost top (price cost m.stored.cell ks)) → IsOfferedWell g cost (placed lists) top count place taken wait wait'
offered_well g cost lists top count place taken wait wait' is of sound offered above =
    let ms = placed lists in
    let m = offered.at in
    let ks = offered.pin_marks in
    let k = price cost m.stored.cell ks in
    let high = above m ks offered.listed offered.have in
    let fits = price_fits cost taken count m.stored.cell (pins_of m) ks is (of place m offered.listed) sound.taken_fits offered.have in
    record {
      sound = offer_sound g cost ms taken wait wait' m.class k offered.offering top count sound (inr (place, m, ks, offered.listed, refl, offered.have, refl)) high fits;
      keeps = offer_keeps g cost ms taken wait wait' m.class k offered.offering sound.apart;
      has = λ q js at have.
          let which = same_Some m q (sym offered.listed ∙ at) in
          let have_m = subst (λ (x : Placed). HaveMarks taken (pins_of x) js) (sym which) have in
          let same = have_once taken (pins_of m) ks js offered.have have_m in
          let here = offer_has g cost ms taken wait wait' m.class k offered.offering top sound.low high in
          subst₂ (λ (x : Placed) xs. HasAtMost taken wait' x.class (price cost x.stored.cell xs)) which same here;
    }

-- a use that is read
module _ (cost : Cost) (lists : List (List Stored)) (s : Stage) (class n done : ℕ) (marks wait : List (Option Mark)) (left : List ℕ) (place : ℕ) (is : IsCost cost) (kept : AreKeptLists lists) (of : AreOfStoredCells cost.pin_counts lists) (reading : IsReadingOf cost lists s class n done marks wait left) (use_is : slice_get (uses_of lists class) n ≡ Some place) where
  abbrev ms : List Placed
  ms = placed lists

  unread : drop n (uses_of lists class) ≡ place ∷ drop (n + 1) (uses_of lists class)
  unread =
      drop_more (uses_of lists class) n place (slice_get_within (uses_of lists class) n place use_is) ∙ ap (λ x. x ∷ drop (n + 1) (uses_of lists class)) (get_or_from_slice_get (uses_of lists class) n place place use_is)

  found : (m : Placed) × (slice_get ms place ≡ Some m) × (0 < times class (pins_of m))
  found = use_match class n place ms use_is

  pub use_place : place < length ms
  use_place = slice_get_within ms place found.0 found.1

  covered : IsCovered s.graph cost ms (length s.graph.leaves) (length ms) (place ∷ drop (n + 1) (uses_of lists class)) (marks_in marks) (marks_in wait) left
  covered =
      subst (λ u. IsCovered s.graph cost ms (length s.graph.leaves) (length ms) u (marks_in marks) (marks_in wait) left) unread reading.reading.covered

  pub some_left : 0 < get_or left place 0
  some_left =
      let was = covered.left_is place found.0 found.1 in
      let one : times place (place ∷ drop (n + 1) (uses_of lists class)) ≡ suc (times place (drop (n + 1) (uses_of lists class))) = cond-true (eqb place place) (suc (times place (drop (n + 1) (uses_of lists class)))) (times place (drop (n + 1) (uses_of lists class))) (eq-eqb place place refl) in
      omega arith

  abbrev less : ℕ
  less = get_or left place 0 - 1

  abbrev left' : List ℕ
  left' = set left place less

  place_left : place < length left
  place_left = omega (arith, use_place, reading.reading.counted.one_each)

  now_left : get_or left' place 0 ≡ less
  now_left = get_or-set_same left place less 0 place_left

  counted_with : (more : ℕ) → more ≡ cond (eqb less 0) 1 0 → IsCounted ms (length ms) s.start (done + 1 + more) left'
  counted_with more e =
      let c = reading.reading.counted in
      let pos : get_or left place 0 ≡ suc less = omega (arith, some_left) in
      let most = c.most place found.0 found.1 in
      let u = used_set ms left place less found.0 found.1 pos (omega arith) in
      let z = zeros_set (length ms) left place less use_place pos in
      record {
        one_each = length-set left place less ∙ c.one_each;
        most = λ i m at. most_left i m at (cases_eq i place);
        sum = omega (arith, c.sum);
      }
    where
      most_left : (i : ℕ) (m : Placed) → slice_get ms i ≡ Some m → (i ≡ place) ⊎ (i ≡ place → ⊥) → get_or left' i 0 ≤ length (pins_of m)
      most_left i m at (inl same) =
          let was = reading.reading.counted.most i m at in
          let here : get_or left' i 0 ≡ less = ap (λ x. get_or left' x 0) same ∙ now_left in
          let old : get_or left i 0 ≡ get_or left place 0 = ap (λ x. get_or left x 0) same in
          omega arith
      most_left i m at (inr ne) =
          let was = reading.reading.counted.most i m at in
          let here : get_or left' i 0 ≡ get_or left i 0 = get_or-set_other left place i less 0 ne in
          omega arith

  -- pins are left
  pub read_kept : less ≢ 0 → IsReadingOf cost lists s class (n + 1) (done + 1) marks wait left'
  read_kept ne =
      let r = reading.reading in
      let none : 0 ≡ cond (eqb less 0) 1 0 = sym (cond-false (eqb less 0) 1 0 (ne_eqb less 0 ne)) in
      let same : done + 1 + 0 ≡ done + 1 = omega arith in
      record {
        taken = reading.taken;
        reading = record {
          one_each = r.one_each;
          few = r.few;
          fresh = r.fresh;
          one_mark = r.one_mark;
          one_wait = r.one_wait;
          sound = r.sound;
          covered = read_covered s.graph cost ms (length s.graph.leaves) (length ms) place found.0 (drop (n + 1) (uses_of lists class)) (marks_in marks) (marks_in wait) (marks_in wait) left left' found.1 now_left (λ j other. get_or-set_other left place j less 0 other) (λ d x h. h) (λ e. absurd (ne (sym now_left ∙ e))) covered;
          counted = subst (λ d. IsCounted ms (length ms) s.start d left') same (counted_with 0 none);
        };
      }

  pins_marked : less ≡ 0 → untaken (marks_in marks) (pins_of found.0) ≡ 0
  pins_marked e =
      let was = covered.left_is place found.0 found.1 in
      let one : times place (place ∷ drop (n + 1) (uses_of lists class)) ≡ suc (times place (drop (n + 1) (uses_of lists class))) = cond-true (eqb place place) (suc (times place (drop (n + 1) (uses_of lists class)))) (times place (drop (n + 1) (uses_of lists class))) (eq-eqb place place refl) in
      omega arith

  pub marked_pins : less ≡ 0 → (m : Placed) → slice_get ms place ≡ Some m → AllByRecursion (λ p. (k : PlainMark) × (marks_in marks p ≡ Some k)) (pins_of m)
  marked_pins e m at =
      let which = same_Some found.0 m (sym found.1 ∙ at) in
      subst (λ (x : Placed). AllByRecursion (λ p. (k : PlainMark) × (marks_in marks p ≡ Some k)) (pins_of x)) which (all_marked (marks_in marks) (pins_of found.0) (pins_marked e))

  -- no pin is left, and the match is offered
  pub read_priced : (wait' : List (Option Mark)) → less ≡ 0 → length wait' ≡ length wait → IsMatchOffered cost ms place (marks_in marks) (marks_in wait) (marks_in wait') → IsReadingOf cost lists s class (n + 1) (done + 1 + 1) marks wait' left'
  read_priced wait' e long offered =
      let r = reading.reading in
      let one : 1 ≡ cond (eqb less 0) 1 0 = sym (cond-true (eqb less 0) 1 0 (eq-eqb less 0 e)) in
      let well = offered_well s.graph cost lists s.top (marked marks) place (marks_in marks) (marks_in wait) (marks_in wait') is of r.sound offered (λ m ks at have.
      let which = same_Some found.0 m (sym found.1 ∙ at) in
      let pos = subst (λ (x : Placed). 0 < times class (pins_of x)) which found.2 in
      price_above cost (marks_in marks) m.stored.cell class s.top (pins_of m) ks is (of place m at) (λ p k f. (r.sound.taken_fits p k f).0) have reading.taken pos) in
      record {
        taken = reading.taken;
        reading = record {
          one_each = r.one_each;
          few = r.few;
          fresh = r.fresh;
          one_mark = r.one_mark;
          one_wait = long ∙ r.one_wait;
          sound = well.sound;
          covered = read_covered s.graph cost ms (length s.graph.leaves) (length ms) place found.0 (drop (n + 1) (uses_of lists class)) (marks_in marks) (marks_in wait) (marks_in wait') left left' found.1 now_left (λ j other. get_or-set_other left place j less 0 other) well.keeps (λ f ks have. well.has found.0 ks found.1 have) covered;
          counted = counted_with 1 one;
        };
      }

pub marks_some : (marks : List (Option Mark)) (c : ℕ) (m : Mark) → get_or marks c None ≡ Some m → marks_in marks c ≡ Some (plain_mark m)
marks_some marks c m e = ap (option_map plain_mark) e

some_of : (marks : List (Option Mark)) (c : ℕ) (k : PlainMark) → marks_in marks c ≡ Some k → (m : Mark) × (get_or marks c None ≡ Some m) × (plain_mark m ≡ k)
some_of marks c k e = by (get_or marks c None) refl
  where
    by : (o : Option Mark) → get_or marks c None ≡ o → (m : Mark) × (get_or marks c None ≡ Some m) × (plain_mark m ≡ k)
    by None f = let there = ap (option_map plain_mark) f in absurd (cc)
    by (Some m) f = (m, f, same_Some (plain_mark m) k (sym (marks_some marks c m f) ∙ e))

mark_set_none : (marks : List (Option Mark)) (c : ℕ) → marks_in (set marks c None) c ≡ None
mark_set_none [] c = refl
mark_set_none (o ∷ marks) zero = refl
mark_set_none (o ∷ marks) (suc c) = mark_set_none marks c

-- where a class has no mark, there are fewer marks than classes
pub marked_below : (marks : List (Option Mark)) (c : ℕ) (m : Mark) → c < length marks → get_or marks c None ≡ None → marked marks < length marks
marked_below marks c m lt none =
    omega (arith, marked_more marks c m lt none, marked_most (set marks c (Some m)), length-set marks c (Some m))

-- one more input
pub inputs_more : (g : Graph) (cost : Cost) (i c : ℕ) (m : Mark) (wait wait' : List (Option Mark)) → AreInputsOffered g cost i wait → slice_get g.leaves i ≡ Some c → c < length g.pairs → plain_mark m ≡ leaf_mark cost i → IsLowered wait wait' c m → AreInputsOffered g cost (i + 1) wait'
inputs_more g cost i c m wait wait' a at within is low = record {
  one_each = long low ∙ a.one_each;
  from = λ d k e. from d k e low (cases_eq d c);
  leaves = λ j d lt here. leaf j d here (cases_lt j i) lt low (cases_eq d c);
}
  where
    long : IsLowered wait wait' c m → length wait' ≡ length wait
    long (inl (new, h)) = ap length new ∙ length-set wait c (Some m)
    long (inr (new, h)) = ap length new

    room : c < length wait
    room = omega (arith, a.one_each)

    from : (d : ℕ) (k : PlainMark) → marks_in wait' d ≡ Some k → IsLowered wait wait' c m → (d ≡ c) ⊎ (d ≡ c → ⊥) → (j : ℕ) × (slice_get g.leaves j ≡ Some d) × (k ≡ leaf_mark cost j)
    from d k e (inl (new, least)) (inl same) =
        let here = ap (λ w. marks_in w c) new ∙ mark_set_same wait c m room in
        let mark = same_Some (plain_mark m) k (sym here ∙ (ap (marks_in wait') (sym same) ∙ e)) in
        (i, at ∙ ap Some (sym same), sym mark ∙ is)
    from d k e (inl (new, least)) (inr ne) =
        a.from d k (sym (ap (λ w. marks_in w d) new ∙ mark_set_other wait c d (Some m) ne) ∙ e)
    from d k e (inr (new, h)) o = a.from d k (sym (ap (λ w. marks_in w d) new) ∙ e)

    at_class : IsLowered wait wait' c m → (k : PlainMark) × (marks_in wait' c ≡ Some k) × IsMarkAtMost k (plain_mark m)
    at_class (inl (new, least)) =
        (plain_mark m, ap (λ w. marks_in w c) new ∙ mark_set_same wait c m room, at_most_itself (plain_mark m))
    at_class (inr (new, (x, there, le))) =
        (plain_mark x, ap (λ w. marks_in w c) new ∙ marks_some wait c x there, le)

    kept : (d : ℕ) (x k : PlainMark) → marks_in wait d ≡ Some k → IsMarkAtMost k x → IsLowered wait wait' c m → (d ≡ c) ⊎ (d ≡ c → ⊥) → (l : PlainMark) × (marks_in wait' d ≡ Some l) × IsMarkAtMost l x
    kept d x k e le (inl (new, least)) (inl same) =
        let (y, there, plain) = some_of wait c k (ap (marks_in wait) (sym same) ∙ e) in
        let less = subst (IsMarkAtMost (plain_mark m)) plain (least y there) in
        (plain_mark m, ap (marks_in wait') same ∙ (ap (λ w. marks_in w c) new ∙ mark_set_same wait c m room), at_most_more (plain_mark m) k x less le)
    kept d x k e le (inl (new, least)) (inr ne) =
        (k, ap (λ w. marks_in w d) new ∙ (mark_set_other wait c d (Some m) ne ∙ e), le)
    kept d x k e le (inr (new, h)) o = (k, ap (λ w. marks_in w d) new ∙ e, le)

    leaf : (j d : ℕ) → slice_get g.leaves j ≡ Some d → (j < i) ⊎ (i ≤ j) → j < i + 1 → IsLowered wait wait' c m → (d ≡ c) ⊎ (d ≡ c → ⊥) → (l : PlainMark) × (marks_in wait' d ≡ Some l) × IsMarkAtMost l (leaf_mark cost j)
    leaf j d here (inl lt) le low o =
        let (k, e, most) = a.leaves j d lt here in
        kept d (leaf_mark cost j) k e most low o
    leaf j d here (inr ge) le low o =
        let same : j ≡ i = omega arith in
        let (k, e, most) = at_class low in
        let class = same_Some d c (sym here ∙ (ap (slice_get g.leaves) same ∙ at)) in
        (k, ap (marks_in wait') class ∙ e, subst (IsMarkAtMost k) (is ∙ ap (leaf_mark cost) (sym same)) most)

-- a match before any class is taken
module _ (cost : Cost) (lists : List (List Stored)) (g : Graph) (start place done : ℕ) (marks wait : List (Option Mark)) (left : List ℕ) (w : IsSettling cost lists (first_stage g start) (length g.leaves) place [] done marks wait left) (lt : place < length (placed lists)) where
  abbrev all : List Placed
  all = placed lists

  abbrev top : PlainMark
  top = record { cost = 0; height = 0 }

  counted_next : (more : ℕ) → more ≡ cond (eqb (get_or left place 0) 0) 1 0 → IsCounted all (place + 1) start (done + more) left
  counted_next more e =
      let c = w.counted in
      let z = zeros_next place left (omega (arith, c.one_each)) in
      let next = ap (λ n. zeros n left) (add-one place) in
      record { one_each = c.one_each; most = c.most; sum = omega (arith, c.sum) }

  pub pinned_kept : get_or left place 0 ≢ 0 → IsSettling cost lists (first_stage g start) (length g.leaves) (place + 1) [] done marks wait left
  pinned_kept ne =
      let none : 0 ≡ cond (eqb (get_or left place 0) 0) 1 0 = sym (cond-false (eqb (get_or left place 0) 0) 1 0 (ne_eqb (get_or left place 0) 0 ne)) in
      let same : done + 0 ≡ done = omega arith in
      record {
        one_each = w.one_each;
        few = w.few;
        fresh = w.fresh;
        one_mark = w.one_mark;
        one_wait = w.one_wait;
        sound = w.sound;
        covered = record {
          left_is = w.covered.left_is;
          matches = λ i m ks below at none have. by i m ks below at none have (cases_eq i place);
          leaves = w.covered.leaves;
        };
        counted = subst (λ d. IsCounted all (place + 1) start d left) same (counted_next 0 none);
      }
    where
      by : (i : ℕ) (m : Placed) (ks : List PlainMark) → i < place + 1 → slice_get all i ≡ Some m → get_or left i 0 ≡ 0 → HaveMarks (marks_in marks) (pins_of m) ks → (i ≡ place) ⊎ (i ≡ place → ⊥) → HasAtMost (marks_in marks) (marks_in wait) m.class (price cost m.stored.cell ks)
      by i m ks below at none have (inl same) = absurd (ne (ap (λ x. get_or left x 0) (sym same) ∙ none))
      by i m ks below at none have (inr other) = w.covered.matches i m ks (omega arith) at none have

  pub pinless_marked : get_or left place 0 ≡ 0 → (m : Placed) → slice_get all place ≡ Some m → AllByRecursion (λ p. (k : PlainMark) × (marks_in marks p ≡ Some k)) (pins_of m)
  pinless_marked e m at =
      let was = w.covered.left_is place m at in
      all_marked (marks_in marks) (pins_of m) (omega arith)

  pub pinless_offered : (wait' : List (Option Mark)) → IsCost cost → AreOfStoredCells cost.pin_counts lists → get_or left place 0 ≡ 0 → length wait' ≡ length wait → IsMatchOffered cost all place (marks_in marks) (marks_in wait) (marks_in wait') → IsSettling cost lists (first_stage g start) (length g.leaves) (place + 1) [] (done + 1) marks wait' left
  pinless_offered wait' is of e long offered =
      let one : 1 ≡ cond (eqb (get_or left place 0) 0) 1 0 = sym (cond-true (eqb (get_or left place 0) 0) 1 0 (eq-eqb (get_or left place 0) 0 e)) in
      let well = offered_well g cost lists top (marked marks) place (marks_in marks) (marks_in wait) (marks_in wait') is of w.sound offered (λ m ks at have. record { cost = omega arith; height = λ s. omega arith }) in
      record {
        one_each = w.one_each;
        few = w.few;
        fresh = w.fresh;
        one_mark = w.one_mark;
        one_wait = long ∙ w.one_wait;
        sound = well.sound;
        covered = record {
          left_is = w.covered.left_is;
          matches = λ i m ks below at none have. by well i m ks below at none have (cases_eq i place);
          leaves = λ i c below at. well.keeps c (leaf_mark cost i) (w.covered.leaves i c below at);
        };
        counted = counted_next 1 one;
      }
    where
      by : IsOfferedWell g cost all top (marked marks) place (marks_in marks) (marks_in wait) (marks_in wait') → (i : ℕ) (m : Placed) (ks : List PlainMark) → i < place + 1 → slice_get all i ≡ Some m → get_or left i 0 ≡ 0 → HaveMarks (marks_in marks) (pins_of m) ks → (i ≡ place) ⊎ (i ≡ place → ⊥) → HasAtMost (marks_in marks) (marks_in wait') m.class (price cost m.stored.cell ks)
      by well i m ks below at none have (inl same) = well.has m ks (ap (slice_get all) (sym same) ∙ at) have
      by well i m ks below at none have (inr other) =
          well.keeps m.class (price cost m.stored.cell ks) (w.covered.matches i m ks (omega arith) at none have)

-- a class that is taken
module _ (cost : Cost) (lists : List (List Stored)) (g : Graph) (start done : ℕ) (marks wait : List (Option Mark)) (left : List ℕ) (t : Taken) (r : IsReadingSome cost lists g start done marks wait left) (first : IsFirst wait t) where
  abbrev class : ℕ
  class = t.class.0

  abbrev mark : PlainMark
  mark = plain_mark t.mark

  abbrev stage : Stage
  stage = record { graph = g; start = start; top = mark }

  class_waits : class < length wait
  class_waits = slice_get_within wait class (Some t.mark) first.at

  pub class_within : class < length marks
  class_within = omega (arith, class_waits, r.reading.one_wait, r.reading.one_mark)

  was : marks_in wait class ≡ Some mark
  was = marks_some wait class t.mark (get_or_from_slice_get wait class (Some t.mark) None first.at)

  pub unmarked : get_or marks class None ≡ None
  unmarked = by (get_or marks class None) refl
    where
      by : (o : Option Mark) → get_or marks class None ≡ o → get_or marks class None ≡ None
      by None e = e
      by (Some m) e =
          let none = r.reading.sound.apart class (plain_mark m) (marks_some marks class m e) in
          absurd (cc (was))

  least : (d : ℕ) (j : PlainMark) → marks_in wait d ≡ Some j → IsMarkAtMost mark j
  least d j e = let (x, at, same) = some_of wait d j e in subst (IsMarkAtMost mark) same (first.least d x at)

  pub class_taken : IsReadingOf cost lists stage class 0 done (set marks class (Some t.mark)) (set wait class None) left
  class_taken =
      let w = r.reading in
      let taken' = marks_in (set marks class (Some t.mark)) in
      let wait' = marks_in (set wait class None) in
      let is = mark_set_same marks class t.mark class_within in
      let gone = mark_set_none wait class in
      let count = marked_more marks class t.mark class_within unmarked ∙ add-one (marked marks) in
      let sound = take_sound g cost (placed lists) (marks_in marks) (marks_in wait) taken' wait' class mark was is gone (λ d ne. mark_set_other marks class d (Some t.mark) ne) (λ d ne. mark_set_other wait class d None ne) w.sound.apart r.top (marked marks) w.sound least in
      record {
        taken = is;
        reading = record {
          one_each = w.one_each;
          few = w.few;
          fresh = w.fresh;
          one_mark = length-set marks class (Some t.mark) ∙ w.one_mark;
          one_wait = length-set wait class None ∙ w.one_wait;
          sound = subst (λ n. IsSound g cost (placed lists) mark n taken' wait') (sym count) sound;
          covered = take_covered g cost (placed lists) (marks_in marks) (marks_in wait) taken' wait' class mark was is gone (λ d ne. mark_set_other marks class d (Some t.mark) ne) (λ d ne. mark_set_other wait class d None ne) w.sound.apart (length g.leaves) (length (placed lists)) left w.covered;
          counted = w.counted;
        };
      }

  pub marks_rise : length (set marks class (Some t.mark)) - marked (set marks class (Some t.mark)) < length marks - marked marks
  marks_rise =
      omega (arith, marked_more marks class t.mark class_within unmarked, marked_most (set marks class (Some t.mark)), length-set marks class (Some t.mark))
