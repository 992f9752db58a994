-- Classes at which no match would lower a height, after other heights were lowered.
use Rattle.std.proofs.Common.{ℕ, zero, suc, ◌+◌, ◌<◌, ◌≤◌, ◌≡◌, ◌/◌, ◌*◌, ◌||◌, ◌⊎◌, inl, inr, Bool, true, false, not, List, [], ◌∷◌, length, Contains, Option, Some, None, option_map, slice_get, slice_index_or, slice_set, replicate, true≢false, refl, ap, sym, ◌∙◌, subst, arith}
use Rattle.std.specs.List.{AllByRecursion}
use Rattle.std.proofs.lemmas.Bool.{cases_eq}
use Rattle.std.proofs.lemmas.Option.{same_Some, slice_get_within, slice_get-get_or}
use Rattle.std.proofs.lemmas.List.{get_or-set_same, get_or-set_other}
use Rattle.lw_facts.proofs.Lists.{falses_at}
use Rattle.lw_bounds.proofs.HeightCuts.{no_higher}
use Rattle.lw_laws.proofs.Flips.{half-flip}
use Rattle.lw_laws.specs.Flip.{flip}
use Rattle.lw_laws.specs.Trees.{Tree, leaf, const_one, const_zero, inv, nand, HasLeaf}
use Rattle.lw_laws.specs.Graphs.{Graph, Pair as PlainPair, Stands}
use Rattle.lw_graph.specs.declared.pair.Pair.{Pair}
use native.Mathlib.Nat.{eq-or-lt_of_le}
use Rattle.lw_cost.proofs.GoalPlaces.{pair_at}
use Rattle.lw_label.proofs.Passing.{of_place, passes_both, passes_fewer}
use Rattle.lw_laws.specs.Covers.{Pattern, HasPins}
use Rattle.lw_laws.specs.Costs.{Cost, IsCost, IsCall}
use Rattle.lw_laws.specs.Marks.{Mark as PlainMark, HaveMarks, costs_in, greatest_height}
use Rattle.lw_cost.specs.declared.mark.Mark.{Mark}
use Rattle.lw_cost.specs.Least.{AreOfCells, IsLeastBelow, IsMarkBefore}
use Rattle.lw_match.specs.Cutting.{IsMatchWithin, IsLeastWithin, bound_after}
use Rattle.lw_cost.specs.declared.mark.Best.{Best}
use Rattle.lw_laws.specs.Laws.{AreBoundedIn, IsCoverProblem}
use Rattle.lw_graph.specs.Graphs.{IsGraph, plain_row}
use Rattle.lw_label.proofs.HeightPasses.{heights_in_range, reached_under, attains_under}
use Rattle.lw_label.specs.Lowering.{AreLowering}
use Rattle.lw_cost.specs.Values.{plain_mark, marks_in, AreInRange}
use Rattle.lw_cost.proofs.Marked.{each_cost, length-costs as length-costs_in, length-marks}
use Rattle.lw_label.proofs.Falling.{not_below}
use Rattle.lw_cost.proofs.MarksAsLabels.{mark_set_same, priced}
use Rattle.lw_cost.specs.Labels.{costs_of}
use Rattle.lw_label.specs.Heights.{AreHeightMarks, AreSameBut, AreStill, HasHeightAtMost, IsNoPin, IsReached, LowersHeights, TakesHeight, height_limit, heights_weight, with_mark}
use Rattle.lw_label.specs.Orders.{ArePartsStill, IsStillAfter, IsStillAt}
use Rattle.lw_laws.specs.Rounds.{labels_in}

-- the two classes of a place
pub same_mark : (old new : List (Option Mark)) (c : ℕ) → slice_index_or new c None ≡ slice_index_or old c None → marks_in new c ≡ marks_in old c
same_mark old new c e = ap (option_map plain_mark) e

-- pins that have marks had the same, or one of them is at a class of which it is not known
pub have_split : (old new : List (Option Mark)) (d : ℕ) → AreSameBut (λ c. c ≡ d) old new → (ps : List ℕ) (ms : List PlainMark) → HaveMarks (marks_in new) ps ms → HaveMarks (marks_in old) ps ms ⊎ ((k : ℕ) × (m : PlainMark) × (marks_in new d ≡ Some m) × (slice_get ms k ≡ Some m))
have_split old new d same [] [] h = inl tt
have_split old new d same [] (m ∷ ms) h = absurd h
have_split old new d same (p ∷ ps) [] h = absurd h
have_split old new d same (p ∷ ps) (m ∷ ms) (e, h) = by_class (cases_eq p d) (have_split old new d same ps ms h)
  where
    by_class : (p ≡ d) ⊎ (p ≡ d → ⊥) → HaveMarks (marks_in old) ps ms ⊎ ((k : ℕ) × (m : PlainMark) × (marks_in new d ≡ Some m) × (slice_get ms k ≡ Some m)) → HaveMarks (marks_in old) (p ∷ ps) (m ∷ ms) ⊎ ((k : ℕ) × (n : PlainMark) × (marks_in new d ≡ Some n) × (slice_get (m ∷ ms) k ≡ Some n))
    by_class (inl here) rest =
        inr (0, m, subst (λ c. marks_in new c ≡ Some m) here e, refl)
    by_class (inr other) (inl before) =
        inl (sym (same_mark old new p (same p other)) ∙ e, before)
    by_class (inr other) (inr (k, n, at, listed)) = inr (suc k, n, at, listed)

pub cost_most : (ms : List PlainMark) (v k : ℕ) (m : PlainMark) → AllByRecursion (λ d. d ≤ v) (costs_in ms) → slice_get ms k ≡ Some m → m.cost ≤ v
cost_most [] v k m all e = cc
cost_most (n ∷ ms) v zero m (le, all) e =
    let same : n ≡ m = same_Some n m e in
    let cost : n.cost ≡ m.cost = ap (λ (m : PlainMark). m.cost) same in
    omega (arith, cost, le)
cost_most (n ∷ ms) v (suc k) m (le, all) e = cost_most ms v k m all e

-- one more pair whose classes are at still places
pub still_next : (still : List Bool) (row : List Pair) (n : ℕ) → n < length row → IsStillAt still (slice_index_or row n (record { x = record { 0 = 0 }; y = record { 0 = 0 } })).x.0 → IsStillAt still (slice_index_or row n (record { x = record { 0 = 0 }; y = record { 0 = 0 } })).y.0 → ((i : ℕ) (q : Pair) → i < n → slice_get row i ≡ Some q → IsStillAt still q.x.0 × IsStillAt still q.y.0) → (i : ℕ) (q : Pair) → i < n + 1 → slice_get row i ≡ Some q → IsStillAt still q.x.0 × IsStillAt still q.y.0
still_next still row n below one other before i q lt at = by_place (eq-or-lt_of_le {n = i} {m = n} (omega arith))
  where
    none : Pair
    none = record { x = record { 0 = 0 }; y = record { 0 = 0 } }

    by_place : (i ≡ n) ⊎ (i < n) → IsStillAt still q.x.0 × IsStillAt still q.y.0
    by_place (inl same) =
        let here : slice_get row i ≡ Some (slice_index_or row n none) = ap (λ k. slice_get row k) same ∙ slice_get-get_or row n none below in
        let is : slice_index_or row n none ≡ q = same_Some (slice_index_or row n none) q (sym here ∙ at) in
        (subst (λ (p : Pair). IsStillAt still p.x.0) is one, subst (λ (p : Pair). IsStillAt still p.y.0) is other)
    by_place (inr less) = before i q less at

pub parts_still : (g : Graph) (still : List Bool) (c : ℕ) (row : List Pair) → plain_row row ≡ slice_index_or g.pairs c [] → (n : ℕ) → length row ≤ n → ((i : ℕ) (q : Pair) → i < n → slice_get row i ≡ Some q → IsStillAt still q.x.0 × IsStillAt still q.y.0) → ArePartsStill g still c
parts_still g still c row is n all each x y (inl h) =
    let (k, lt, f) = subst (λ ps. Contains ps (record { x = x; y = y })) (sym is) h in
    let (q, at, same) = pair_at row k (record { x = x; y = y }) lt f in
    let within = slice_get_within row k q at in
    let (one, other) = each k q (omega (arith, within, all)) at in
    (subst (λ n. IsStillAt still n) (ap (λ (p : PlainPair). p.x) same) one, subst (λ n. IsStillAt still n) (ap (λ (p : PlainPair). p.y) same) other)
parts_still g still c row is n all each x y (inr h) =
    let (k, lt, f) = subst (λ ps. Contains ps (record { x = y; y = x })) (sym is) h in
    let (q, at, same) = pair_at row k (record { x = y; y = x }) lt f in
    let within = slice_get_within row k q at in
    let (one, other) = each k q (omega (arith, within, all)) at in
    (subst (λ n. IsStillAt still n) (ap (λ (p : PlainPair). p.y) same) other, subst (λ n. IsStillAt still n) (ap (λ (p : PlainPair). p.x) same) one)

pub parts_of_place : (g : Graph) (place : ℕ) (still : List Bool) → ArePartsStill g still (place * 2) → ArePartsStill g still (place * 2 + 1) → (c : ℕ) → c / 2 ≡ place → ArePartsStill g still c
parts_of_place g place still even odd c here = elim (of_place place c here) [
  | inl e ↦ subst (λ n. ArePartsStill g still n) (sym e) odd
  | inr e ↦ subst (λ n. ArePartsStill g still n) (sym e) even
]

-- the other class of a place
pub other_class : (a c : ℕ) → a / 2 ≡ c / 2 → (c ≡ a → ⊥) → c ≡ flip a
unfolding flip
other_class zero zero e not = absurd (not refl)
other_class zero (suc zero) e not = refl
other_class zero (suc (suc c)) e not = absurd (omega (arith, e))
other_class (suc zero) zero e not = refl
other_class (suc zero) (suc zero) e not = absurd (not refl)
other_class (suc zero) (suc (suc c)) e not = absurd (omega (arith, e))
other_class (suc (suc a)) zero e not = absurd (omega (arith, e))
other_class (suc (suc a)) (suc zero) e not = absurd (omega (arith, e))
other_class (suc (suc a)) (suc (suc c)) e not =
    ap (λ n. suc (suc n)) (other_class a c (omega (arith, e)) (λ same. not (ap (λ n. suc (suc n)) same)))

pub flip_apart : (a : ℕ) → a ≡ flip a → ⊥
unfolding flip
flip_apart zero e = omega (arith, e)
flip_apart (suc zero) e = omega (arith, e)
flip_apart (suc (suc a)) e = flip_apart a (omega (arith, e))

have_same : (old new : List (Option Mark)) (ps : List ℕ) (ms : List PlainMark) → ((k d : ℕ) → slice_get ps k ≡ Some d → marks_in new d ≡ marks_in old d) → HaveMarks (marks_in new) ps ms → HaveMarks (marks_in old) ps ms
have_same old new [] [] same h = tt
have_same old new [] (m ∷ ms) same h = absurd h
have_same old new (p ∷ ps) [] same h = absurd h
have_same old new (p ∷ ps) (m ∷ ms) same (e, h) =
    (sym (same 0 p refl) ∙ e, have_same old new ps ms (λ k d at. same (suc k) d at) h)

-- the pins of a tree at a class of a still place are at such classes
pub stands_still : (g : Graph) (still : List Bool) → ((c : ℕ) → IsStillAt still c → ArePartsStill g still c) → (ps : List ℕ) (t : Tree) (c k d : ℕ) → Stands g ps t c → IsStillAt still c → HasLeaf t k → slice_get ps k ≡ Some d → IsStillAt still d
stands_still g still parts ps (leaf i) c k d stands is has at =
    let there : slice_get ps k ≡ Some c = ap (λ n. slice_get ps n) (sym has) ∙ stands in
    let same : c ≡ d = same_Some c d (sym there ∙ at) in
    subst (λ n. IsStillAt still n) same is
stands_still g still parts ps const_one c k d stands is has at = absurd has
stands_still g still parts ps const_zero c k d stands is has at = absurd has
stands_still g still parts ps (inv t) c k d stands is has at =
    stands_still g still parts ps t (flip c) k d stands (subst (λ p. slice_index_or still p false ≡ true) (sym (half-flip c)) is) has at
stands_still g still parts ps (nand t u) c k d (x, y, holds, left, right) is (inl has) at =
    stands_still g still parts ps t x k d left (parts c is x y holds).0 has at
stands_still g still parts ps (nand t u) c k d (x, y, holds, left, right) is (inr has) at =
    stands_still g still parts ps u y k d right (parts c is x y holds).1 has at

-- a place that is not still is none of the still ones
pub still_elsewhere : (still : List Bool) (place : ℕ) → slice_index_or still place false ≡ false → (c : ℕ) → IsStillAt still c → c / 2 ≡ place → ⊥
still_elsewhere still place moves c is here =
    true≢false (sym is ∙ subst (λ p. slice_index_or still p false ≡ false) (sym here) moves)

pub still_nowhere : (n c : ℕ) → IsStillAt (replicate n false) c → ⊥
still_nowhere n c is = true≢false (sym is ∙ falses_at n (c / 2))

-- which places are still, after a place has become so
pub record AreStillToo (g : Graph) (place : ℕ) (old new : List Bool) : Type 0 where
  pub stays : (c : ℕ) → IsStillAt old c → IsStillAt new c
  pub was : (c : ℕ) → IsStillAt new c → (c / 2 ≡ place) ⊎ IsStillAt old c
  pub parts : (c : ℕ) → IsStillAt new c → ArePartsStill g new c

pub still_too : (g : Graph) (place : ℕ) (old new : List Bool) → IsStillAfter g place old new → ((c : ℕ) → IsStillAt old c → ArePartsStill g old c) → AreStillToo g place old new
still_too g place old new (inl e) before =
    subst (λ still. AreStillToo g place old still) (sym e) (record { stays = λ c is. is; was = λ c is. inr is; parts = before })
still_too g place old new (inr (below, e, parts)) before =
    subst (λ still. AreStillToo g place old still) (sym e) (record {
      stays = stays;
      was = was;
      parts = λ c is x y holds. let (a, b) = by_parts c (was c is) x y holds in (stays x a, stays y b);
    })
  where
    was : (c : ℕ) → IsStillAt (slice_set old place true) c → (c / 2 ≡ place) ⊎ IsStillAt old c
    was c is = by_place (cases_eq (c / 2) place)
      where
        by_place : (c / 2 ≡ place) ⊎ (c / 2 ≡ place → ⊥) → (c / 2 ≡ place) ⊎ IsStillAt old c
        by_place (inl same) = inl same
        by_place (inr other) = inr (sym (get_or-set_other old place (c / 2) true false other) ∙ is)

    stays : (c : ℕ) → IsStillAt old c → IsStillAt (slice_set old place true) c
    stays c is = by_place (cases_eq (c / 2) place)
      where
        by_place : (c / 2 ≡ place) ⊎ (c / 2 ≡ place → ⊥) → IsStillAt (slice_set old place true) c
        by_place (inl same) = subst (λ p. slice_index_or (slice_set old place true) p false ≡ true) (sym same) (get_or-set_same old place true false below)
        by_place (inr other) = get_or-set_other old place (c / 2) true false other ∙ is

    by_parts : (c : ℕ) → (c / 2 ≡ place) ⊎ IsStillAt old c → ArePartsStill g old c
    by_parts c (inl same) = parts c same
    by_parts c (inr is) = before c is

module _ (g : Graph) (cost : Cost) (pats : List Pattern) (labels : List (Option Mark)) where
  -- other heights were lowered, at a place that is not still
  pub still_kept : AreOfCells cost.pin_counts pats → (old new : List (Option Mark)) (still : List Bool) (place : ℕ) → slice_index_or still place false ≡ false → AreSameBut (λ c. c / 2 ≡ place) old new → AreStill g cost pats labels old still → AreStill g cost pats labels new still
  still_kept of_cells old new still place moves same are =
      record { parts = are.parts; reached = λ c is. reached c is }
    where
      as_before : (c : ℕ) → IsStillAt still c → marks_in new c ≡ marks_in old c
      as_before c is = same_mark old new c (same c (still_elsewhere still place moves c is))

      reached : (c : ℕ) → IsStillAt still c → IsReached g cost pats labels new c
      reached c is cell ps ms m have attained =
          let of = of_cells m.pattern m.listed in
          let has : HasPins cost.pin_counts cell of.pin_count = subst (λ n. HasPins cost.pin_counts n of.pin_count) m.cell_is of.has in
          let count : of.pin_count ≡ length ps = same_Some of.pin_count (length ps) (sym has ∙ m.pins) in
          let before = have_same old new ps ms (λ k d at. let within = slice_get_within ps k d at in as_before d (stands_still g still are.parts ps m.pattern.tree c k d m.stands is ((of.pins k).1 (omega (arith, count, within))) at)) have in
          let (k, at, le) = are.reached c is cell ps ms m before attained in
          (k, as_before c is ∙ at, le)

  -- a place that has become still
  pub still_more : (marks : List (Option Mark)) (place : ℕ) (old new : List Bool) → IsStillAfter g place old new → ((c : ℕ) → c / 2 ≡ place → IsReached g cost pats labels marks c) → AreStill g cost pats labels marks old → AreStill g cost pats labels marks new
  still_more marks place old new after here are =
      let too = still_too g place old new after are.parts in
      record {
        parts = too.parts;
        reached = λ c is. elim (too.was c is) [ inl same ↦ here c same | inr before ↦ are.reached c before ];
      }

  pub still_none : (marks : List (Option Mark)) (n : ℕ) → AreStill g cost pats labels marks (replicate n false)
  still_none marks n = record {
    parts = λ c is. absurd (still_nowhere n c is);
    reached = λ c is. absurd (still_nowhere n c is);
  }

  -- the height of another class was lowered, which is at no pin of a match that lowers this one
  pub reached_beside : IsCost cost → (old new : List (Option Mark)) (c d : ℕ) → AreInRange cost.cap new → AreSameBut (λ b. b ≡ d) old new → (c ≡ d → ⊥) → IsNoPin (slice_index_or new d None) (slice_index_or new c None) → ((o : Mark) → slice_index_or new c None ≡ Some o → labels_in (costs_of labels) c ≡ Some o.cost) → IsReached g cost pats labels old c → IsReached g cost pats labels new c
  reached_beside is_cost old new c d in_range same other no_pin label before cell ps ms m have attained =
      by_pins (have_split old new d same ps ms have)
    where
      length-costs : length (costs_in ms) ≡ length ps
      length-costs = length-costs_in ms ∙ length-marks (marks_in new) ps ms have

      call : IsCall cost cell (costs_in ms)
      call = record {
        pins = subst (λ n. HasPins cost.pin_counts cell n) (sym length-costs) m.pins;
        capped = each_cost (λ v. v ≤ cost.cap) (marks_in new) ps ms (λ b k e. (in_range b k e).0) have;
      }

      at_pin : (k : ℕ) (n : PlainMark) → slice_get ms k ≡ Some n → (o : Option Mark) → slice_index_or new d None ≡ o → option_map plain_mark o ≡ Some n → HasHeightAtMost new c (suc (greatest_height ms))
      at_pin k n listed None e f = cc
      at_pin k n listed (Some mark) e f =
          let (own, is, why) = no_pin mark e in by_reason own is why
        where
          mark_is : plain_mark mark ≡ n
          mark_is = same_Some (plain_mark mark) n f

          by_reason : (own : Mark) → slice_index_or new c None ≡ Some own → (own.cost < mark.cost) ⊎ (own.height ≤ mark.height) → HasHeightAtMost new c (suc (greatest_height ms))
          by_reason own is (inl dear) =
              let value : own.cost ≡ cost.value cell (costs_in ms) = same_Some own.cost (cost.value cell (costs_in ms)) (sym (label own is) ∙ attained) in
              let most = cost_most ms (cost.value cell (costs_in ms)) k n (is_cost.above_pins cell (costs_in ms) call) listed in
              let cost_is : mark.cost ≡ n.cost = ap (λ (m : PlainMark). m.cost) mark_is in
              absurd (omega (arith, value, most, cost_is, dear))
          by_reason own is (inr low) =
              let high = no_higher ms k n listed in
              let height_is : mark.height ≡ n.height = ap (λ (m : PlainMark). m.height) mark_is in
              (plain_mark own, ap (option_map plain_mark) is, omega (arith, high, height_is, low))

      by_pins : HaveMarks (marks_in old) ps ms ⊎ ((k : ℕ) × (n : PlainMark) × (marks_in new d ≡ Some n) × (slice_get ms k ≡ Some n)) → HasHeightAtMost new c (suc (greatest_height ms))
      by_pins (inl had) =
          let (k, at, le) = before cell ps ms m had attained in
          (k, same_mark old new c (same c other) ∙ at, le)
      by_pins (inr (k, n, at, listed)) = at_pin k n listed (slice_index_or new d None) refl at

  -- the class has got the least height of a match that attains its label
  pub reached_now : (marks : List (Option Mark)) (c : ℕ) (best : Mark) → c < length marks → labels_in (costs_of labels) c ≡ Some best.cost → IsLeastBelow g cost pats (marks_in marks) c (plain_mark best) None → IsReached g cost pats labels (slice_set marks c (Some best)) c
  reached_now marks c best below label none cell ps ms m have attained =
      by_pins (have_split marks new c (λ b other. get_or-set_other marks c b (Some best) None other) ps ms have)
    where
      new : List (Option Mark)
      new = slice_set marks c (Some best)

      own : marks_in new c ≡ Some (plain_mark best)
      own = mark_set_same marks c best below

      by_pins : HaveMarks (marks_in marks) ps ms ⊎ ((k : ℕ) × (n : PlainMark) × (marks_in new c ≡ Some n) × (slice_get ms k ≡ Some n)) → HasHeightAtMost new c (suc (greatest_height ms))
      by_pins (inl had) =
          let (b, at, e) = priced g cost pats (marks_in marks) c cell ps ms m had in
          let value : b.mark.cost ≡ cost.value cell (costs_in ms) = ap (λ (k : PlainMark). k.cost) e in
          let height : b.mark.height ≡ suc (greatest_height ms) = ap (λ (k : PlainMark). k.height) e in
          let same : cost.value cell (costs_in ms) ≡ best.cost = same_Some (cost.value cell (costs_in ms)) best.cost (sym attained ∙ label) in
          let high = not_below b.mark.height best.height (λ lt. none b at (inr (value ∙ same, lt))) in
          (plain_mark best, own, omega (arith, high, height))
      by_pins (inr (k, n, at, listed)) =
          let is : plain_mark best ≡ n = same_Some (plain_mark best) n (sym own ∙ at) in
          let height : best.height ≡ n.height = ap (λ (m : PlainMark). m.height) is in
          let high = no_higher ms k n listed in
          (plain_mark best, own, omega (arith, height, high))

-- the marks stay at all but more classes
pub same_but_more : (at more : ℕ → Type 0) (old mid new : List (Option Mark)) → ((c : ℕ) → at c → more c) → AreSameBut at old mid → AreSameBut more mid new → AreSameBut more old new
same_but_more at more old mid new to a b c not = b c not ∙ a c (λ here. not (to c here))

module _ (g : Graph) (cost : Cost) (pats : List Pattern) (labels marks : List (Option Mark)) (are : AreHeightMarks g cost pats labels marks) (c l : ℕ) (bound : PlainMark) (label : labels_in (costs_of labels) c ≡ Some l) (same_cost : bound.cost ≡ l) (same_height : bound.height ≡ height_limit (slice_index_or marks c None)) where
  -- no match has less height than the one that was found, or less than the height that the class has
  pub reached_by : IsGraph g → c < length marks → AreBoundedIn g pats cost (costs_of labels) → (m : Mark) → plain_mark m ≡ bound → (best : Option Best) → IsMatchWithin g cost pats (marks_in marks) c (Some m) best → IsLeastWithin g cost pats (marks_in marks) c (bound_after best (Some m)) None → IsReached g cost pats labels (with_mark marks c best) c
  reached_by is below bounded m bound_is None sound none =
      reached_under g cost pats labels marks are c l bound label same_cost same_height is below (subst (λ k. IsLeastBelow g cost pats (marks_in marks) c k None) bound_is none)
  reached_by is below bounded m bound_is (Some best) sound none =
      let before = subst (λ k. IsMarkBefore (plain_mark best.mark) k) bound_is sound.1 in
      let attains = attains_under g cost pats labels marks are c l bound label same_cost same_height bounded best sound.0 before in
      reached_now g cost pats labels marks c best.mark below attains.0 none

pub others_kept : (marks : List (Option Mark)) (c : ℕ) (best : Option Best) → AreSameBut (λ b. b ≡ c) marks (with_mark marks c best)
others_kept marks c None b other = refl
others_kept marks c (Some best) b other = get_or-set_other marks c b (Some best.mark) None other

-- the classes of a place, one of which has been named
pub of_pair : (place a b c : ℕ) → a / 2 ≡ place → b ≡ flip a → c / 2 ≡ place → (c ≡ a) ⊎ (c ≡ b)
of_pair place a b c at flipped here = by_class (cases_eq c a)
  where
    by_class : (c ≡ a) ⊎ (c ≡ a → ⊥) → (c ≡ a) ⊎ (c ≡ b)
    by_class (inl same) = inl same
    by_class (inr other) = inr (other_class a c (at ∙ sym here) other ∙ sym flipped)

pub pair_others : (place a b : ℕ) (old mid new : List (Option Mark)) → a / 2 ≡ place → b ≡ flip a → AreSameBut (λ c. c ≡ a) old mid → AreSameBut (λ c. c ≡ b) mid new → AreSameBut (λ c. c / 2 ≡ place) old new
pair_others place a b old mid new at flipped one other c not =
    other c (λ e. not (ap (λ n. n / 2) (e ∙ flipped) ∙ (half-flip a ∙ at))) ∙ one c (λ e. not (ap (λ n. n / 2) e ∙ at))

module _ (g : Graph) (cost : Cost) (pats : List Pattern) (labels : List (Option Mark)) where
  pub pair_lowers : (old mid new : List (Option Mark)) (place a b : ℕ) → a / 2 ≡ place → b ≡ flip a → (one other : Bool) → LowersHeights g cost pats labels old mid (λ c. c ≡ a) one → LowersHeights g cost pats labels mid new (λ c. c ≡ b) other → LowersHeights g cost pats labels old new (λ c. c / 2 ≡ place) (other || one)
  pair_lowers old mid new place a b at flipped one other first second =
      passes_fewer heights_weight (IsReached g cost pats labels) old new (λ c. (c ≡ a) ⊎ (c ≡ b)) (λ c. c / 2 ≡ place) (other || one) (λ c here. of_pair place a b c at flipped here) (passes_both heights_weight (IsReached g cost pats labels) old mid new (λ c. c ≡ a) (λ c. c ≡ b) one other first second)

  pub pair_still : (marks : List (Option Mark)) (place a b : ℕ) → a / 2 ≡ place → b ≡ flip a → IsReached g cost pats labels marks a → IsReached g cost pats labels marks b → (c : ℕ) → c / 2 ≡ place → IsReached g cost pats labels marks c
  pair_still marks place a b at flipped one other c here = by_class (of_pair place a b c at flipped here)
    where
      by_class : (c ≡ a) ⊎ (c ≡ b) → IsReached g cost pats labels marks c
      by_class (inl e) = subst (λ n. IsReached g cost pats labels marks n) (sym e) one
      by_class (inr e) = subst (λ n. IsReached g cost pats labels marks n) (sym e) other

  -- the class keeps its height, since the other one was not lowered, or is at no pin of a match that lowers it
  pub stays_reached : IsCoverProblem g pats cost → IsGraph g → AreLowering g cost pats labels → (old new : List (Option Mark)) (c d : ℕ) (lowered : Bool) → TakesHeight g cost pats labels old new lowered → AreSameBut (λ b. b ≡ d) old new → (c ≡ d → ⊥) → (lowered ≡ false) ⊎ IsNoPin (slice_index_or new d None) (slice_index_or new c None) → IsReached g cost pats labels old c → IsReached g cost pats labels new c
  stays_reached problem graph low old new c d lowered takes same apart (inl e) before =
      subst (λ ms. IsReached g cost pats labels ms c) (sym (takes.same e)) before
  stays_reached problem graph low old new c d lowered takes same apart (inr no_pin) before =
      reached_beside g cost pats labels problem.cost_is old new c d (heights_in_range g cost pats labels new problem graph low takes.heights) same apart no_pin (λ o e. takes.heights.costs c (plain_mark o) (ap (option_map plain_mark) e)) before
