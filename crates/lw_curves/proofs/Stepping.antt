-- What is kept while points are settled.
use Rattle.std.proofs.Common.{◌≡◌, ℕ, zero, suc, ◌+◌, ◌-◌, ◌<◌, ◌≤◌, ◌⊎◌, inl, inr, min, map, length, List, [], ◌∷◌, Some, None, Contains, slice_get, slice_index_or, refl, ap, ap₂, sym, ◌∙◌, subst, arith}
use Rattle.std.specs.List.{AllZip}
use Rattle.std.proofs.lemmas.List.Sorted.{Contains-permutation, IsPermutation-sym}
use Rattle.std.proofs.lemmas.Option.{same_Some}
use Rattle.std.proofs.lemmas.Bool.{cases_lt}
use Rattle.lw_laws.specs.Choices.{HasCost, HaveCosts}
use Rattle.lw_laws.specs.Choices.HasCost.{by_wire, by_gate}
use Rattle.lw_laws.specs.Choices.HaveCosts.{no_pins, pin}
use Rattle.lw_laws.specs.Covers.{start_of, latest, delays_of}
use Rattle.lw_laws.specs.Matches.{choices_of}
use Rattle.lw_laws.proofs.Delays.{length-delays_of}
use Rattle.lw_choices.specs.Areas.{most_area, area_at, total, area_cost}
use Rattle.lw_choices.specs.Tasks.{Task, timing}
use Rattle.lw_choices.specs.Choices.{Part, Choice, AreListedChoices, MayStand, HasPinAt, delay_at}
use Rattle.lw_choices.specs.Choices.Part.{input, gate}
use Rattle.lw_queue.specs.Queues.{Item, IsTaken, Queued, Waits}
use Rattle.lw_curves.specs.Settling.{Spot, spot, Has, HasAtMost, IsSpotOf, times, areas, Gives, IsBest, joint, time_in, area_in, joint_cost, IsReached, Turns, turns, Comes, IsSettling, IsStill, IsGained, IsGaining, GivesNoMore, GivesNoMoreSeen, IsGroupLookedAt, AreSettled}
use Rattle.lw_curves.proofs.Joint.{joint_time, joint_area}
use Rattle.lw_choices.proofs.Lists.{in_tail}

-- Queues.

pub in_cons : {X : Type 0} (y x : X) (xs : List X) → Contains (y ∷ xs) x → (y ≡ x) ⊎ Contains xs x
in_cons y x xs (zero, lt, e) = inl e
in_cons y x xs (suc k, lt, e) = inr (k, omega arith, e)

module _ (old new : Queued) (time n : ℕ) (within : time ≤ old.horizon) (taken : IsTaken old new time (Some n)) where
  pub waits_left : (t m : ℕ) → Waits old t m → Waits new t m ⊎ ((t ≡ time) × (m ≡ n))
  waits_left t m (le, (hint, in')) =
      let (same, (k, perm)) = taken in
      by_case (in_cons (old.horizon - time, (k, n)) (old.horizon - t, (hint, m)) new.items (Contains-permutation old.items ((old.horizon - time, (k, n)) ∷ new.items) (old.horizon - t, (hint, m)) perm in')) same
    where
      by_case : {k : ℕ} → (◌≡◌ {A = Item} (old.horizon - time, (k, n)) (old.horizon - t, (hint, m))) ⊎ Contains new.items (old.horizon - t, (hint, m)) → new.horizon ≡ old.horizon → Waits new t m ⊎ ((t ≡ time) × (m ≡ n))
      by_case (inl e) same =
          let left = ap (λ (x : Item). x.0) e in
          let number = ap (λ (x : Item). x.1.1) e in
          inr (omega arith, sym number)
      by_case (inr there) same =
          inl (omega arith, (hint, subst (λ h. Contains new.items (h - t, (hint, m))) (sym same) there))

  pub waits_back : (t m : ℕ) → Waits new t m → Waits old t m
  waits_back t m (le, (hint, in')) =
      let (same, (k, perm)) = taken in
      let there : Contains new.items (old.horizon - t, (hint, m)) = subst (λ h. Contains new.items (h - t, (hint, m))) same in' in
      (omega arith, (hint, Contains-permutation ((old.horizon - time, (k, n)) ∷ new.items) old.items (old.horizon - t, (hint, m)) (IsPermutation-sym old.items ((old.horizon - time, (k, n)) ∷ new.items) perm) (in_tail (old.horizon - time, (k, n)) (old.horizon - t, (hint, m)) new.items there)))

-- What points give.

module _ (s : Task) (spots : List Spot) (all : (k : Spot) → Has spots k → IsReached s k) where
  pins_reached : (ds ps : List ℕ) (ks : List Spot) → AllZip (IsSpotOf spots) ps ks → (es : List ℕ) × HaveCosts (choices_of s.graph (area_cost s.cells).pin_counts s.patterns) (joint_cost s) ps es × (latest ds (map time_in es) ≤ latest ds (times ks)) × (map area_in es ≡ areas ks)
  pins_reached ds [] [] zip = ([], no_pins, omega arith, refl)
  pins_reached ds [] (k ∷ ks) zip = absurd zip
  pins_reached ds (p ∷ ps) [] zip = absurd zip
  pins_reached [] (p ∷ ps) (k ∷ ks) ((has, e), zip) =
      let (d, cost, lt, ea) = all k has in
      let (es, costs, rest, areas) = pins_reached [] ps ks zip in
      (d ∷ es, pin (subst (λ c. HasCost (choices_of s.graph (area_cost s.cells).pin_counts s.patterns) (joint_cost s) c d) e cost) costs, omega arith, ap₂ (λ a bs. a ∷ bs) ea areas)
  pins_reached (delay ∷ ds) (p ∷ ps) (k ∷ ks) ((has, e), zip) =
      let (d, cost, lt, ea) = all k has in
      let (es, costs, rest, areas) = pins_reached ds ps ks zip in
      (d ∷ es, pin (subst (λ c. HasCost (choices_of s.graph (area_cost s.cells).pin_counts s.patterns) (joint_cost s) c d) e cost) costs, omega arith, ap₂ (λ a bs. a ∷ bs) ea areas)

  -- what a choice gives is reached
  pub gives_reached : (c : ℕ) (part : Part) (t a time : ℕ) → MayStand s c part → Gives s spots part t a → t ≤ time → IsReached s (spot c time a)
  gives_reached c (input i) t a time may (et, ea) le =
      let start = start_of (timing s).starts i in
      (joint start 0, by_wire may, omega (arith, joint_time start 0 (omega arith), et, le), joint_area start 0 (omega arith) ∙ sym ea)
  gives_reached c (gate cell ps) t a time may (ks, zip, et, ea) le =
      let ds = delays_of (timing s).delays cell in
      let (es, costs, lt, same) = pins_reached ds ps ks zip in
      let sum = min most_area (area_at s.cells cell + total (map area_in es)) in
      let low : sum ≤ most_area = omega arith in
      let when = joint_time (latest ds (map time_in es)) sum low in
      let much = joint_area (latest ds (map time_in es)) sum low in
      (joint (latest ds (map time_in es)) sum, by_gate may costs, omega (arith, when, lt, et, le), much ∙ (ap (λ bs. min most_area (area_at s.cells cell + total bs)) same ∙ sym ea))

-- Where nothing that comes is lost but what gives no more than what is had.

-- it gives no more than what is had, or comes still
abbrev IsHadOr : Task → List Choice → ℕ → List Spot → List Spot → (ℕ → ℕ → Type 0) → ℕ → Type 0
IsHadOr s choices now spots had comes m =
    (y : Choice) (a : ℕ) → slice_get choices m ≡ Some y → Gives s spots y.part now a → HasAtMost had y.class now a ⊎ comes now m

module _ (s : Task) (choices : List Choice) (now horizon : ℕ) (spots had : List Spot) (comes comes' : ℕ → ℕ → Type 0) (still : IsStill s choices now horizon spots comes) (left : (t m : ℕ) → comes t m → comes' t m ⊎ ((t ≡ now) × IsHadOr s choices now spots had comes' m)) where
  pub settling_on : ((k : Spot) → Has had k → IsReached s k) → ((k : Spot) → Has had k → k.time ≤ now) → ((c t a : ℕ) → HasAtMost spots c t a → HasAtMost had c t a) → IsSettling s choices now horizon spots had comes'
  settling_on reached low kept = record {
    reached = reached;
    low = low;
    pin_groups = λ k m j y has yt pn le. use_at k m j y (still.pin_groups k m j y has yt pn le);
    given = λ m t a y yt gives le. give m t a y yt gives (still.given m t a y yt gives le);
  }
    where
      use_at : (k : Spot) (m j : ℕ) (y : Choice) → (k.time + delay_at s y.part j ≤ now) ⊎ comes (k.time + delay_at s y.part j) m → (k.time + delay_at s y.part j ≤ now) ⊎ comes' (k.time + delay_at s y.part j) m
      use_at k m j y (inl le) = inl le
      use_at k m j y (inr w) = by_case (left (k.time + delay_at s y.part j) m w)
        where
          by_case : {X : Type 0} → comes' (k.time + delay_at s y.part j) m ⊎ ((k.time + delay_at s y.part j ≡ now) × X) → (k.time + delay_at s y.part j ≤ now) ⊎ comes' (k.time + delay_at s y.part j) m
          by_case (inl v) = inr v
          by_case (inr (e, f)) = inl (omega arith)

      give : (m t a : ℕ) (y : Choice) → slice_get choices m ≡ Some y → Gives s spots y.part t a → HasAtMost spots y.class t a ⊎ comes t m → HasAtMost had y.class t a ⊎ comes' t m
      give m t a y yt gives (inl h) = inl (kept y.class t a h)
      give m t a y yt gives (inr w) = by_case (left t m w)
        where
          at_time : t ≡ now → HasAtMost had y.class now a ⊎ comes' now m → HasAtMost had y.class t a ⊎ comes' t m
          at_time e (inl h) = inl (subst (λ u. HasAtMost had y.class u a) (sym e) h)
          at_time e (inr v) = inr (subst (λ u. comes' u m) (sym e) v)

          by_case : comes' t m ⊎ ((t ≡ now) × IsHadOr s choices now spots had comes' m) → HasAtMost had y.class t a ⊎ comes' t m
          by_case (inl v) = inr v
          by_case (inr (e, f)) = at_time e (f y a yt (subst (λ u. Gives s spots y.part u a) e gives))

pub at_most : (spots : List Spot) (c t a b : ℕ) → a ≤ b → HasAtMost spots c t a → HasAtMost spots c t b
at_most spots c t a b le (k, has, e, kt, ka) = (k, has, e, kt, omega arith)

-- what a choice gives no more
pub none_more : (s : Task) (choices : List Choice) (spots : List Spot) (now n : ℕ) (x : Choice) → slice_get choices n ≡ Some x → IsBest s spots x.part now None → GivesNoMore s choices spots now n
none_more s choices spots now n x at none y a yt gives = absurd (none now a (subst (λ (z : Choice). Gives s spots z.part now a) (same_Some y x (sym yt ∙ at)) gives) (omega arith))

pub had_more : (s : Task) (choices : List Choice) (spots : List Spot) (now n best : ℕ) (x : Choice) → slice_get choices n ≡ Some x → IsBest s spots x.part now (Some best) → HasAtMost spots x.class now best → GivesNoMore s choices spots now n
had_more s choices spots now n best x at (attained, least) had y a yt gives =
    let same = same_Some y x (sym yt ∙ at) in
    let g = subst (λ (z : Choice). Gives s spots z.part now a) same gives in
    subst (λ (z : Choice). HasAtMost spots z.class now a) (sym same) (at_most spots x.class now best a (least now a g (omega arith)) had)

-- Taking a choice that waits.

module _ (s : Task) (choices : List Choice) (now n : ℕ) (spots : List Spot) (w : Turns) (new : Queued) (within : now ≤ w.looked.horizon) (still : IsStill s choices now w.coming.horizon spots (Comes w)) (taken : IsTaken w.looked new now (Some n)) where
  abbrev next : Turns
  next = turns w.groups w.owners w.count w.coming new

  turns_left : (t m : ℕ) → Comes w t m → Comes next t m ⊎ ((t ≡ now) × (m ≡ n))
  turns_left t m (inr comes) = inl (inr comes)
  turns_left t m (inl waits) = by_case (waits_left w.looked new now n within taken t m waits)
    where
      by_case : Waits new t m ⊎ ((t ≡ now) × (m ≡ n)) → Comes next t m ⊎ ((t ≡ now) × (m ≡ n))
      by_case (inl there) = inl (inl there)
      by_case (inr gone) = inr gone

  -- it gives no more
  pub taken_over : GivesNoMore s choices spots now n → IsStill s choices now w.coming.horizon spots (Comes next)
  taken_over more = settling_on s choices now w.coming.horizon spots spots (Comes w) (Comes next) still (λ t m c. by_case t m (turns_left t m c)) still.reached still.low (λ c t a h. h)
    where
      by_case : (t m : ℕ) → Comes next t m ⊎ ((t ≡ now) × (m ≡ n)) → Comes next t m ⊎ ((t ≡ now) × IsHadOr s choices now spots spots (Comes next) m)
      by_case t m (inl there) = inl there
      by_case t m (inr (e, f)) = inr (e, λ y a yt g. inl (more y a (ap (slice_get choices) (sym f) ∙ yt) g))

  -- it gives a point
  pub taken_gained : (x : Choice) → slice_get choices n ≡ Some x → AreListedChoices s choices → (best : ℕ) (after : List Spot) → IsBest s spots x.part now (Some best) → IsGained spots after (spot x.class now best) → IsGaining s choices now w.coming.horizon x.class after (Comes next)
  taken_gained x at are best after ((t, le, gives), least) gained = record {
    old = spots;
    area = best;
    settling = settling_on s choices now w.coming.horizon spots after (Comes w) (Comes next) still (λ t m c. by_case t m (turns_left t m c)) reached low kept;
    gained = gained;
  }
    where
      reached : (k : Spot) → Has after k → IsReached s k
      reached k has = by_case' (gained.only k has)
        where
          by_case' : Has spots k ⊎ (k ≡ spot x.class now best) → IsReached s k
          by_case' (inl h) = still.reached k h
          by_case' (inr e) = subst (IsReached s) (sym e) (gives_reached s spots still.reached x.class x.part t best now (are.each n x at) gives le)

      low : (k : Spot) → Has after k → k.time ≤ now
      low k has = by_case' (gained.only k has)
        where
          by_case' : Has spots k ⊎ (k ≡ spot x.class now best) → k.time ≤ now
          by_case' (inl h) = still.low k h
          by_case' (inr e) = let f = ap (λ (z : Spot). z.time) e in omega arith

      kept : (c u a : ℕ) → HasAtMost spots c u a → HasAtMost after c u a
      kept c u a (k, has, e, kt, ka) =
          let (l, lh, le', lt, la) = gained.kept k has in
          (l, lh, le' ∙ e, omega arith, omega arith)

      cover : (y : Choice) (a : ℕ) → slice_get choices n ≡ Some y → Gives s spots y.part now a → HasAtMost after y.class now a
      cover y a yt g =
          let same = same_Some y x (sym yt ∙ at) in
          let g' = subst (λ (z : Choice). Gives s spots z.part now a) same g in
          (spot x.class now best, gained.has, ap (λ (z : Choice). z.class) (sym same), omega arith, least now a g' (omega arith))

      by_case : (t m : ℕ) → Comes next t m ⊎ ((t ≡ now) × (m ≡ n)) → Comes next t m ⊎ ((t ≡ now) × IsHadOr s choices now spots after (Comes next) m)
      by_case t m (inl there) = inl there
      by_case t m (inr (e, f)) = inr (e, λ y a yt g. inl (cover y a (ap (slice_get choices) (sym f) ∙ yt) g))

-- A group that comes is taken, and its choices are looked at.

module _ (s : Task) (choices : List Choice) (now g : ℕ) (spots : List Spot) (unseen : ℕ → Type 0) (w : Turns) (coming looked : Queued) (within : now ≤ w.coming.horizon) (still : IsStill s choices now w.coming.horizon spots (Comes w)) (taken : IsTaken w.coming coming now (Some g)) (at : IsGroupLookedAt s choices spots unseen w.groups w.owners w.looked looked now g) (later : (m : ℕ) → unseen m → Comes (turns w.groups w.owners w.count coming looked) now m) where
  abbrev next' : Turns
  next' = turns w.groups w.owners w.count coming looked

  group_left : (t m : ℕ) → Comes w t m → Comes next' t m ⊎ ((t ≡ now) × IsHadOr s choices now spots spots (Comes next') m)
  group_left t m (inl waits) = inl (inl (at.kept t m waits))
  group_left t m (inr (j, h, jt, mt, waits)) = by_case (waits_left w.coming coming now g within taken t h waits)
    where
      had_or : (c a : ℕ) → HasAtMost spots c now a ⊎ unseen m → HasAtMost spots c now a ⊎ Comes next' now m
      had_or c a (inl had) = inl had
      had_or c a (inr un) = inr (later m un)

      done : t ≡ now → Waits looked now m ⊎ GivesNoMoreSeen s choices spots unseen now m → Comes next' t m ⊎ ((t ≡ now) × IsHadOr s choices now spots spots (Comes next') m)
      done e (inl there) = inl (inl (subst (λ u. Waits looked u m) (sym e) there))
      done e (inr more) = inr (e, λ y a yt gives. had_or y.class a (more y a yt gives))

      by_case : Waits coming t h ⊎ ((t ≡ now) × (h ≡ g)) → Comes next' t m ⊎ ((t ≡ now) × IsHadOr s choices now spots spots (Comes next') m)
      by_case (inl there) = inl (inr (j, h, jt, mt, there))
      by_case (inr (e, f)) = done e (at.done j m (jt ∙ ap Some f) mt)

  pub group_over : IsStill s choices now w.coming.horizon spots (Comes next')
  group_over = settling_on s choices now w.coming.horizon spots spots (Comes w) (Comes next') still group_left still.reached still.low (λ c t a h. h)

-- Uses of a point that was gained.

pin_below : (ds : List ℕ) (ks : List Spot) (j : ℕ) (k : Spot) → length ds ≡ length ks → slice_get ks j ≡ Some k → k.time + slice_index_or ds j 0 ≤ latest ds (times ks)
pin_below ds [] j k e at = cc
pin_below [] (l ∷ ks) j k e at = absurd (omega arith)
pin_below (d ∷ ds) (l ∷ ks) zero k e at = let t = ap (λ (z : Spot). z.time) (same_Some l k at) in omega arith
pin_below (d ∷ ds) (l ∷ ks) (suc j) k e at = let ih = pin_below ds ks j k (omega arith) at in omega arith

pin_attains : (ds : List ℕ) (ks : List Spot) (now : ℕ) → now < latest ds (times ks) → (j : ℕ) × (k : Spot) × (slice_get ks j ≡ Some k) × (latest ds (times ks) ≡ k.time + slice_index_or ds j 0)
pin_attains [] ks now lt = absurd (omega arith)
pin_attains (d ∷ ds) [] now lt = absurd (omega arith)
pin_attains (d ∷ ds) (k ∷ ks) now lt = by_case (pin_attains ds ks (d + k.time)) (cases_lt (d + k.time) (latest ds (times ks)))
  where
    by_case : (d + k.time < latest ds (times ks) → (j : ℕ) × (l : Spot) × (slice_get ks j ≡ Some l) × (latest ds (times ks) ≡ l.time + slice_index_or ds j 0)) → (d + k.time < latest ds (times ks)) ⊎ (latest ds (times ks) ≤ d + k.time) → (j : ℕ) × (l : Spot) × (slice_get (k ∷ ks) j ≡ Some l) × (latest (d ∷ ds) (times (k ∷ ks)) ≡ l.time + slice_index_or (d ∷ ds) j 0)
    by_case more_of (inl more) = let (j, l, at, e) = more_of more in (suc j, l, at, omega arith)
    by_case more_of (inr le) = (0, k, refl, omega arith)

pub zip_at : (spots : List Spot) (ps : List ℕ) (ks : List Spot) (j : ℕ) (k : Spot) → AllZip (IsSpotOf spots) ps ks → slice_get ks j ≡ Some k → Has spots k × (slice_get ps j ≡ Some k.class)
zip_at spots [] [] j k zip at = cc
zip_at spots [] (l ∷ ks) j k zip at = absurd zip
zip_at spots (p ∷ ps) [] j k zip at = absurd zip
zip_at spots (p ∷ ps) (l ∷ ks) zero k ((has, e), zip) at =
    let same = same_Some l k at in
    (subst (Has spots) same has, ap Some (sym e ∙ ap (λ (z : Spot). z.class) same))
zip_at spots (p ∷ ps) (l ∷ ks) (suc j) k (first, zip) at = zip_at spots ps ks j k zip at

pub zip_length : (spots : List Spot) (ps : List ℕ) (ks : List Spot) → AllZip (IsSpotOf spots) ps ks → length ps ≡ length ks
zip_length spots [] [] zip = refl
zip_length spots [] (l ∷ ks) zip = absurd zip
zip_length spots (p ∷ ps) [] zip = absurd zip
zip_length spots (p ∷ ps) (l ∷ ks) (first, zip) = ap suc (zip_length spots ps ks zip)

-- points for pins are old ones, or one of them is the new one
zip_split : (old new : List Spot) (k : Spot) → ((l : Spot) → Has new l → Has old l ⊎ (l ≡ k)) → (ps : List ℕ) (ks : List Spot) → AllZip (IsSpotOf new) ps ks → AllZip (IsSpotOf old) ps ks ⊎ ((j : ℕ) × (slice_get ks j ≡ Some k))
zip_split old new k only [] [] zip = inl tt
zip_split old new k only [] (l ∷ ks) zip = absurd zip
zip_split old new k only (p ∷ ps) [] zip = absurd zip
zip_split old new k only (p ∷ ps) (l ∷ ks) ((has, e), zip) = by_case (only l has) (zip_split old new k only ps ks zip)
  where
    by_case : Has old l ⊎ (l ≡ k) → AllZip (IsSpotOf old) ps ks ⊎ ((j : ℕ) × (slice_get ks j ≡ Some k)) → AllZip (IsSpotOf old) (p ∷ ps) (l ∷ ks) ⊎ ((j : ℕ) × (slice_get (l ∷ ks) j ≡ Some k))
    by_case (inl h) (inl rest) = inl ((h, e), rest)
    by_case (inl h) (inr (j, at)) = inr (suc j, at)
    by_case (inr same) rest = inr (0, ap Some same)

module _ (s : Task) (choices : List Choice) (are : AreListedChoices s choices) (now horizon class : ℕ) (next : List Spot) (comes comes' : ℕ → ℕ → Type 0) (gaining : IsGaining s choices now horizon class next comes) (more : (t n : ℕ) → comes t n → comes' t n) (added : (n j : ℕ) (x : Choice) → slice_get choices n ≡ Some x → HasPinAt x.part j class → now + delay_at s x.part j ≤ horizon → comes' (now + delay_at s x.part j) n) where
  abbrev Old : List Spot
  Old = gaining.old

  kept : (c u a : ℕ) → HasAtMost Old c u a → HasAtMost next c u a
  kept c u a (k, has, e, kt, ka) =
      let (l, lh, le', lt, la) = gaining.gained.kept k has in
      (l, lh, le' ∙ e, omega arith, omega arith)

  -- each use of a point waits now, if it is not over
  use_at : (k : Spot) (n j : ℕ) (x : Choice) → Has next k → slice_get choices n ≡ Some x → HasPinAt x.part j k.class → k.time + delay_at s x.part j ≤ horizon → (k.time + delay_at s x.part j ≤ now) ⊎ comes' (k.time + delay_at s x.part j) n
  use_at k n j x has at pn le = by_case (gaining.gained.only k has)
    where
      from_old : (k.time + delay_at s x.part j ≤ now) ⊎ comes (k.time + delay_at s x.part j) n → (k.time + delay_at s x.part j ≤ now) ⊎ comes' (k.time + delay_at s x.part j) n
      from_old (inl l) = inl l
      from_old (inr w) = inr (more (k.time + delay_at s x.part j) n w)

      by_case : Has Old k ⊎ (k ≡ spot class now gaining.area) → (k.time + delay_at s x.part j ≤ now) ⊎ comes' (k.time + delay_at s x.part j) n
      by_case (inl h) = from_old (gaining.settling.pin_groups k n j x h at pn le)
      by_case (inr e) =
          let t = ap (λ (z : Spot). z.time) e in
          let p : HasPinAt x.part j class = subst (λ (z : Spot). HasPinAt x.part j z.class) e pn in
          inr (subst (λ u. comes' (u + delay_at s x.part j) n) (sym t) (added n j x at p (subst (λ u. u + delay_at s x.part j ≤ horizon) t le)))

  from_old : (n t a c : ℕ) → HasAtMost next c t a ⊎ comes t n → HasAtMost next c t a ⊎ comes' t n
  from_old n t a c (inl h) = inl h
  from_old n t a c (inr w) = inr (more t n w)

  give : (n t a c : ℕ) (part : Part) → slice_get choices n ≡ Some (record { class = c; part = part }) → Gives s next part t a → t ≤ horizon → HasAtMost next c t a ⊎ comes' t n
  give n t a c (input i) at gives le = from_old n t a c (gaining.settling.given n t a (record { class = c; part = input i }) at gives le)
  give n t a c (gate cell ps) at (ks, zip, et, ea) le = by_time (cases_lt now t)
    where
      sizes : length (delays_of (timing s).delays cell) ≡ length ks
      sizes = length-delays_of (timing s).delays cell (length ps) (are.each n (record { class = c; part = gate cell ps }) at).pins ∙ zip_length next ps ks zip

      by_split : t ≤ now → AllZip (IsSpotOf Old) ps ks ⊎ ((j : ℕ) × (slice_get ks j ≡ Some (spot class now gaining.area))) → HasAtMost next c t a ⊎ comes' t n
      by_split low (inl old) = from_old n t a c (gaining.settling.given n t a (record { class = c; part = gate cell ps }) at (ks, old, et, ea) le)
      by_split low (inr (j, jt)) =
          let (has, p) = zip_at next ps ks j (spot class now gaining.area) zip jt in
          let below = pin_below (delays_of (timing s).delays cell) ks j (spot class now gaining.area) sizes jt in
          let same : now + slice_index_or (delays_of (timing s).delays cell) j 0 ≡ t = omega (arith, below, et, low) in
          inr (subst (λ u. comes' u n) same (added n j (record { class = c; part = gate cell ps }) at p (omega (arith, same, le))))

      by_time : (now < t) ⊎ (t ≤ now) → HasAtMost next c t a ⊎ comes' t n
      by_time (inl lt) =
          let (j, k, jt, e) = pin_attains (delays_of (timing s).delays cell) ks now (omega (arith, lt, et)) in
          let (has, p) = zip_at next ps ks j k zip jt in
          let same : k.time + slice_index_or (delays_of (timing s).delays cell) j 0 ≡ t = sym e ∙ sym et in
          late k j same (use_at k n j (record { class = c; part = gate cell ps }) has at p (omega (arith, same, le)))
        where
          late : (k : Spot) (j : ℕ) → k.time + slice_index_or (delays_of (timing s).delays cell) j 0 ≡ t → (k.time + slice_index_or (delays_of (timing s).delays cell) j 0 ≤ now) ⊎ comes' (k.time + slice_index_or (delays_of (timing s).delays cell) j 0) n → HasAtMost next c t a ⊎ comes' t n
          late k j same (inl low) = absurd (omega arith)
          late k j same (inr w) = inr (subst (λ u. comes' u n) same w)
      by_time (inr low) = by_split low (zip_split Old next (spot class now gaining.area) gaining.gained.only ps ks zip)

  -- all is kept again
  pub uses_added : IsStill s choices now horizon next comes'
  uses_added = record {
    reached = gaining.settling.reached;
    low = gaining.settling.low;
    pin_groups = use_at;
    given = λ n t a x at gives le. give n t a x.class x.part at gives le;
  }

-- From one time to the next.

module _ (s : Task) (choices : List Choice) (now horizon : ℕ) (spots : List Spot) (comes : ℕ → ℕ → Type 0) (still : IsStill s choices now horizon spots comes) where
  pub still_later : (next : ℕ) → now ≤ next → IsStill s choices next horizon spots comes
  still_later next le = record {
    reached = still.reached;
    low = λ k has. let low = still.low k has in omega arith;
    pin_groups = λ k n j x has at pn within. use_at k n j x (still.pin_groups k n j x has at pn within);
    given = still.given;
  }
    where
      use_at : (k : Spot) (n j : ℕ) (x : Choice) → (k.time + delay_at s x.part j ≤ now) ⊎ comes (k.time + delay_at s x.part j) n → (k.time + delay_at s x.part j ≤ next) ⊎ comes (k.time + delay_at s x.part j) n
      use_at k n j x (inl low) = inl (omega arith)
      use_at k n j x (inr w) = inr w

  -- where none waits up to a time, the points are settled up to it
  pub settled_to : (time : ℕ) → now ≤ time → time ≤ horizon → ((t n : ℕ) → comes t n → time < t) → AreSettled s time choices spots
  settled_to time le within over = record {
    reached = still.reached;
    low = λ k has. let low = still.low k has in omega arith;
    given = λ n t a x at gives low. had t n low (still.given n t a x at gives (omega arith));
  }
    where
      had : {c a : ℕ} (t n : ℕ) → t ≤ time → HasAtMost spots c t a ⊎ comes t n → HasAtMost spots c t a
      had t n low (inl h) = h
      had t n low (inr w) = let f = over t n w in absurd (omega arith)
