-- What the groups of pins have seen.
use Rattle.std.proofs.Common.{◌≡◌, ℕ, suc, ◌+◌, ◌-◌, ◌<◌, ◌≤◌, ◌*◌, ◌⊎◌, inl, inr, min, length, List, [], ◌∷◌, Some, None, slice_get, slice_index_or, slice_set, refl, ap, sym, ◌∙◌, subst, arith}
use native.Mathlib.Decide.{ℕ_discrete}
use Rattle.std.specs.List.{AllZip}
use Rattle.std.proofs.lemmas.List.{length-set}
use Rattle.std.proofs.lemmas.Option.{same_Some, slice_get_within}
use Rattle.std.proofs.lemmas.Bool.{cases_lt}
use Rattle.lw_facts.proofs.Lists.{index_at}
use Rattle.lw_laws.specs.Covers.{delays_of, latest}
use Rattle.lw_laws.proofs.Delays.{length-delays_of}
use Rattle.lw_choices.specs.declared.pin_groups.PinGroups.{PinGroups}
use Rattle.lw_choices.specs.Areas.{most_area, total}
use Rattle.lw_choices.specs.Choices.{Part, Choice, IsOfLibrary}
use Rattle.lw_choices.specs.Choices.Part.{input, gate}
use Rattle.lw_curves.specs.Fronts.{IsLeastSpot}
use Rattle.lw_choices.specs.Tasks.{Task, timing}
use Rattle.lw_queue.specs.Queues.{IsTaken, Queued, Waits}
use Rattle.lw_curves.specs.SeenAreas.{HasSeen, AreSeen, HasUnseen, IsSeeing, seen_at, sum_seen}
use Rattle.lw_curves.specs.Settling.{Spot, spot, Has, HasAtMost, IsSpotOf, times, areas, Gives, Comes, IsGained, AreGroupsAdded, AreInTime, GivesNoMore, GivesNoMoreSeen}
use Rattle.lw_curves.specs.Tallies.{IsTally, bound_of, first_of, unseen}
use Rattle.lw_curves.specs.declared.tallies.Tally.{Tally}
use Rattle.lw_choices.specs.PinGroups.{AreUses, HasUse, IsGroup}
use Rattle.lw_curves.specs.Turns.{turns_of}
use Rattle.lw_curves.proofs.Falling.{HaveUses, use_place, pin_groups_of}
use Rattle.lw_choices.proofs.Lists.{get_set, get_set_other}
use Rattle.lw_curves.proofs.Stepping.{at_most, waits_left}

-- A group that comes is taken, and sees.

module _ (u : PinGroups) (seen seen' : List ℕ) (spots : List Spot) (coming coming' : Queued) (now g : ℕ) (within : now ≤ coming.horizon) (taken : IsTaken coming coming' now (Some g)) (seeing : IsSeeing u spots seen seen' g now) (are : AreSeen u seen spots coming) where
  pub seen_taken : AreSeen u seen' spots coming'
  seen_taken k h d has is le = by_case (are k h d has is (omega (arith, le, taken.0)))
    where
      by_left : Waits coming' (k.time + d) h ⊎ ((k.time + d ≡ now) × (h ≡ g)) → HasSeen seen' h k.area ⊎ Waits coming' (k.time + d) h
      by_left (inl there) = inr there
      by_left (inr (e, f)) = inl (subst (λ i. HasSeen seen' i k.area) (sym f) (seeing.here k d has (subst (λ i. IsGroup u.links.classes u.delays.items k.class d i) f is) (omega arith)))

      by_case : HasSeen seen h k.area ⊎ Waits coming (k.time + d) h → HasSeen seen' h k.area ⊎ Waits coming' (k.time + d) h
      by_case (inl own) = inl (seeing.kept h k.area own)
      by_case (inr w) = by_left (waits_left coming coming' now g within taken (k.time + d) h w)

-- The groups of a class that gained a point come.

module _ (u : PinGroups) (seen : List ℕ) (old spots : List Spot) (class time area : ℕ) (coming coming' : Queued) (are : AreSeen u seen old coming) (gained : IsGained old spots (spot class time area)) (added : AreGroupsAdded u.links.classes u.delays.items class time coming coming') where
  pub seen_pushed : AreSeen u seen spots coming'
  seen_pushed k g d has is le = by_case (gained.only k has)
    where
      by_old : HasSeen seen g k.area ⊎ Waits coming (k.time + d) g → HasSeen seen g k.area ⊎ Waits coming' (k.time + d) g
      by_old (inl own) = inl own
      by_old (inr w) = inr (added.kept (k.time + d) g w)

      by_case : Has old k ⊎ (k ≡ spot class time area) → HasSeen seen g k.area ⊎ Waits coming' (k.time + d) g
      by_case (inl h) = by_old (are k g d h is (omega (arith, le, added.horizon)))
      by_case (inr e) =
          let t : k.time ≡ time = ap (λ (z : Spot). z.time) e in
          let c : k.class ≡ class = ap (λ (z : Spot). z.class) e in
          let at = subst (λ v. slice_get u.links.classes g ≡ Some v) c is.0 in
          inr (subst (λ v. Waits coming' (v + d) g) (sym t) (added.added g d is.1 at (omega (arith, le, t, added.horizon))))

-- A choice with a point that its group has not seen comes.

module _ (u : PinGroups) (seen : List ℕ) (spots : List Spot) (now choices n : ℕ) (coming looked : Queued) (within : now ≤ coming.horizon) (are : AreSeen u seen spots coming) (time : AreInTime now choices (turns_of u coming looked)) (un : HasUnseen u seen spots now n) where
  pub unseen_comes : Comes (turns_of u coming looked) now n
  unseen_comes = by_case (are un.point un.group un.delay un.has un.group_is (let le = un.in_time in omega (arith, le, within)))
    where
      by_case : HasSeen seen un.group un.point.area ⊎ Waits coming (un.point.time + un.delay) un.group → Comes (turns_of u coming looked) now n
      by_case (inl own) = absurd (un.unseen own)
      by_case (inr w) =
          let low = (time.coming (un.point.time + un.delay) un.group w).0 in
          let le = un.in_time in
          let same : un.point.time + un.delay ≡ now = omega (arith, low, le) in
          inr (un.place, un.group, un.member, un.owner, subst (λ t. Waits coming t un.group) same w)

-- Where no group comes up to now, all points are seen.

module _ (u : PinGroups) (seen : List ℕ) (spots : List Spot) (now n : ℕ) (coming : Queued) (within : now ≤ coming.horizon) (are : AreSeen u seen spots coming) (over : (t g : ℕ) → Waits coming t g → now < t) where
  none_unseen : HasUnseen u seen spots now n → ⊥
  none_unseen un = by_case (are un.point un.group un.delay un.has un.group_is (let le = un.in_time in omega (arith, le, within)))
    where
      by_case : HasSeen seen un.group un.point.area ⊎ Waits coming (un.point.time + un.delay) un.group → ⊥
      by_case (inl own) = un.unseen own
      by_case (inr w) =
          let late = over (un.point.time + un.delay) un.group w in
          let le = un.in_time in
          absurd (omega (arith, late, le))

  -- so that a choice gives no more that gives no more by what is seen
  pub no_more_seen : (s : Task) (choices : List Choice) → GivesNoMoreSeen s choices spots (HasUnseen u seen spots now) now n → GivesNoMore s choices spots now n
  no_more_seen s choices more x a at gives = by_case (more x a at gives)
    where
      by_case : HasAtMost spots x.class now a ⊎ HasUnseen u seen spots now n → HasAtMost spots x.class now a
      by_case (inl had) = had
      by_case (inr un) = absurd (none_unseen un)

-- What a choice gives, and what its groups have seen.

module _ (u : PinGroups) (seen : List ℕ) (spots : List Spot) (now n : ℕ) where
  pin_seen : (i d p : ℕ) (k : Spot) → HasUse u n i d p → Has spots k → k.class ≡ p → k.time + d ≤ now → (seen_at u.members.classes seen (first_of u n + i) ≤ min most_area k.area) ⊎ HasUnseen u seen spots now n
  pin_seen i d p k its has e le = by_case (cases_lt (min most_area k.area) (seen_at u.members.classes seen (first_of u n + i)))
    where
      group : slice_index_or u.members.classes (first_of u n + i) 0 ≡ its.group
      group = index_at u.members.classes (first_of u n + i) its.group (subst (λ j. slice_get u.members.classes j ≡ Some its.group) (use_place u n i d p its) its.member)

      unseen : min most_area k.area < seen_at u.members.classes seen (first_of u n + i) → HasSeen seen its.group k.area → ⊥
      unseen lt (own, at, low) =
          let own_is : slice_index_or seen its.group 0 ≡ own = index_at seen its.group own at in
          let here : seen_at u.members.classes seen (first_of u n + i) ≡ own = ap (λ j. slice_index_or seen j 0) group ∙ own_is in
          absurd (omega (arith, lt, here, low))

      by_case : (min most_area k.area < seen_at u.members.classes seen (first_of u n + i)) ⊎ (seen_at u.members.classes seen (first_of u n + i) ≤ min most_area k.area) → (seen_at u.members.classes seen (first_of u n + i) ≤ min most_area k.area) ⊎ HasUnseen u seen spots now n
      by_case (inr low) = inl low
      by_case (inl lt) = inr (record {
        point = k;
        has = has;
        group = its.group;
        delay = d;
        group_is = subst (λ c. IsGroup u.links.classes u.delays.items c d its.group) (sym e) its.group_is;
        in_time = le;
        place = its.place;
        member = its.member;
        owner = its.owner;
        unseen = unseen lt;
      })

  first_use : (i d p : ℕ) (ds ps : List ℕ) → HaveUses u n i (d ∷ ds) (p ∷ ps) → HasUse u n i d p
  first_use i d p ds ps all = let e : i + 0 ≡ i = omega arith in subst (λ m. HasUse u n m d p) e (all 0 p refl)

  later_uses : (i d p : ℕ) (ds ps : List ℕ) → HaveUses u n i (d ∷ ds) (p ∷ ps) → HaveUses u n (i + 1) ds ps
  later_uses i d p ds ps all j q at =
      let e : i + suc j ≡ i + 1 + j = omega arith in
      subst (λ m. HasUse u n m (slice_index_or ds j 0) q) e (all (suc j) q at)

  -- together they have seen no more than the points of the pins, and few
  abbrev AreAllSeen : ℕ → List ℕ → List Spot → Type 0
  AreAllSeen first ps ks =
      (sum_seen u.members.classes seen first (length ps) ≤ total (areas ks)) × (sum_seen u.members.classes seen first (length ps) ≤ length ps * most_area)

  all_seen : (i : ℕ) (ds ps : List ℕ) (ks : List Spot) → length ds ≡ length ps → HaveUses u n i ds ps → AllZip (IsSpotOf spots) ps ks → latest ds (times ks) ≤ now → AreAllSeen (first_of u n + i) ps ks ⊎ HasUnseen u seen spots now n
  all_seen i ds [] [] size all zip le = inl (omega arith, omega arith)
  all_seen i ds [] (k ∷ ks) size all zip le = absurd zip
  all_seen i ds (p ∷ ps) [] size all zip le = absurd zip
  all_seen i [] (p ∷ ps) (k ∷ ks) size all zip le = absurd (omega arith)
  all_seen i (d ∷ ds) (p ∷ ps) (k ∷ ks) size all ((has, e), zip) le =
      both (pin_seen i d p k (first_use i d p ds ps all) has e (omega arith)) (all_seen (i + 1) ds ps ks (omega arith) (later_uses i d p ds ps all) zip (omega arith))
    where
      both : (seen_at u.members.classes seen (first_of u n + i) ≤ min most_area k.area) ⊎ HasUnseen u seen spots now n → AreAllSeen (first_of u n + (i + 1)) ps ks ⊎ HasUnseen u seen spots now n → AreAllSeen (first_of u n + i) (p ∷ ps) (k ∷ ks) ⊎ HasUnseen u seen spots now n
      both (inr un) rest = inr un
      both (inl low) (inr un) = inr un
      both (inl low) (inl rest) =
          let q : first_of u n + (i + 1) ≡ first_of u n + i + 1 = omega arith in
          let (more, few) = subst (λ f. AreAllSeen f ps ks) q rest in
          inl (omega (arith, low, more), omega (arith, low, few))

module _ (s : Task) (choices : List Choice) (u : PinGroups) (are : AreUses s.cells choices u) (seen : List ℕ) (spots : List Spot) (now n : ℕ) where
  tally_more : (class a : ℕ) (part : Part) (t : Tally) → slice_get choices n ≡ Some (record { class = class; part = part }) → IsOfLibrary s.cells part → IsTally s.cells u seen n (record { class = class; part = part }) t → (bound_of t < unseen → HasAtMost spots class now (min most_area (bound_of t))) → Gives s spots part now a → HasAtMost spots class now a ⊎ HasUnseen u seen spots now n
  tally_more class a (input i) t at of is had gives =
      let low = is.low in
      inl (at_most spots class now (min most_area (bound_of t)) a (omega (arith, low)) (had (omega (arith, low))))
  tally_more class a (gate cell ps) t at of is had (ks, zip, et, ea) =
      by_case (all_seen u seen spots now n 0 (delays_of (timing s).delays cell) ps ks (length-delays_of (timing s).delays cell (length ps) of) (pin_groups_of s.cells choices u are n class cell ps at) zip (omega (arith, et)))
    where
      by_case : AreAllSeen u seen spots now n (first_of u n + 0) ps ks ⊎ HasUnseen u seen spots now n → HasAtMost spots class now a ⊎ HasUnseen u seen spots now n
      by_case (inr un) = inr un
      by_case (inl sums) =
          let q : first_of u n + 0 ≡ first_of u n = omega arith in
          let (more, few) = subst (λ f. AreAllSeen u seen spots now n f ps ks) q sums in
          let low = is.low in
          let pins = is.few in
          let lt : bound_of t < unseen = omega (arith, low, few, pins) in
          inl (at_most spots class now (min most_area (bound_of t)) a (omega (arith, low, more, ea)) (had lt))

  -- It gives no more than what is had, where its bound is that of a group that has seen nothing, or a point of its class has no more.
  pub tally_done : (x : Choice) (t : Tally) → slice_get choices n ≡ Some x → IsOfLibrary s.cells x.part → IsTally s.cells u seen n x t → (bound_of t < unseen → HasAtMost spots x.class now (min most_area (bound_of t))) → GivesNoMoreSeen s choices spots (HasUnseen u seen spots now) now n
  tally_done x t at of is had y a yt gives =
      let same = same_Some y x (sym yt ∙ at) in
      let here = tally_more x.class a x.part t at of is had (subst (λ (z : Choice). Gives s spots z.part now a) same gives) in
      subst (λ (z : Choice). HasAtMost spots z.class now a ⊎ HasUnseen u seen spots now n) (sym same) here

-- A group sees no point.

module _ (u : PinGroups) (spots : List Spot) (seen : List ℕ) (group time delay : ℕ) (delay_is : slice_get u.delays.items group ≡ Some delay) where
  pub seeing_early : time < delay → IsSeeing u spots seen seen group time
  seeing_early lt = record {
    one_each = refl;
    kept = λ g a has. has;
    here = λ k d has (ct, dt) le. let e = same_Some d delay (sym dt ∙ delay_is) in absurd (omega (arith, e, lt, le));
  }

  pub seeing_none : (class : ℕ) → slice_get u.links.classes group ≡ Some class → delay ≤ time → IsLeastSpot spots class (time - delay) None → IsSeeing u spots seen seen group time
  seeing_none class class_is within none = record {
    one_each = refl;
    kept = λ g a has. has;
    here = λ k d has (ct, dt) le.
        let c = same_Some k.class class (sym ct ∙ class_is) in
        let e = same_Some d delay (sym dt ∙ delay_is) in
        absurd (none k has c (omega (arith, e, le, within)));
  }

-- A group sees the last point of its class.

module _ (u : PinGroups) (spots : List Spot) (seen : List ℕ) (group time delay class area own : ℕ) (within : delay ≤ time) (delay_at : slice_get u.delays.items group ≡ Some delay) (class_at : slice_get u.links.classes group ≡ Some class) (least : IsLeastSpot spots class (time - delay) (Some area)) (at : slice_get seen group ≡ Some own) where
  no_more : (k : Spot) (d : ℕ) → Has spots k → IsGroup u.links.classes u.delays.items k.class d group → k.time + d ≤ time → area ≤ k.area
  no_more k d has (ct, dt) le =
      let c : k.class ≡ class = same_Some k.class class (sym ct ∙ class_at) in
      let e : d ≡ delay = same_Some d delay (sym dt ∙ delay_at) in
      least.1 k has c (omega (arith, e, le))

  pub seeing_less : (new : ℕ) → new ≡ min most_area area → new < own → IsSeeing u spots seen (slice_set seen group new) group time
  seeing_less new new_is lt = record {
    one_each = length-set seen group new;
    kept = λ g a (o, ot, le). kept g a o ot le (ℕ_discrete g group);
    here = λ k d has is le. (new, get_set seen group new (slice_get_within seen group own at), let m = no_more k d has is le in omega (arith, m, new_is));
  }
    where
      kept : (g a o : ℕ) → slice_get seen g ≡ Some o → o ≤ min most_area a → Dec (g ≡ group) → HasSeen (slice_set seen group new) g a
      kept g a o ot le (yes e) =
          let same : own ≡ o = same_Some own o (sym at ∙ (ap (slice_get seen) (sym e) ∙ ot)) in
          subst (λ i. HasSeen (slice_set seen group new) i a) (sym e) (new, get_set seen group new (slice_get_within seen group own at), omega (arith, lt, same, le))
      kept g a o ot le (no ne) = (o, get_set_other seen group g new o ne ot, le)

  pub seeing_same : own ≤ min most_area area → IsSeeing u spots seen seen group time
  seeing_same low = record {
    one_each = refl;
    kept = λ g a has. has;
    here = λ k d has is le. (own, at, let m = no_more k d has is le in omega (arith, low, m));
  }
