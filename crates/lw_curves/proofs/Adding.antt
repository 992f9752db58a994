-- The groups of a class are let come one by one.
use Rattle.std.proofs.Common.{◌≡◌, ℕ, zero, suc, ◌+◌, ◌-◌, ◌<◌, ◌≤◌, ◌⊎◌, inl, inr, length, List, [], ◌∷◌, Contains, Option, Some, None, slice_get, slice_set, refl, ap, sym, ◌∙◌, subst, subst₂, arith}
use native.Mathlib.Decide.{ℕ_discrete}
use Rattle.std.specs.List.Sorted.{IsPermutation}
use Rattle.std.proofs.lemmas.List.Sorted.{Contains-permutation, IsPermutation-sym, length_permutation}
use Rattle.std.proofs.lemmas.Option.{same_Some, slice_get_within}
use Rattle.std.proofs.lemmas.Bool.{cases_lt}
use Rattle.lw_choices.specs.Areas.{total}
use Rattle.lw_choices.specs.Chains.{IsLast}
use Rattle.lw_queue.specs.Queues.{Item, IsTaken, Queued, Waits}
use Rattle.lw_choices.specs.Choices.{Choice, HasPinAt, delay_at}
use Rattle.lw_choices.specs.Tasks.{Task}
use Rattle.lw_choices.specs.PinGroups.{AreUses}
use Rattle.lw_curves.specs.Turns.{turns_of}
use Rattle.lw_choices.specs.declared.pin_groups.PinGroups.{PinGroups}
use Rattle.lw_curves.specs.Settling.{Turns, turns, Comes, AreGroupsAdded, AreInTime, IsLetWait, NoneComes}
use Rattle.lw_choices.proofs.Lists.{in_tail}
use Rattle.lw_curves.proofs.Stepping.{in_cons, waits_back}

-- The groups from a bound on come, and the next one is the last before it.
pub record IsAdding (classes delays : List ℕ) (class time : ℕ) (old q : Queued) (next : Option ℕ) : Type 0 where
  pub horizon : q.horizon ≡ old.horizon
  pub kept : (t g : ℕ) → Waits old t g → Waits q t g
  pub only : (t g : ℕ) → Waits q t g → Waits old t g ⊎ ((time ≤ t) × (g < length delays))
  pub bound : ℕ
  pub last : IsLast classes class bound next
  pub done : (g d : ℕ) → bound ≤ g → slice_get delays g ≡ Some d → slice_get classes g ≡ Some class → time + d ≤ old.horizon → Waits q (time + d) g

module _ (old new : Queued) (time hint n : ℕ) (within : time ≤ old.horizon) (same : new.horizon ≡ old.horizon) (perm : IsPermutation ((old.horizon - time, (hint, n)) ∷ old.items) new.items) where
  pub pushed_waits : Waits new time n
  pushed_waits = (omega arith, (hint, subst (λ h. Contains new.items (h - time, (hint, n))) (sym same) (Contains-permutation ((old.horizon - time, (hint, n)) ∷ old.items) new.items (old.horizon - time, (hint, n)) perm (0, omega arith, refl))))

  pub pushed_kept : (t m : ℕ) → Waits old t m → Waits new t m
  pushed_kept t m (le, (k, in')) =
      (omega arith, (k, subst (λ h. Contains new.items (h - t, (k, m))) (sym same) (Contains-permutation ((old.horizon - time, (hint, n)) ∷ old.items) new.items (old.horizon - t, (k, m)) perm (in_tail (old.horizon - time, (hint, n)) (old.horizon - t, (k, m)) old.items in'))))

  pub pushed_only : (t m : ℕ) → Waits new t m → Waits old t m ⊎ ((t ≡ time) × (m ≡ n))
  pushed_only t m (le, (k, in')) =
      by_case (in_cons (old.horizon - time, (hint, n)) (old.horizon - t, (k, m)) old.items (Contains-permutation new.items ((old.horizon - time, (hint, n)) ∷ old.items) (old.horizon - t, (k, m)) (IsPermutation-sym ((old.horizon - time, (hint, n)) ∷ old.items) new.items perm) (subst (λ h. Contains new.items (h - t, (k, m))) same in')))
    where
      by_case : {k : ℕ} → (◌≡◌ {A = Item} (old.horizon - time, (hint, n)) (old.horizon - t, (k, m))) ⊎ Contains old.items (old.horizon - t, (k, m)) → Waits old t m ⊎ ((t ≡ time) × (m ≡ n))
      by_case (inl e) =
          let left = ap (λ (x : Item). x.0) e in
          let number = ap (λ (x : Item). x.1.1) e in
          inr (omega arith, sym number)
      by_case (inr there) = inl (omega arith, (_, there))

module _ (classes delays : List ℕ) (class time : ℕ) (old : Queued) where
  pub adding_first : (next : Option ℕ) → length delays ≡ length classes → IsLast classes class (length classes) next → IsAdding classes delays class time old old next
  adding_first next one_each last = record {
    horizon = refl;
    kept = λ t g w. w;
    only = λ t g w. inl w;
    bound = length classes;
    last = last;
    done = λ g d le at bt within. let lt = slice_get_within classes g class bt in absurd (omega arith);
  }

  -- one group more, which comes now, or is over the horizon
  pub adding_next : (q q' : Queued) (place d : ℕ) (next : Option ℕ) → IsAdding classes delays class time old q (Some place) → slice_get delays place ≡ Some d → IsLast classes class place next → IsLetWait q q' (time + d) place → IsAdding classes delays class time old q' next
  adding_next q q' place d next is at last here = record {
    horizon = here.horizon ∙ is.horizon;
    kept = λ t g w. here.kept t g (is.kept t g w);
    only = λ t g w. from t g (here.only t g w);
    bound = place;
    last = last;
    done = λ g e le et bt within. done g e le et bt within (ℕ_discrete g place);
  }
    where
      from : (t g : ℕ) → Waits q t g ⊎ ((t ≡ time + d) × (g ≡ place)) → Waits old t g ⊎ ((time ≤ t) × (g < length delays))
      from t g (inl w) = is.only t g w
      from t g (inr (e, f)) = let lt = slice_get_within delays place d at in inr (omega arith, omega arith)

      done : (g e : ℕ) → place ≤ g → slice_get delays g ≡ Some e → slice_get classes g ≡ Some class → time + e ≤ old.horizon → Dec (g ≡ place) → Waits q' (time + e) g
      done g e le et bt within (yes f) =
          let same : d ≡ e = same_Some d e (sym at ∙ (ap (slice_get delays) (sym f) ∙ et)) in
          subst₂ (λ x y. Waits q' (time + x) y) same (sym f) (here.here (omega (arith, same, within, is.horizon)))
      done g e le et bt within (no ne) = by_bound (cases_lt g is.bound)
        where
          by_bound : (g < is.bound) ⊎ (is.bound ≤ g) → Waits q' (time + e) g
          by_bound (inl lt) = absurd (is.last.2 g (omega arith) lt bt)
          by_bound (inr ge) = here.kept (time + e) g (is.done g e ge et bt within)

  pub adding_over : (q : Queued) → length delays ≡ length classes → IsAdding classes delays class time old q None → AreGroupsAdded classes delays class time old q
  adding_over q one_each is = record {
    horizon = is.horizon;
    kept = is.kept;
    added = λ g d at bt le. by_bound g d at bt le (cases_lt g is.bound);
    only = is.only;
  }
    where
      by_bound : (g d : ℕ) → slice_get delays g ≡ Some d → slice_get classes g ≡ Some class → time + d ≤ old.horizon → (g < is.bound) ⊎ (is.bound ≤ g) → Waits q (time + d) g
      by_bound g d at bt le (inl lt) = absurd (is.last g (omega arith) lt bt)
      by_bound g d at bt le (inr ge) = is.done g d ge at bt le

-- what was taken waited, and one less waits
module _ (old new : Queued) (time n : ℕ) (within : time ≤ old.horizon) (taken : IsTaken old new time (Some n)) where
  pub taken_waits : Waits old time n
  taken_waits =
      let (same, (hint, perm)) = taken in
      (within, (hint, Contains-permutation ((old.horizon - time, (hint, n)) ∷ new.items) old.items (old.horizon - time, (hint, n)) (IsPermutation-sym old.items ((old.horizon - time, (hint, n)) ∷ new.items) perm) (0, omega arith, refl)))

  pub taken_less : length new.items < length old.items
  taken_less = let (same, (hint, perm)) = taken in let size = length_permutation old.items ((old.horizon - time, (hint, n)) ∷ new.items) perm in omega arith

-- What comes with groups.

module _ (s : Task) (choices : List Choice) (u : PinGroups) (now class : ℕ) (coming coming' looked : Queued) (are : AreUses s.cells choices u) (added : AreGroupsAdded u.links.classes u.delays.items class now coming coming') where
  pub groups_more : (t n : ℕ) → Comes (turns_of u coming looked) t n → Comes (turns_of u coming' looked) t n
  groups_more t n (inl waits) = inl waits
  groups_more t n (inr (j, g, jt, nt, waits)) = inr (j, g, jt, nt, added.kept t g waits)

  pub groups_added : (n j : ℕ) (x : Choice) → slice_get choices n ≡ Some x → HasPinAt x.part j class → now + delay_at s x.part j ≤ coming.horizon → Comes (turns_of u coming' looked) (now + delay_at s x.part j) n
  groups_added n j x at pn le =
      let found = are.pins.all n j class x (inl (slice_get_within choices n x at)) at pn in
      inr (found.place, found.group, found.member, found.owner, added.added found.group (delay_at s x.part j) found.group_is.1 found.group_is.0 le)

  pub groups_in_time : AreInTime now (length choices) (turns_of u coming looked) → AreInTime now (length choices) (turns_of u coming' looked)
  groups_in_time time = record {
    horizon = time.horizon ∙ sym added.horizon;
    looked = time.looked;
    coming = λ t g w. by_case t g (added.only t g w);
  }
    where
      by_case : (t g : ℕ) → Waits coming t g ⊎ ((now ≤ t) × (g < length u.delays.items)) → (now ≤ t) × (g < u.members.count)
      by_case t g (inl w) = time.coming t g w
      by_case t g (inr (le, lt)) = (le, omega (arith, lt, are.pins.are.one_each, are.pins.are.count))

module _ (now choices : ℕ) (w : Turns) (time : AreInTime now choices w) where
  -- a choice is taken
  pub looked_in_time : (new : Queued) (n : ℕ) → now ≤ w.looked.horizon → IsTaken w.looked new now (Some n) → AreInTime now choices (turns w.groups w.owners w.count w.coming new)
  looked_in_time new n within taken = record {
    horizon = taken.0 ∙ time.horizon;
    looked = λ t m v. time.looked t m (waits_back w.looked new now n within taken t m v);
    coming = time.coming;
  }

  -- a group is taken, and its choices wait
  pub group_in_time : (coming looked : Queued) (g : ℕ) → now ≤ w.coming.horizon → IsTaken w.coming coming now (Some g) → looked.horizon ≡ w.looked.horizon → ((t m : ℕ) → Waits looked t m → Waits w.looked t m ⊎ ((t ≡ now) × (m < choices))) → AreInTime now choices (turns w.groups w.owners w.count coming looked)
  group_in_time coming looked g within taken same only = record {
    horizon = same ∙ (time.horizon ∙ sym taken.0);
    looked = λ t m v. by_case t m (only t m v);
    coming = λ t h v. time.coming t h (waits_back w.coming coming now g within taken t h v);
  }
    where
      by_case : (t m : ℕ) → Waits w.looked t m ⊎ ((t ≡ now) × (m < choices)) → (now ≤ t) × (m < choices)
      by_case t m (inl v) = time.looked t m v
      by_case t m (inr (e, lt)) = (omega arith, lt)

  -- nothing waits or comes before a later time
  pub later_in_time : (next : ℕ) → ((t n : ℕ) → Waits w.looked t n → next ≤ t) → ((t g : ℕ) → Waits w.coming t g → next ≤ t) → AreInTime next choices w
  later_in_time next first second = record {
    horizon = time.horizon;
    looked = λ t n v. (first t n v, (time.looked t n v).1);
    coming = λ t g v. (second t g v, (time.coming t g v).1);
  }

-- nothing comes up to a time up to which nothing waits
pub none_comes : (now : ℕ) (w : Turns) → NoneComes now w → (t n : ℕ) → Comes w t n → now < t
none_comes now w none t n (inl v) = none.0 t n v
none_comes now w none t n (inr (j, g, jt, nt, v)) = none.1 t g v

pub total_set : (xs : List ℕ) (i v w : ℕ) → slice_get xs i ≡ Some w → v < w → total (slice_set xs i v) < total xs
total_set [] i v w at lt = cc
total_set (x ∷ xs) zero v w at lt = let e = same_Some x w at in omega arith
total_set (x ∷ xs) (suc i) v w at lt = let ih = total_set xs i v w at lt in omega arith
