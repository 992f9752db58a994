-- The choices of a group are looked at one by one.
use Rattle.std.proofs.Common.{◌≡◌, ℕ, ◌+◌, ◌<◌, ◌≤◌, ◌⊎◌, inl, inr, length, List, Some, slice_get, refl, ap, sym, ◌∙◌, subst, arith}
use native.Mathlib.Nat.{eq-or-lt_of_le}
use Rattle.std.proofs.lemmas.Option.{same_Some}
use Rattle.lw_choices.specs.Choices.{Choice}
use Rattle.lw_choices.specs.GroupChoices.{AreOwnersListed}
use Rattle.lw_choices.specs.Tasks.{Task}
use Rattle.lw_curves.specs.Settling.{Spot, GivesNoMoreSeen, IsGroupLookedAt, IsLookedAt}
use Rattle.lw_queue.specs.Queues.{Queued, Waits}
use Rattle.lw_choices.proofs.Members.{owner_is}

-- Those at the places from one on and before another were looked at.
pub record IsLooking (s : Task) (choices : List Choice) (spots : List Spot) (unseen : ℕ → Type 0) (numbers : List ℕ) (first : ℕ) (old q : Queued) (time at : ℕ) : Type 0 where
  pub horizon : q.horizon ≡ old.horizon
  pub kept : (t m : ℕ) → Waits old t m → Waits q t m
  pub only : (t m : ℕ) → Waits q t m → Waits old t m ⊎ ((t ≡ time) × (m < length choices))
  pub done : (k n : ℕ) → first ≤ k → k < at → slice_get numbers k ≡ Some n → Waits q time n ⊎ GivesNoMoreSeen s choices spots unseen time n

module _ (s : Task) (choices : List Choice) (spots : List Spot) (unseen : ℕ → Type 0) (numbers : List ℕ) (first : ℕ) (old : Queued) (time : ℕ) where
  pub looking_first : IsLooking s choices spots unseen numbers first old old time first
  looking_first = record {
    horizon = refl;
    kept = λ t m w. w;
    only = λ t m w. inl w;
    done = λ k n low high kt. absurd (omega arith);
  }

  -- one more
  pub looking_next : (q q' : Queued) (at number : ℕ) → slice_get numbers at ≡ Some number → IsLookedAt s choices spots unseen q q' time number → IsLooking s choices spots unseen numbers first old q time at → IsLooking s choices spots unseen numbers first old q' time (at + 1)
  looking_next q q' at number here looked is = record {
    horizon = looked.horizon ∙ is.horizon;
    kept = λ t m w. looked.kept t m (is.kept t m w);
    only = λ t m w. from t m (looked.only t m w);
    done = λ k n low high kt. done k n low kt (eq-or-lt_of_le {n = k} {m = at} (omega arith));
  }
    where
      from : (t m : ℕ) → Waits q t m ⊎ ((t ≡ time) × (m < length choices)) → Waits old t m ⊎ ((t ≡ time) × (m < length choices))
      from t m (inl w) = is.only t m w
      from t m (inr new) = inr new

      keep : (n : ℕ) → Waits q time n ⊎ GivesNoMoreSeen s choices spots unseen time n → Waits q' time n ⊎ GivesNoMoreSeen s choices spots unseen time n
      keep n (inl w) = inl (looked.kept time n w)
      keep n (inr more) = inr more

      done : (k n : ℕ) → first ≤ k → slice_get numbers k ≡ Some n → (k ≡ at) ⊎ (k < at) → Waits q' time n ⊎ GivesNoMoreSeen s choices spots unseen time n
      done k n low kt (inl e) =
          let same : number ≡ n = same_Some number n (sym here ∙ (ap (slice_get numbers) (sym e) ∙ kt)) in
          subst (λ m. Waits q' time m ⊎ GivesNoMoreSeen s choices spots unseen time m) same looked.done
      done k n low kt (inr lt) = keep n (is.done k n low lt kt)

  -- all choices of the group
  pub looking_over : (groups owners starts : List ℕ) (count group end at : ℕ) (q : Queued) → AreOwnersListed groups owners count starts numbers → slice_get starts group ≡ Some first → slice_get starts (group + 1) ≡ Some end → end ≤ at → IsLooking s choices spots unseen numbers first old q time at → IsGroupLookedAt s choices spots unseen groups owners old q time group
  looking_over groups owners starts count group end at q (places, numbers_are, listed) st et over is = record {
    horizon = is.horizon;
    kept = is.kept;
    only = is.only;
    done = λ j n jt nt.
        let (k, low, high, kt) = listed.all group first end j st et jt in
        is.done k n low (omega (arith, high, over)) (owner_is owners numbers places k j n numbers_are kt nt);
  }
