-- The last of points that rise, by the number of those that come by a time.
use Rattle.std.proofs.Common.{◌≡◌, ℕ, zero, suc, ◌+◌, ◌-◌, ◌<◌, ◌≤◌, ◌⊎◌, inl, inr, Bool, true, false, nat_le, length, List, Some, slice_get, slice_index_or, sym, ◌∙◌, subst, arith, Option, None}
use Rattle.std.specs.List.Sorted.{IsPartitionedBy, IsPartitionPoint}
use Rattle.std.proofs.lemmas.Option.{same_Some, slice_get_within, none-some}
use Rattle.std.proofs.lemmas.Bool.{cases_lt}
use Rattle.lw_curves.specs.declared.point.Point.{Point}
use Rattle.lw_curves.specs.Lasts.{ArePointsRising, IsLastIn, IsLastOf, IsLastPlace}
use Rattle.lw_choices.proofs.Lists.{got}

abbrev pub is_by : ℕ → Point → Bool
is_by by p = nat_le p.time.0 by

in_time : (a b : ℕ) → nat_le a b ≡ true → a ≤ b
in_time a b e = grind (arith, e)

is_in_time : (a b : ℕ) → a ≤ b → nat_le a b ≡ true
is_in_time a b le = grind (arith, le)

too_late : (a b : ℕ) → nat_le a b ≡ false → b < a
too_late a b e = grind (arith, e)

pub rising_partitioned : (ps : List Point) (by : ℕ) → ArePointsRising ps → IsPartitionedBy (is_by by) ps
rising_partitioned ps by rising i j d le lt e = by_place (cases_lt i j)
  where
    here : (k : ℕ) → k < length ps → slice_get ps k ≡ Some (slice_index_or ps k d)
    here k l = got ps k d l

    by_place : (i < j) ⊎ (j ≤ i) → is_by by (slice_index_or ps i d) ≡ true
    by_place (inl less) =
        let low = in_time (slice_index_or ps j d).time.0 by e in
        let before = rising i j (slice_index_or ps i d) (slice_index_or ps j d) less (here i (omega arith)) (here j lt) in
        is_in_time (slice_index_or ps i d).time.0 by (omega arith)
    by_place (inr ge) =
        let same : j ≡ i = omega arith in
        subst (λ k. is_by by (slice_index_or ps k d) ≡ true) same e

module _ (ps : List Point) (delay time by count : ℕ) (split : by + delay ≡ time) (point : IsPartitionPoint (λ p. is_by by p ≡ true) (λ p. is_by by p ≡ false) ps count) where
  below_count : (j : ℕ) (q : Point) → slice_get ps j ≡ Some q → q.time.0 + delay ≤ time → j < count
  below_count j q at le = by_place (cases_lt j count)
    where
      lt : j < length ps
      lt = slice_get_within ps j q at

      by_place : (j < count) ⊎ (count ≤ j) → j < count
      by_place (inl l) = l
      by_place (inr ge) =
          let late = point.1 j q ge lt in
          let late' = subst (λ (p : Point). is_by by p ≡ false) (same_Some (slice_index_or ps j q) q (sym (got ps j q lt) ∙ at)) late in
          let f = too_late q.time.0 by late' in
          absurd (omega arith)

  pub none_by : count ≡ 0 → (j : ℕ) (q : Point) → slice_get ps j ≡ Some q → q.time.0 + delay ≤ time → ⊥
  none_by none j q at le = let l = below_count j q at le in omega arith

  pub last_in : (d : Point) → count ≤ length ps → (count ≡ 0 → ⊥) → IsLastIn ps delay time (count - 1)
  last_in d le some =
      let some' : 0 < count = positive count some in
      let in' : count - 1 < length ps = omega arith in
      let low = point.0 (count - 1) d (omega arith) (omega arith) in
      let l = in_time (slice_index_or ps (count - 1) d).time.0 by low in
      record {
        point = slice_index_or ps (count - 1) d;
        at = got ps (count - 1) d in';
        in_time = omega arith;
        last = λ j q at by_time. let b = below_count j q at by_time in omega arith;
      }
    where
      positive : (k : ℕ) → (k ≡ 0 → ⊥) → 0 < k
      positive zero ne = absurd (ne (omega arith))
      positive (suc k) ne = omega arith

pub last_of : (rows : List (List Point)) (c : ℕ) (row : List Point) (delay time : ℕ) → slice_get rows c ≡ Some row → (place : Option ℕ) → IsLastPlace row delay time place → IsLastOf rows c delay time place
last_of rows c row delay time at None none = λ other there.
    subst (λ ps. IsLastPlace ps delay time None) (same_Some row other (sym at ∙ there)) none
last_of rows c row delay time at (Some place) last = (row, at, last)

pub no_last : (rows : List (List Point)) (c delay time : ℕ) → slice_get rows c ≡ None → IsLastOf rows c delay time None
no_last rows c delay time none = λ row at. absurd (none-some row (sym none ∙ at))
