-- Classes of roots: different ones have different classes, and classes rise with them.
use Rattle.std.proofs.Common.{ℕ, zero, suc, ◌+◌, ◌*◌, ◌/◌, ◌%◌, ◌<◌, ◌≡◌, ◌==◌, List, length, slice_index, refl, ap, sym, ◌∙◌, arith, if◌then◌else◌}
use native.Mathlib.Decide.{ℕ_discrete, dec_lt}
use Rattle.lw_laws.specs.Flip.{flip}
use Rattle.lw_laws.specs.Graphs.{pair_count}
use Rattle.lw_laws.proofs.Flips.{half-flip, odd-flip, flip_even}
use Rattle.lw_reduce.specs.ClassNumbers.{AreClasses}
use Rattle.lw_reduce.specs.Representatives.{rep_of, in_phase}
use Rattle.lw_reduce.proofs.RepSteps.{rep_of-in_phase}
use Rattle.lw_reduce.proofs.RepLemmas.{half-in_phase, in_phase_same}

self_by_digit : (r a : ℕ) → r < 2 → r ≡ a % 2 → (if r == 0 then a else flip a) ≡ 2 * (a / 2)
self_by_digit zero a lt e = omega arith
self_by_digit (suc zero) a lt e = let h = half-flip a in let o = odd-flip a in omega arith
self_by_digit (suc (suc r)) a lt e = absurd (omega arith)

in_phase_self : (a : ℕ) → in_phase a a ≡ 2 * (a / 2)
in_phase_self a = self_by_digit (a % 2) a (omega arith) refl

even_by_digit : (r e : ℕ) → r < 2 → e % 2 ≡ 0 → (if r == 0 then e else flip e) ≡ e + r
even_by_digit zero e lt h = omega arith
even_by_digit (suc zero) e lt h = let f = flip_even e (e / 2) (omega arith) in omega arith
even_by_digit (suc (suc r)) e lt h = absurd (omega arith)

in_phase_even : (a e : ℕ) → e % 2 ≡ 0 → in_phase a e ≡ e + a % 2
in_phase_even a e h = even_by_digit (a % 2) e (omega arith) h

-- a form that is its own representative
pub record IsRoot (reps : List ℕ) (a : ℕ) : Type 0 where
  pub within : a / 2 < length reps
  pub own : rep_of reps a ≡ a

pub root_base : (reps : List ℕ) (a : ℕ) → IsRoot reps a → slice_index reps (a / 2) ≡ 2 * (a / 2)
root_base reps a is =
    sym (in_phase_same a a (slice_index reps (a / 2)) refl) ∙ (ap (in_phase a) is.own ∙ in_phase_self a)

module _ (reps forms : List ℕ) (are : AreClasses reps forms) (count : length forms ≡ length reps) where
  pub class_of_rep : (f : ℕ) → f / 2 < length reps → rep_of forms (rep_of reps f) ≡ rep_of forms f
  class_of_rep f lt =
      rep_of-in_phase forms f (slice_index reps (f / 2)) ∙ ap (in_phase f) (sym (are.by_rep (f / 2) (omega arith)))

  root_class : (a : ℕ) → IsRoot reps a → rep_of forms a ≡ slice_index forms (a / 2) + a % 2
  root_class a is =
      let lt = is.within in
      in_phase_even a (slice_index forms (a / 2)) (are.even (a / 2) (omega arith) (root_base reps a is))

  pub class_rises : (a b : ℕ) → IsRoot reps a → IsRoot reps b → a < b → rep_of forms a < rep_of forms b
  class_rises a b p q lt = by_base (ℕ_discrete (a / 2) (b / 2))
    where
      by_base : Dec (a / 2 ≡ b / 2) → rep_of forms a < rep_of forms b
      by_base (yes e) =
          let x = root_class a p in
          let y = root_class b q in
          let s = ap (slice_index forms) e in
          omega arith
      by_base (no ne) =
          let x = root_class a p in
          let y = root_class b q in
          let wa = p.within in
          let wb = q.within in
          let ea = are.even (a / 2) (omega arith) (root_base reps a p) in
          let eb = are.even (b / 2) (omega arith) (root_base reps b q) in
          let r = are.rising (a / 2) (b / 2) (omega arith) (omega arith) (root_base reps a p) (root_base reps b q) in
          omega arith

  pub class_once : (a b : ℕ) → IsRoot reps a → IsRoot reps b → rep_of forms a ≡ rep_of forms b → a ≡ b
  class_once a b p q e = by_order (dec_lt a b) (dec_lt b a)
    where
      by_order : Dec (a < b) → Dec (b < a) → a ≡ b
      by_order (yes l) d = let r = class_rises a b p q l in absurd (omega arith)
      by_order (no n) (yes l) = let r = class_rises b a q p l in absurd (omega arith)
      by_order (no n) (no m) = omega arith

  -- a class is below the number of classes
  pub class_below : (f : ℕ) → f / 2 < length reps → rep_of forms f < 2 * pair_count 0 forms
  class_below f lt =
      let b = are.below (f / 2) (omega arith) in
      let h = half-in_phase f (slice_index forms (f / 2)) in
      omega arith
