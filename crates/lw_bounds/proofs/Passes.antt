-- Tables whose numbers fall class by class.
use Rattle.std.proofs.Common.{ℕ, ◌⊎◌, ◌+◌, ◌<◌, ◌≡◌, ◌||◌, Bool, true, false, List, Option, refl, sym, ap, subst, ◌∙◌, inl, inr, arith}
use native.Mathlib.Nat.{eq-or-lt_of_le}
use Rattle.lw_laws.specs.Graphs.{Graph}
use Rattle.lw_laws.specs.Covers.{Pattern}
use Rattle.lw_cost.specs.declared.mark.Mark.{Mark}
use Rattle.lw_bounds.specs.Bounds.{BoundsState, BoundsFit, AreSettledAt, bounds_weight}

-- the table so far: a number fell, or none did and in a whole round those of the first n classes are settled
pub record ArePassed (pats : List Pattern) (g : Graph) (marks : List (Option Mark)) (whole : Bool) (old new : BoundsState) (n : ℕ) (fell : Bool) : Type 0 where
  pub fits : BoundsFit new pats g
  pub falls : fell ≡ true → bounds_weight new < bounds_weight old
  pub same : fell ≡ false → new ≡ old
  pub settled : whole ≡ true → fell ≡ false → (c : ℕ) → c < n → AreSettledAt old g marks c

pub passed_more : (pats : List Pattern) (g : Graph) (marks : List (Option Mark)) (whole : Bool) (old mid new : BoundsState) (n : ℕ) (one fell : Bool) → ArePassed pats g marks whole old mid n fell → (BoundsFit mid pats g → BoundsFit new pats g) → (one ≡ true → bounds_weight new < bounds_weight mid) → (one ≡ false → new ≡ mid) → (whole ≡ true → one ≡ false → AreSettledAt mid g marks n) → ArePassed pats g marks whole old new (n + 1) (one || fell)
passed_more pats g marks whole old mid new n true true h fits falls same settled =
    record { fits = fits h.fits; falls = λ e. let a = h.falls refl in let b = falls refl in omega arith; same = λ e. cc; settled = λ w e. cc }
passed_more pats g marks whole old mid new n true false h fits falls same settled =
    record { fits = fits h.fits; falls = λ e. let a = ap bounds_weight (h.same refl) in let b = falls refl in omega arith; same = λ e. cc; settled = λ w e. cc }
passed_more pats g marks whole old mid new n false true h fits falls same settled =
    record { fits = fits h.fits; falls = λ e. let a = h.falls refl in let b = ap bounds_weight (same refl) in omega arith; same = λ e. cc; settled = λ w e. cc }
passed_more pats g marks whole old mid new n false false h fits falls same settled = record {
  fits = fits h.fits;
  falls = λ e. cc;
  same = λ e. same refl ∙ h.same refl;
  settled = λ w e c lt. place w c (eq-or-lt_of_le {n = c} {m = n} (omega arith));
}
  where
    place : whole ≡ true → (c : ℕ) → (c ≡ n) ⊎ (c < n) → AreSettledAt old g marks c
    place w c (inl e) =
        subst (λ (d : ℕ). AreSettledAt old g marks d) (sym e) (subst (λ (b : BoundsState). AreSettledAt b g marks n) (h.same refl) (settled w refl))
    place w c (inr lt) = h.settled w refl c lt
