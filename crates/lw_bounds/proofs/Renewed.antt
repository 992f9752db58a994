-- What a table is once the numbers of a class were renewed or forgotten.
use Rattle.std.proofs.Common.{ℕ, ◌≡◌, ◌+◌, ◌<◌, ◌≤◌, Bool, true, false, cond, nat_eq, List, length, Option, slice_index, refl, sym, ap, subst, ◌∙◌, arith}
use Rattle.lw_laws.specs.Graphs.{Graph}
use Rattle.lw_cost.specs.declared.mark.Mark.{Mark}
use Rattle.lw_bounds.specs.Numbers.{never, number_from, no_row}
use Rattle.lw_bounds.specs.Bounds.{BoundsState, AreLowered, AreRowsBut, AreSettledAt, IsRowRenewed, IsTableBut, bounds_reading, total, with_numbers}

pub record IsRenewed (g : Graph) (marks : List (Option Mark)) (c : ℕ) (fell : Bool) (v : BoundsState) (numbers : List ℕ) (old : BoundsState) : Type 0 where
  pub falls : fell ≡ true → total numbers < total old.numbers
  pub same : fell ≡ false → with_numbers v numbers ≡ old
  pub settled : fell ≡ false → AreSettledAt old g marks c
  pub never_rises : total numbers ≤ total old.numbers
  pub others : IsTableBut (λ d. d ≡ c) old (with_numbers v numbers)
  pub lowered : AreLowered g (bounds_reading old g marks) old.parts numbers c

module _ (g : Graph) (marks : List (Option Mark)) (c : ℕ) (fell : Bool) (v : BoundsState) (numbers new : List ℕ) where
  renewed_itself : numbers ≡ new → IsRowRenewed g (bounds_reading v g marks) v.parts new c fell → IsRenewed g marks c fell v numbers v
  renewed_itself is i = record {
    falls = λ e. subst (λ ns. total ns < total v.numbers) (sym is) (i.falls e);
    same = λ e. ap (with_numbers v) (is ∙ i.same e);
    settled = λ e k lt p x y at holds. subst (λ ns. AreLowered g (bounds_reading v g marks) v.parts ns c) (i.same e) i.lowered k p x y at holds;
    never_rises = no_more fell refl;
    others = record {
      table = refl;
      size = ap length is ∙ i.size;
      others = subst (AreRowsBut (length v.parts) v.starts (λ d. d ≡ c) v.numbers) (sym is) i.others;
    };
    lowered = subst (λ ns. AreLowered g (bounds_reading v g marks) v.parts ns c) (sym is) i.lowered;
  }
    where
      no_more : (b : Bool) → fell ≡ b → total numbers ≤ total v.numbers
      no_more true e = let lt = i.falls e in let same = ap total is in omega arith
      no_more false e = let same = ap total (is ∙ i.same e) in omega arith

  pub renewed : (old : BoundsState) → v ≡ old → numbers ≡ new → IsRowRenewed g (bounds_reading v g marks) v.parts new c fell → IsRenewed g marks c fell v numbers old
  renewed old view_is is i =
      subst (IsRenewed g marks c fell v numbers) view_is (renewed_itself is i)

-- other numbers but for those of the class
pub other_numbers : (c : ℕ) (v old : BoundsState) (numbers : List ℕ) → v ≡ old → length numbers ≡ length v.numbers → AreRowsBut (length v.parts) v.starts (λ d. d ≡ c) v.numbers numbers → IsTableBut (λ d. d ≡ c) old (with_numbers v numbers)
other_numbers c v old numbers view_is size others =
    subst (λ b. IsTableBut (λ d. d ≡ c) b (with_numbers v numbers)) view_is (record { table = refl; size = size; others = others })

pub never_from : (numbers : List ℕ) (n start : ℕ) → slice_index numbers (start + n) ≡ never → number_from numbers n start ≡ never
never_from numbers n start e = by_test (nat_eq start no_row)
  where
    by_test : (t : Bool) → cond t never (slice_index numbers (start + n)) ≡ never
    by_test true = refl
    by_test false = e
