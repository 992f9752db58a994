-- Numbering goes on by one base form.
use Rattle.std.proofs.Common.{ℕ, suc, ◌+◌, ◌*◌, ◌/◌, ◌%◌, ◌<◌, ◌≡◌, ◌≢◌, ◌==◌, ◌⊎◌, inl, inr, true, false, List, [], ◌∷◌, ◌++◌, length, slice_index, refl, ap, sym, ◌∙◌, subst, arith, if◌then◌else◌, length-append}
use native.Mathlib.Decide.{ℕ_discrete}
use Rattle.std.proofs.Math.ListN.{get_or-append}
use Rattle.std.proofs.Math.Seq.{get_or-append_seam}
use Rattle.lw_laws.specs.Graphs.{AreNumberedFrom, pair_count}
use Rattle.lw_reduce.specs.ClassNumbers.{AreClasses}
use Rattle.lw_reduce.specs.Representatives.{IsLower, rep_of, in_phase}
use Rattle.lw_reduce.proofs.RepLemmas.{half-in_phase}
use Rattle.lw_reduce.proofs.RepSteps.{in_phase_double, half_double}

pub rep_of-double : (forms : List ℕ) (k : ℕ) → rep_of forms (2 * k) ≡ slice_index forms k
rep_of-double forms k =
    in_phase_double k (slice_index forms (2 * k / 2)) ∙ ap (slice_index forms) (half_double k)

pub count_here : (next c : ℕ) → c ≡ 2 * next → (if c == 2 * next then suc next else next) ≡ suc next
count_here next c e =
    let t : (c == 2 * next) ≡ true = grind (arith, e) in ap (λ b. if b then suc next else next) t

pub count_there : (next c : ℕ) → c / 2 < next → (if c == 2 * next then suc next else next) ≡ next
count_there next c l =
    let ne : c ≢ 2 * next = λ e. omega arith in
    let t : (c == 2 * next) ≡ false = grind (arith, ne) in
    ap (λ b. if b then suc next else next) t

-- one more class
pub count_more : (next : ℕ) (cs : List ℕ) (c : ℕ) → pair_count next (cs ++ c ∷ []) ≡ (if c == 2 * pair_count next cs then suc (pair_count next cs) else pair_count next cs)
count_more next [] c = refl
count_more next (d ∷ cs) c = count_more (if d == 2 * next then suc next else next) cs c

pub numbered_more : (next : ℕ) (cs : List ℕ) (c : ℕ) → AreNumberedFrom next cs → (c ≡ 2 * pair_count next cs) ⊎ (c / 2 < pair_count next cs) → AreNumberedFrom next (cs ++ c ∷ [])
numbered_more next [] c n (inl e) = inl (e, tt)
numbered_more next [] c n (inr l) = inr (l, tt)
numbered_more next (d ∷ cs) c (inl (e, n)) h =
    inl (e, numbered_more (suc next) cs c n (subst (λ m. (c ≡ 2 * pair_count m cs) ⊎ (c / 2 < pair_count m cs)) (count_here next d e) h))
numbered_more next (d ∷ cs) c (inr (l, n)) h =
    inr (l, numbered_more next cs c n (subst (λ m. (c ≡ 2 * pair_count m cs) ⊎ (c / 2 < pair_count m cs)) (count_there next d l) h))

module _ (reps forms : List ℕ) (lower : IsLower reps) (lt : length forms < length reps) (are : AreClasses reps forms) (c : ℕ) where
  length-new : length (forms ++ c ∷ []) ≡ length forms + 1
  length-new = length-append forms (c ∷ []) ∙ refl

  -- earlier base forms keep their classes
  old : (k : ℕ) → k < length forms → slice_index (forms ++ c ∷ []) k ≡ slice_index forms k
  old k l = get_or-append forms (c ∷ []) 0 k l

  last : slice_index (forms ++ c ∷ []) (length forms) ≡ c
  last = get_or-append_seam forms c [] 0

  same_rep : (x : ℕ) → x / 2 < length forms → rep_of (forms ++ c ∷ []) x ≡ rep_of forms x
  same_rep x l = ap (in_phase x) (old (x / 2) l)

  rep_below : (k : ℕ) → k < length forms → slice_index reps k / 2 < length forms
  rep_below k l = by_case (lower k (omega arith))
    where
      by_case : (slice_index reps k ≡ 2 * k) ⊎ (slice_index reps k / 2 < k) → slice_index reps k / 2 < length forms
      by_case (inl e) = let h : slice_index reps k / 2 ≡ 2 * k / 2 = ap (λ m. m / 2) e in omega arith
      by_case (inr m) = omega arith

  by_rep_old : (k : ℕ) → k < length forms → slice_index (forms ++ c ∷ []) k ≡ rep_of (forms ++ c ∷ []) (slice_index reps k)
  by_rep_old k l = old k l ∙ (are.by_rep k l ∙ sym (same_rep (slice_index reps k) (rep_below k l)))

  -- what holds of the new base form and of those before it holds of all
  at_each : (P : ℕ → Type 0) → P (length forms) → ((k : ℕ) → k < length forms → P k) → (k : ℕ) → k < length (forms ++ c ∷ []) → P k
  at_each P here before k l = by_place (ℕ_discrete k (length forms))
    where
      by_place : Dec (k ≡ length forms) → P k
      by_place (yes e) = subst P (sym e) here
      by_place (no ne) = before k (let m = length-new in omega arith)

  -- a base form that is its own representative
  module _ (root : slice_index reps (length forms) ≡ 2 * length forms) (next : c ≡ 2 * pair_count 0 forms) where
    count_root : pair_count 0 (forms ++ c ∷ []) ≡ suc (pair_count 0 forms)
    count_root = count_more 0 forms c ∙ count_here (pair_count 0 forms) c next

    pub classes_root : AreClasses reps (forms ++ c ∷ [])
    classes_root = record {
      numbered = numbered_more 0 forms c are.numbered (inl next);
      few = let n = count_root in let l = length-new in let f = are.few in omega arith;
      below = at_each (λ k. slice_index (forms ++ c ∷ []) k / 2 < pair_count 0 (forms ++ c ∷ []))
          (let n = count_root in let h : slice_index (forms ++ c ∷ []) (length forms) / 2 ≡ c / 2 = ap (λ m. m / 2) last in omega arith)
          (λ k l. let n = count_root in let h : slice_index (forms ++ c ∷ []) k / 2 ≡ slice_index forms k / 2 = ap (λ m. m / 2) (old k l) in let f = are.below k l in omega arith);
      by_rep = at_each (λ k. slice_index (forms ++ c ∷ []) k ≡ rep_of (forms ++ c ∷ []) (slice_index reps k)) (sym (ap (rep_of (forms ++ c ∷ [])) root ∙ rep_of-double (forms ++ c ∷ []) (length forms))) by_rep_old;
      even = at_each (λ k. slice_index reps k ≡ 2 * k → slice_index (forms ++ c ∷ []) k % 2 ≡ 0) (λ r. ap (λ m. m % 2) (last ∙ next) ∙ (omega arith)) (λ k l r. ap (λ m. m % 2) (old k l) ∙ are.even k l r);
      rising = λ j k less l d e. at_each (λ k. j < k → slice_index reps k ≡ 2 * k → slice_index (forms ++ c ∷ []) j < slice_index (forms ++ c ∷ []) k) (newest j d) (λ k l less e. rw (old j (omega arith), old k l) (are.rising j k less l d e)) k l less e;
    }
      where
        newest : (j : ℕ) → slice_index reps j ≡ 2 * j → j < length forms → slice_index reps (length forms) ≡ 2 * length forms → slice_index (forms ++ c ∷ []) j < slice_index (forms ++ c ∷ []) (length forms)
        newest j d less e =
            let f = are.below j less in
            let a = old j less in
            let z = last in
            omega arith

  -- a base form with the representative of a lower one
  module _ (low : slice_index reps (length forms) / 2 < length forms) (is : c ≡ rep_of forms (slice_index reps (length forms))) where
    class_low : c / 2 < pair_count 0 forms
    class_low =
        let x = slice_index reps (length forms) in
        let h : c / 2 ≡ slice_index forms (x / 2) / 2 = ap (λ m. m / 2) is ∙ half-in_phase x (slice_index forms (x / 2)) in
        let f = are.below (x / 2) low in
        omega arith

    count_low : pair_count 0 (forms ++ c ∷ []) ≡ pair_count 0 forms
    count_low = count_more 0 forms c ∙ count_there (pair_count 0 forms) c class_low

    no_root : slice_index reps (length forms) ≡ 2 * length forms → ⊥
    no_root r = let h : slice_index reps (length forms) / 2 ≡ 2 * length forms / 2 = ap (λ m. m / 2) r in omega arith

    pub classes_low : AreClasses reps (forms ++ c ∷ [])
    classes_low = record {
      numbered = numbered_more 0 forms c are.numbered (inr class_low);
      few = let n = count_low in let l = length-new in let f = are.few in omega arith;
      below = at_each (λ k. slice_index (forms ++ c ∷ []) k / 2 < pair_count 0 (forms ++ c ∷ []))
          (let n = count_low in let h : slice_index (forms ++ c ∷ []) (length forms) / 2 ≡ c / 2 = ap (λ m. m / 2) last in let f = class_low in omega arith)
          (λ k l. let n = count_low in let h : slice_index (forms ++ c ∷ []) k / 2 ≡ slice_index forms k / 2 = ap (λ m. m / 2) (old k l) in let f = are.below k l in omega arith);
      by_rep = at_each (λ k. slice_index (forms ++ c ∷ []) k ≡ rep_of (forms ++ c ∷ []) (slice_index reps k)) (last ∙ (is ∙ sym (same_rep (slice_index reps (length forms)) low))) by_rep_old;
      even = at_each (λ k. slice_index reps k ≡ 2 * k → slice_index (forms ++ c ∷ []) k % 2 ≡ 0) (λ r. absurd (no_root r)) (λ k l r. ap (λ m. m % 2) (old k l) ∙ are.even k l r);
      rising = λ j k less l d e. at_each (λ k. j < k → slice_index reps k ≡ 2 * k → slice_index (forms ++ c ∷ []) j < slice_index (forms ++ c ∷ []) k) (λ less e. absurd (no_root e)) (λ k l less e. rw (old j (omega arith), old k l) (are.rising j k less l d e)) k l less e;
    }

-- the same at the place that a loop has come to
module _ (reps forms new : List ℕ) (lower : IsLower reps) (base c : ℕ) (lt : base < length reps) (count : length forms ≡ base) (are : AreClasses reps forms) (set : new ≡ forms ++ c ∷ []) where
  lt' : length forms < length reps
  lt' = omega arith

  pub number_root : (pairs : ℕ) → slice_index reps base ≡ base * 2 → pairs ≡ pair_count 0 forms → c ≡ pairs * 2 → AreClasses reps new × (pairs + 1 ≡ pair_count 0 new)
  number_root pairs root is e =
      let r : slice_index reps (length forms) ≡ 2 * length forms = ap (slice_index reps) count ∙ (root ∙ (omega arith)) in
      let n : c ≡ 2 * pair_count 0 forms = omega arith in
      let k = count_more 0 forms c ∙ count_here (pair_count 0 forms) c n in
      (subst (AreClasses reps) (sym set) (classes_root reps forms lower lt' are c r n), sym (ap (pair_count 0) set ∙ (k ∙ (omega arith))))

  pub number_low : (pairs : ℕ) → slice_index reps base ≢ base * 2 → pairs ≡ pair_count 0 forms → c ≡ rep_of forms (slice_index reps base) → AreClasses reps new × (pairs ≡ pair_count 0 new)
  number_low pairs ne is e =
      let l : slice_index reps (length forms) / 2 < length forms = by_case (lower base lt) in
      let n : c ≡ rep_of forms (slice_index reps (length forms)) = e ∙ ap (λ b. rep_of forms (slice_index reps b)) (sym count) in
      let k = count_more 0 forms c ∙ count_there (pair_count 0 forms) c (class_low reps forms lower lt' are c l n) in
      (subst (AreClasses reps) (sym set) (classes_low reps forms lower lt' are c l n), is ∙ sym (ap (pair_count 0) set ∙ k))
    where
      by_case : (slice_index reps base ≡ 2 * base) ⊎ (slice_index reps base / 2 < base) → slice_index reps (length forms) / 2 < length forms
      by_case (inl s) = absurd (ne (omega arith))
      by_case (inr m) =
          let h : slice_index reps (length forms) / 2 ≡ slice_index reps base / 2 = ap (λ b. slice_index reps b / 2) count in
          omega arith
