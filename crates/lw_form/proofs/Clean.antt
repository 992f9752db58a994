-- The And of forms that are not true, differ and don't clash.
use Rattle.std.proofs.Common.{◌≡◌, ◌<◌, ◌≤◌, ℕ, zero, suc, Bool, true, false, leb, List, [], ◌∷◌, length, map, take, drop, refl, ap, sym, ◌∙◌, arith, leb-true, leb-false, length-drop}
use Rattle.std.proofs.lemmas.Bool.{le-leb}
use Rattle.std.proofs.lemmas.List.{length-map}
use Rattle.lw_laws.specs.Forms.{Form, and_of, kept, has_clash, runs, runs_within, joined, joined_many, conjunction}
use Rattle.lw_laws.specs.Forms.Form.{true_form, not_form}
use Rattle.lw_laws.proofs.Normal.{conjunction_step, kept_are_distinct, take_sub, drop_sub, run_count}
use Rattle.lw_laws.proofs.Sublists.{distinct_sub, clash_sub, kept_distinct}
use Rattle.lw_form.specs.Conjunctions.{AreClean}

-- what is left of forms, where they don't clash
pub kept_clean : (fs : List Form) → has_clash (kept fs) ≡ false → AreClean (kept fs)
kept_clean fs e = record { distinct = kept_are_distinct fs; clashless = e }

pub clean_take : (n : ℕ) (fs : List Form) → AreClean fs → AreClean (take n fs)
clean_take n fs c = record { distinct = distinct_sub (take_sub n fs) c.distinct; clashless = clash_sub (take_sub n fs) c.clashless }

pub clean_drop : (n : ℕ) (fs : List Form) → AreClean fs → AreClean (drop n fs)
clean_drop n fs c = record { distinct = distinct_sub (drop_sub n fs) c.distinct; clashless = clash_sub (drop_sub n fs) c.clashless }

module _ (width : ℕ) (wide : 2 ≤ width) where
  again : List Form → Form
  again hs = conjunction width hs

  -- the And of clean forms
  clean_step : (fs : List Form) → AreClean fs → conjunction width fs ≡ joined (conjunction width) width fs false
  clean_step fs c = conjunction_step 0 width wide fs ∙ (ap (λ hs. joined (conjunction width) width hs (has_clash hs)) (kept_distinct fs c.distinct) ∙ ap (λ t. joined (conjunction width) width fs t) c.clashless)

  pub clean_one : (f : Form) → AreClean (f ∷ []) → conjunction width (f ∷ []) ≡ f
  clean_one f c = clean_step (f ∷ []) c

  pub clean_few : (fs : List Form) → AreClean fs → 2 ≤ length fs → length fs ≤ width → conjunction width fs ≡ and_of fs
  clean_few [] c two few = absurd (omega arith)
  clean_few (f ∷ []) c two few = absurd (omega arith)
  clean_few (f ∷ h ∷ fs) c two few = clean_step (f ∷ h ∷ fs) c ∙ ap (joined_many (conjunction width) width (f ∷ h ∷ fs)) (le-leb (length (f ∷ h ∷ fs)) width few)

  -- an And of forms in terms of those that are kept
  pub of_clash : (fs : List Form) → has_clash (kept fs) ≡ true → conjunction width fs ≡ not_form true_form
  of_clash fs e = conjunction_step 0 width wide fs ∙ ap (λ t. joined (conjunction width) width (kept fs) t) e

  pub of_none : (fs : List Form) → kept fs ≡ [] → conjunction width fs ≡ true_form
  of_none fs e = conjunction_step 0 width wide fs ∙ ap (λ hs. joined (conjunction width) width hs (has_clash hs)) e

  pub of_kept : (fs : List Form) → conjunction width (kept fs) ≡ conjunction width fs
  of_kept fs = conjunction_step 0 width wide (kept fs) ∙ (ap (λ hs. joined (conjunction width) width hs (has_clash hs)) (kept_distinct (kept fs) (kept_are_distinct fs)) ∙ sym (conjunction_step 0 width wide fs))

  many : (fs : List Form) → width < length fs → joined (conjunction width) width fs false ≡ conjunction width (map (conjunction width) (runs width fs))
  many [] lt = absurd (omega arith)
  many (f ∷ []) lt = absurd (omega arith)
  many (f ∷ h ∷ fs) lt = ap (joined_many (conjunction width) width (f ∷ h ∷ fs)) (not_leb (leb (length (f ∷ h ∷ fs)) width) refl) where
    not_leb : (t : Bool) → leb (length (f ∷ h ∷ fs)) width ≡ t → t ≡ false
    not_leb true e = let le = leb-true (length (f ∷ h ∷ fs)) width e in absurd (omega arith)
    not_leb false e = refl

  pub of_runs : (fs : List Form) → has_clash (kept fs) ≡ false → width < length (kept fs) → conjunction width (map (conjunction width) (runs width (kept fs))) ≡ conjunction width fs
  of_runs fs e lt = sym (conjunction_step 0 width wide fs ∙ (ap (λ t. joined (conjunction width) width (kept fs) t) e ∙ many (kept fs) lt))

  -- the runs of a list
  runs_same : (n m : ℕ) (fs : List Form) → length fs ≤ n → length fs ≤ m → 1 ≤ n → 1 ≤ m → runs_within n width fs ≡ runs_within m width fs
  runs_same zero m fs ln lm pn pm = absurd (omega arith)
  runs_same (suc n) zero fs ln lm pn pm = absurd (omega arith)
  runs_same (suc n) (suc m) fs ln lm pn pm = by_test (leb (length fs) width) refl (λ a b c d. runs_same n m (drop width fs) a b c d) where
    by_test : (t : Bool) → leb (length fs) width ≡ t → (length (drop width fs) ≤ n → length (drop width fs) ≤ m → 1 ≤ n → 1 ≤ m → runs_within n width (drop width fs) ≡ runs_within m width (drop width fs)) → elim t as (λ x. List (List Form)) [ true ↦ fs ∷ [] | false ↦ take width fs ∷ runs_within n width (drop width fs) ] ≡ elim t [ true ↦ fs ∷ [] | false ↦ take width fs ∷ runs_within m width (drop width fs) ]
    by_test true s ih = refl
    by_test false s ih =
        let more = leb-false (length fs) width s in
        let left = length-drop width fs in
        ap (λ l. take width fs ∷ l) (ih (omega arith) (omega arith) (omega arith) (omega arith))

  pub runs_last : (fs : List Form) → 1 ≤ length fs → length fs ≤ width → runs width fs ≡ fs ∷ []
  runs_last [] some few = absurd (omega arith)
  runs_last (f ∷ fs) some few = ap (λ t. elim t as (λ x. List (List Form)) [ true ↦ (f ∷ fs) ∷ [] | false ↦ take width (f ∷ fs) ∷ runs_within (length fs) width (drop width (f ∷ fs)) ]) (le-leb (length (f ∷ fs)) width few)

  pub runs_more : (fs : List Form) → width < length fs → runs width fs ≡ take width fs ∷ runs width (drop width fs)
  runs_more [] lt = absurd (omega arith)
  runs_more (f ∷ fs) lt =
      ap (λ t. elim t as (λ x. List (List Form)) [ true ↦ (f ∷ fs) ∷ [] | false ↦ take width (f ∷ fs) ∷ runs_within (length fs) width (drop width (f ∷ fs)) ]) (not_leb (leb (length (f ∷ fs)) width) refl)
      ∙ ap (λ l. take width (f ∷ fs) ∷ l) (let left = length-drop width (f ∷ fs) in runs_same (length fs) (length (drop width (f ∷ fs))) (drop width (f ∷ fs)) (omega arith) (omega arith) (omega arith) (omega arith))
    where
      not_leb : (t : Bool) → leb (length (f ∷ fs)) width ≡ t → t ≡ false
      not_leb true e = let le = leb-true (length (f ∷ fs)) width e in absurd (omega arith)
      not_leb false e = refl

  pub fewer_runs : (fs : List Form) → width < length fs → length (map (conjunction width) (runs width fs)) < length fs
  fewer_runs fs lt = let e = length-map (runs width fs) (conjunction width) in let c = run_count width wide (length fs) fs in omega arith
