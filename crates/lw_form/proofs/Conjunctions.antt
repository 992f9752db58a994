-- The And of forms by its steps.
use Rattle.std.proofs.Common.{◌≡◌, ◌+◌, ◌*◌, ◌/◌, ◌%◌, ◌==◌, ◌<◌, ◌≤◌, ℕ, zero, suc, Bool, true, false, ◌||◌, cond, if◌then◌else◌, List, [], ◌∷◌, ◌++◌, length, map, drop, Some, slice_get, get_or, refl, ap, ap₂, sym, ◌∙◌, subst, arith, append_assoc, append-nil, eqb-true, eq-eqb, bit_xor}
use Rattle.std.specs.List.{list_any}
use Rattle.std.proofs.lemmas.List.{at_drop_more}
use Rattle.lw_facts.proofs.Numbers.{eq_turned}
use Rattle.lw_facts.proofs.Tests.{same_tests}
use Rattle.indexmap.specs.IndexSet.{insert_key}
use Rattle.lw_laws.specs.Flip.{flip}
use Rattle.lw_laws.specs.Forms.{Form, same_form, is_among, complement, without, kept, has_clash}
use Rattle.lw_laws.specs.Forms.Form.{var_form, true_form, not_form, and_form}
use Rattle.lw_laws.specs.Listings.{sign_of}
use Rattle.lw_laws.specs.SignalValues.{form_of}
use Rattle.lw_laws.proofs.Flips.{xor-one, half-flip, flip_even, flip_odd}
use Rattle.lw_laws.proofs.Equality.{same_form_refl, same_form_eq}
use Rattle.lw_form.specs.Tables.{AreBelow, forms_at, AreMade}
use Rattle.lw_form.specs.Conjunctions.{without_number, kept_numbers, numbers_clash}
use Rattle.lw_form.proofs.Tables.{same_number}

-- the steps over numbers are those over forms

below_without : (n f : ℕ) (ids : List ℕ) → AreBelow n ids → AreBelow n (without_number f ids)
below_without n f [] a = tt
below_without n f (h ∷ ids) (p, a) = by_test (f == h) (below_without n f ids a) where
  by_test : (t : Bool) → AreBelow n (without_number f ids) → AreBelow n (cond t (without_number f ids) (h ∷ without_number f ids))
  by_test true b = b
  by_test false b = (p, b)

pub below_kept : (n : ℕ) (ids : List ℕ) → AreBelow n ids → AreBelow n (kept_numbers ids)
below_kept n [] a = tt
below_kept n (f ∷ ids) (p, a) = by_test (f == 0) (below_kept n ids a) where
  by_test : (t : Bool) → AreBelow n (kept_numbers ids) → AreBelow n (cond t (kept_numbers ids) (f ∷ without_number f (kept_numbers ids)))
  by_test true b = b
  by_test false b = (p, below_without n f (kept_numbers ids) b)

module _ (forms : List Form) (are : AreMade forms) where
  same_numbers_test : (a b : ℕ) → a / 2 < length forms → b / 2 < length forms → same_form (form_of forms a) (form_of forms b) ≡ (a == b)
  same_numbers_test a b la lb =
      same_tests (same_form (form_of forms a) (form_of forms b)) (a == b) (λ e. eq-eqb a b (same_number forms are a b la lb (same_form_eq (form_of forms a) (form_of forms b) e)))
      (λ e. subst (λ n. same_form (form_of forms a) (form_of forms n) ≡ true) (eqb-true a b e) (same_form_refl (form_of forms a)))

  pub zero_below : 0 / 2 < length forms
  zero_below = first_in forms true_form are.first where
    first_in : (xs : List Form) (f : Form) → slice_get xs 0 ≡ Some f → 0 / 2 < length xs
    first_in [] f e = cc
    first_in (x ∷ xs) f e = omega arith

  pub true_number : form_of forms 0 ≡ true_form
  true_number = read forms are.first where
    read : (xs : List Form) → slice_get xs 0 ≡ Some true_form → get_or xs 0 true_form ≡ true_form
    read [] e = refl
    read (x ∷ xs) e = cc

  pub false_number : form_of forms 1 ≡ not_form true_form
  false_number = read forms are.first where
    read : (xs : List Form) → slice_get xs 0 ≡ Some true_form → complement (get_or xs 0 true_form) ≡ not_form true_form
    read [] e = refl
    read (x ∷ xs) e = let same : x ≡ true_form = cc in ap complement same

  without_forms : (f : ℕ) (ids : List ℕ) → f / 2 < length forms → AreBelow (length forms) ids → forms_at forms (without_number f ids) ≡ without (form_of forms f) (forms_at forms ids)
  without_forms f [] lf a = refl
  without_forms f (h ∷ ids) lf (p, a) = by_test (f == h) (same_form (form_of forms f) (form_of forms h)) (sym (same_numbers_test f h lf p)) (without_forms f ids lf a) where
    by_test : (s t : Bool) → s ≡ t → forms_at forms (without_number f ids) ≡ without (form_of forms f) (forms_at forms ids) → forms_at forms (cond s (without_number f ids) (h ∷ without_number f ids)) ≡ cond t (without (form_of forms f) (forms_at forms ids)) (form_of forms h ∷ without (form_of forms f) (forms_at forms ids))
    by_test true true e ih = ih
    by_test false false e ih = ap (λ l. form_of forms h ∷ l) ih
    by_test true false e ih = cc
    by_test false true e ih = cc

  pub kept_forms : (ids : List ℕ) → AreBelow (length forms) ids → forms_at forms (kept_numbers ids) ≡ kept (forms_at forms ids)
  kept_forms [] a = refl
  kept_forms (f ∷ ids) (p, a) = by_test (f == 0) (same_form (form_of forms f) true_form) test (kept_forms ids a) where
    test : (f == 0) ≡ same_form (form_of forms f) true_form
    test = sym (same_numbers_test f 0 p zero_below) ∙ ap (same_form (form_of forms f)) true_number

    by_test : (s t : Bool) → s ≡ t → forms_at forms (kept_numbers ids) ≡ kept (forms_at forms ids) → forms_at forms (cond s (kept_numbers ids) (f ∷ without_number f (kept_numbers ids))) ≡ cond t (kept (forms_at forms ids)) (form_of forms f ∷ without (form_of forms f) (kept (forms_at forms ids)))
    by_test true true e ih = ih
    by_test false false e ih = ap (λ l. form_of forms f ∷ l) (without_forms f (kept_numbers ids) p (below_kept (length forms) ids a) ∙ ap (without (form_of forms f)) ih)
    by_test true false e ih = cc
    by_test false true e ih = cc

  -- the form of the other number is the complement
  pub complement_of : (f : ℕ) → f / 2 < length forms → form_of forms (bit_xor f 1) ≡ complement (form_of forms f)
  complement_of f lt = ap (form_of forms) (xor-one f) ∙ by_rest (f % 2) refl where
    g : Form
    g = get_or forms (f / 2) true_form

    sign : sign_of g ≡ 0
    sign = are.signs (f / 2) g (read forms (f / 2) lt) where
      read : (xs : List Form) (k : ℕ) → k < length xs → slice_get xs k ≡ Some (get_or xs k true_form)
      read [] k lt = absurd (omega arith)
      read (x ∷ xs) zero lt = refl
      read (x ∷ xs) (suc k) lt = read xs k (omega arith)

    signed : ℕ → ℕ → Form
    signed k b = if k == 0 then get_or forms b true_form else complement (get_or forms b true_form)

    twice : (h : Form) → sign_of h ≡ 0 → complement (complement h) ≡ h
    twice (var_form i) z = refl
    twice true_form z = refl
    twice (not_form h) z = absurd (omega arith)
    twice (and_form fs) z = refl

    by_rest : (k : ℕ) → f % 2 ≡ k → form_of forms (flip f) ≡ complement (form_of forms f)
    by_rest zero e =
        let even : f ≡ 2 * (f / 2) = omega arith in
        let other = flip_even f (f / 2) even in
        let rest : flip f % 2 ≡ 1 = omega arith in
        let half : flip f / 2 ≡ f / 2 = half-flip f in
        ap₂ signed rest half ∙ sym (ap complement (ap (λ k. signed k (f / 2)) e))
    by_rest (suc zero) e =
        let odd : f ≡ 2 * (f / 2) + 1 = omega arith in
        let other = flip_odd f (f / 2) odd in
        let rest : flip f % 2 ≡ 0 = omega arith in
        let half : flip f / 2 ≡ f / 2 = half-flip f in
        ap₂ signed rest half ∙ (sym (twice g sign) ∙ sym (ap complement (ap (λ k. signed k (f / 2)) e)))
    by_rest (suc (suc k)) e = absurd (omega arith)

  any_same : (f : ℕ) (ids : List ℕ) → f / 2 < length forms → AreBelow (length forms) ids → list_any (λ h. f == h) ids ≡ is_among (form_of forms f) (forms_at forms ids)
  any_same f [] lf a = refl
  any_same f (h ∷ ids) lf (p, a) = ap₂ (λ s t. s || t) (sym (same_numbers_test f h lf p)) (any_same f ids lf a)

  pub clash_forms : (ids : List ℕ) → AreBelow (length forms) ids → numbers_clash ids ≡ has_clash (forms_at forms ids)
  clash_forms ids a = ap₂ (λ s t. s || t) (any_same 1 ids zero_below a ∙ ap (λ f. is_among f (forms_at forms ids)) false_number) (each ids a) where
    each : (fs : List ℕ) → AreBelow (length forms) fs → list_any (λ f. list_any (λ h. bit_xor f 1 == h) ids) fs ≡ list_any (λ f. is_among (complement f) (forms_at forms ids)) (forms_at forms fs)
    each [] b = refl
    each (f ∷ fs) (p, b) =
        let half : bit_xor f 1 / 2 ≡ f / 2 = ap (λ n. n / 2) (xor-one f) ∙ half-flip f in
        ap₂ (λ s t. s || t) (any_same (bit_xor f 1) ids (omega arith) a ∙ ap (λ g. is_among g (forms_at forms ids)) (complement_of f p)) (each fs b)

  pub complements : (ids : List ℕ) → AreBelow (length forms) ids → forms_at forms (map (λ f. bit_xor f 1) ids) ≡ map complement (forms_at forms ids)
  complements [] a = refl
  complements (f ∷ ids) (p, a) = ap₂ (λ x xs. x ∷ xs) (complement_of f p) (complements ids a)

-- the numbers that are kept so far, and those that are kept of the rest

abbrev fresh : List ℕ → List ℕ → List ℕ
fresh seen [] = []
fresh seen (f ∷ fs) = cond (list_any (λ h. f == h) seen) (fresh seen fs) (f ∷ fresh seen fs)

any_last : (f g : ℕ) (seen : List ℕ) → list_any (λ h. f == h) (seen ++ g ∷ []) ≡ (list_any (λ h. f == h) seen || (f == g))
any_last f g [] = or_nil (f == g) where
  or_nil : (a : Bool) → (a || false) ≡ (false || a)
  or_nil true = refl
  or_nil false = refl
any_last f g (h ∷ seen) = ap (λ t. (f == h) || t) (any_last f g seen) ∙ assoc (f == h) (list_any (λ h. f == h) seen) (f == g) where
  assoc : (a b c : Bool) → (a || (b || c)) ≡ ((a || b) || c)
  assoc true b c = refl
  assoc false b c = refl

-- what was seen is not kept again
fresh_seen : (seen : List ℕ) (f : ℕ) (fs : List ℕ) → list_any (λ h. f == h) seen ≡ true → fresh seen (without_number f fs) ≡ fresh seen fs
fresh_seen seen f [] s = refl
fresh_seen seen f (g ∷ fs) s = by_test (f == g) refl (fresh_seen seen f fs s) where
  by_test : (t : Bool) → (f == g) ≡ t → fresh seen (without_number f fs) ≡ fresh seen fs → fresh seen (cond t (without_number f fs) (g ∷ without_number f fs)) ≡ cond (list_any (λ h. g == h) seen) (fresh seen fs) (g ∷ fresh seen fs)
  by_test true e ih = ih ∙ sym (ap (λ t. cond t (fresh seen fs) (g ∷ fresh seen fs)) (subst (λ n. list_any (λ h. n == h) seen ≡ true) (eqb-true f g e) s))
  by_test false e ih = ap (λ l. cond (list_any (λ h. g == h) seen) l (g ∷ l)) ih

fresh_last : (seen : List ℕ) (f : ℕ) (fs : List ℕ) → fresh (seen ++ f ∷ []) fs ≡ fresh seen (without_number f fs)
fresh_last seen f [] = refl
fresh_last seen f (g ∷ fs) = ap (λ t. cond t (fresh (seen ++ f ∷ []) fs) (g ∷ fresh (seen ++ f ∷ []) fs)) (any_last g f seen ∙ ap (λ t. list_any (λ h. g == h) seen || t) (eq_turned g f)) ∙ by_test (f == g) (list_any (λ h. g == h) seen) refl (fresh_last seen f fs) where
  by_test : (t s : Bool) → list_any (λ h. g == h) seen ≡ s → fresh (seen ++ f ∷ []) fs ≡ fresh seen (without_number f fs) → cond (s || t) (fresh (seen ++ f ∷ []) fs) (g ∷ fresh (seen ++ f ∷ []) fs) ≡ fresh seen (cond t (without_number f fs) (g ∷ without_number f fs))
  by_test true true e ih = ih
  by_test true false e ih = ih
  by_test false true e ih = ih ∙ sym (ap (λ t. cond t (fresh seen (without_number f fs)) (g ∷ fresh seen (without_number f fs))) e)
  by_test false false e ih = ap (λ l. g ∷ l) ih ∙ sym (ap (λ t. cond t (fresh seen (without_number f fs)) (g ∷ fresh seen (without_number f fs))) e)

fresh_none : (fs : List ℕ) → fresh [] fs ≡ fs
fresh_none [] = refl
fresh_none (f ∷ fs) = ap (λ l. f ∷ l) (fresh_none fs)

-- one more number is looked at
fresh_step : (seen : List ℕ) (f : ℕ) (fs : List ℕ) → (f ≡ 0 → ⊥) → insert_key (λ a b. a == b) seen f ++ fresh (insert_key (λ a b. a == b) seen f) (kept_numbers fs) ≡ seen ++ fresh seen (kept_numbers (f ∷ fs))
fresh_step seen f fs ne = by_zero (f == 0) (not_zero (f == 0) refl) where
  not_zero : (t : Bool) → (f == 0) ≡ t → t ≡ false
  not_zero true e = absurd (ne (eqb-true f 0 e))
  not_zero false e = refl

  by_test : (t : Bool) → list_any (λ h. f == h) seen ≡ t → cond t seen (seen ++ f ∷ []) ++ fresh (cond t seen (seen ++ f ∷ [])) (kept_numbers fs) ≡ seen ++ fresh seen (f ∷ without_number f (kept_numbers fs))
  by_test true e = ap (λ l. seen ++ l) (sym (ap (λ t. cond t (fresh seen (without_number f (kept_numbers fs))) (f ∷ fresh seen (without_number f (kept_numbers fs)))) e ∙ fresh_seen seen f (kept_numbers fs) e))
  by_test false e = append_assoc seen (f ∷ []) (fresh (seen ++ f ∷ []) (kept_numbers fs)) ∙ ap (λ l. seen ++ l) (ap (λ l. f ∷ l) (fresh_last seen f (kept_numbers fs)) ∙ sym (ap (λ t. cond t (fresh seen (without_number f (kept_numbers fs))) (f ∷ fresh seen (without_number f (kept_numbers fs)))) e))

  by_zero : (z : Bool) → z ≡ false → insert_key (λ a b. a == b) seen f ++ fresh (insert_key (λ a b. a == b) seen f) (kept_numbers fs) ≡ seen ++ fresh seen (cond z (kept_numbers fs) (f ∷ without_number f (kept_numbers fs)))
  by_zero true e = cc
  by_zero false e = by_test (list_any (λ h. f == h) seen) refl

fresh_zero : (seen : List ℕ) (f : ℕ) (fs : List ℕ) → f ≡ 0 → seen ++ fresh seen (kept_numbers fs) ≡ seen ++ fresh seen (kept_numbers (f ∷ fs))
fresh_zero seen f fs z = ap (λ l. seen ++ fresh seen l) (sym (ap (λ t. cond t (kept_numbers fs) (f ∷ without_number f (kept_numbers fs))) (eq-eqb f 0 z)))

-- the rest from a place
abbrev pub KeepsSoFar : List ℕ → ℕ → List ℕ → Type 0
KeepsSoFar forms i seen = seen ++ fresh seen (kept_numbers (drop i forms)) ≡ kept_numbers forms

pub keeps_first : (forms seen : List ℕ) → seen ≡ [] → KeepsSoFar forms 0 seen
keeps_first forms seen e = subst (KeepsSoFar forms 0) (sym e) (fresh_none (kept_numbers forms))

pub keeps_one : (forms seen : List ℕ) (i : ℕ) → i < length forms → (get_or forms i 0 ≡ 0 → ⊥) → KeepsSoFar forms i seen → KeepsSoFar forms (i + 1) (insert_key (λ a b. a == b) seen (get_or forms i 0))
keeps_one forms seen i lt ne so = fresh_step seen (get_or forms i 0) (drop (i + 1) forms) ne ∙ (sym (at_drop_more (λ l. seen ++ fresh seen (kept_numbers l)) forms i 0 lt) ∙ so)

-- the test of a list for a number, from either side
pub holds_turned : (x : ℕ) (ks : List ℕ) → list_any (λ y. y == x) ks ≡ list_any (λ h. x == h) ks
holds_turned x [] = refl
holds_turned x (k ∷ ks) = ap₂ (λ a b. a || b) (eq_turned k x) (holds_turned x ks)

-- a list holds the complement of its number at a place
pub clash_found : (ks : List ℕ) (i : ℕ) → i < length ks → list_any (λ y. y == 1) ks ≡ false → list_any (λ y. y == bit_xor (get_or ks i 0) 1) ks ≡ true → list_any (λ f. list_any (λ h. bit_xor f 1 == h) ks) (drop i ks) ≡ list_any (λ f. list_any (λ h. bit_xor f 1 == h) ks) ks → true ≡ numbers_clash ks
clash_found ks i lt none there so =
    let here = sym (holds_turned (bit_xor (get_or ks i 0) 1) ks) ∙ there in
    let on = λ (l : List ℕ). list_any (λ f. list_any (λ h. bit_xor f 1 == h) ks) l in
    let some = sym so ∙ (at_drop_more on ks i 0 lt ∙ ap (λ b. b || on (drop (i + 1) ks)) here) in
    sym (ap₂ (λ a b. a || b) (sym (holds_turned 1 ks) ∙ none) some)

-- and not that one
pub clash_on : (ks : List ℕ) (i : ℕ) → i < length ks → list_any (λ y. y == bit_xor (get_or ks i 0) 1) ks ≡ false → list_any (λ f. list_any (λ h. bit_xor f 1 == h) ks) (drop i ks) ≡ list_any (λ f. list_any (λ h. bit_xor f 1 == h) ks) ks → list_any (λ f. list_any (λ h. bit_xor f 1 == h) ks) (drop (i + 1) ks) ≡ list_any (λ f. list_any (λ h. bit_xor f 1 == h) ks) ks
clash_on ks i lt absent so =
    let here = sym (holds_turned (bit_xor (get_or ks i 0) 1) ks) ∙ absent in
    let on = λ (l : List ℕ). list_any (λ f. list_any (λ h. bit_xor f 1 == h) ks) l in
    sym (ap (λ b. b || on (drop (i + 1) ks)) here) ∙ (sym (at_drop_more on ks i 0 lt) ∙ so)

pub keeps_new : (forms seen : List ℕ) (i : ℕ) → i < length forms → (get_or forms i 0 ≡ 0 → ⊥) → list_any (λ y. y == get_or forms i 0) seen ≡ false → KeepsSoFar forms i seen → KeepsSoFar forms (i + 1) (seen ++ get_or forms i 0 ∷ [])
keeps_new forms seen i lt ne new so =
    let absent = sym (holds_turned (get_or forms i 0) seen) ∙ new in
    subst (KeepsSoFar forms (i + 1)) (ap (λ b. if b then seen else seen ++ get_or forms i 0 ∷ []) absent) (keeps_one forms seen i lt ne so)

pub keeps_old : (forms seen : List ℕ) (i : ℕ) → i < length forms → (get_or forms i 0 ≡ 0 → ⊥) → list_any (λ y. y == get_or forms i 0) seen ≡ true → KeepsSoFar forms i seen → KeepsSoFar forms (i + 1) seen
keeps_old forms seen i lt ne old so =
    let there = sym (holds_turned (get_or forms i 0) seen) ∙ old in
    subst (KeepsSoFar forms (i + 1)) (ap (λ b. if b then seen else seen ++ get_or forms i 0 ∷ []) there) (keeps_one forms seen i lt ne so)

pub keeps_zero : (forms seen : List ℕ) (i : ℕ) → i < length forms → get_or forms i 0 ≡ 0 → KeepsSoFar forms i seen → KeepsSoFar forms (i + 1) seen
keeps_zero forms seen i lt z so = fresh_zero seen (get_or forms i 0) (drop (i + 1) forms) z ∙ (sym (at_drop_more (λ l. seen ++ fresh seen (kept_numbers l)) forms i 0 lt) ∙ so)

pub keeps_all : (forms seen : List ℕ) (i : ℕ) → length forms ≤ i → KeepsSoFar forms i seen → seen ≡ kept_numbers forms
keeps_all forms seen i le so = sym (append-nil seen) ∙ (ap (λ l. seen ++ fresh seen (kept_numbers l)) (sym (past forms i le)) ∙ so) where
  past : (xs : List ℕ) (k : ℕ) → length xs ≤ k → drop k xs ≡ []
  past [] zero le = refl
  past [] (suc k) le = refl
  past (x ∷ xs) zero le = absurd (omega arith)
  past (x ∷ xs) (suc k) le = past xs k (omega arith)
