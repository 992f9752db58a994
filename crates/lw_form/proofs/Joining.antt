-- What the calls that make Ands owe.
use Rattle.std.proofs.Common.{◌≡◌, ◌-◌, ◌*◌, ◌/◌, ◌%◌, ◌<◌, ◌≤◌, ℕ, zero, suc, Bool, true, false, cond, bit_xor, ◌==◌, ◌^◌, if◌then◌else◌, length-drop, List, [], ◌∷◌, ◌++◌, length, map, take, drop, Some, slice_get, get_or, ap, ap₂, sym, ◌∙◌, subst, arith, append_assoc, append-nil, length-append}
use Rattle.std.proofs.lemmas.List.{take-map, drop-map, length-map, map-append, take_all}
use Rattle.std.proofs.lemmas.Option.{get_or_from_slice_get, slice_get-get_or, slice_get_within}
use Rattle.lw_laws.specs.Forms.{Form, complement, kept, has_clash, runs, conjunction, disjunction}
use Rattle.lw_laws.specs.Forms.Form.{var_form, true_form, not_form, and_form}
use Rattle.lw_laws.specs.Listings.{sign_of}
use Rattle.lw_laws.proofs.Normal.{conjunction_step}
use Rattle.lw_laws.specs.Occurring.{appended}
use Rattle.lw_laws.specs.SignalValues.{form_of}
use Rattle.lw_form.specs.Conjunctions.{AreClean, without_number, kept_numbers, numbers_clash}
use Rattle.lw_form.specs.Tables.{AreBelow, forms_at, spelled, AreMade, HasMore, Table, made, IsMadeAs, AreMadeAs}
use Rattle.lw_form.proofs.Tables.{below_more, form_of_more, forms_at_more, appended_more}
use Rattle.lw_form.proofs.Clean.{clean_one, clean_few, of_clash, of_none, of_kept, of_runs, runs_last, runs_more, fewer_runs, clean_take, clean_drop, kept_clean}
use Rattle.lw_form.proofs.Conjunctions.{below_kept, kept_forms, clash_forms, true_number, false_number, zero_below, complement_of, complements}
use Rattle.lw_laws.proofs.Flips.{xor-one, half-flip}

pub more_same : (forms : List Form) → HasMore forms forms
more_same forms = ([], sym (append-nil forms))

pub more_twice : (a b c : List Form) → HasMore a b → HasMore b c → HasMore a c
more_twice a b c (m, e) (n, d) = (m ++ n, d ∙ (ap (λ l. l ++ n) e ∙ append_assoc a m n))

pub more_length : (a b : List Form) → HasMore a b → length a ≤ length b
more_length a b (m, e) = let l = ap length e in let k = length-append a m in omega arith

pub form_kept : (a b : List Form) (f : ℕ) → HasMore a b → f / 2 < length a → form_of b f ≡ form_of a f
form_kept a b f (m, e) lt = ap (λ l. form_of l f) e ∙ form_of_more a m f lt

pub forms_kept : (a b : List Form) (ids : List ℕ) → HasMore a b → AreBelow (length a) ids → forms_at b ids ≡ forms_at a ids
forms_kept a b ids (m, e) below = ap (λ l. forms_at l ids) e ∙ forms_at_more a m ids below

pub below_kept_more : (a b : List Form) (ids : List ℕ) → HasMore a b → AreBelow (length a) ids → AreBelow (length b) ids
below_kept_more a b ids h below = below_more (length a) (length b) ids (more_length a b h) below

pub below_append : (n : ℕ) (xs ys : List ℕ) → AreBelow n xs → AreBelow n ys → AreBelow n (xs ++ ys)
below_append n [] ys a b = b
below_append n (x ∷ xs) ys (p, a) b = (p, below_append n xs ys a b)

pub below_take : (n k : ℕ) (xs : List ℕ) → AreBelow n xs → AreBelow n (take k xs)
below_take n zero xs a = tt
below_take n (suc k) [] a = tt
below_take n (suc k) (x ∷ xs) (p, a) = (p, below_take n k xs a)

pub below_drop : (n k : ℕ) (xs : List ℕ) → AreBelow n xs → AreBelow n (drop k xs)
below_drop n zero xs a = a
below_drop n (suc k) [] a = tt
below_drop n (suc k) (x ∷ xs) (p, a) = below_drop n k xs a

-- a place is the number twice of its form
pub even_form : (forms : List Form) (b : ℕ) (f : Form) → slice_get forms b ≡ Some f → form_of forms (2 * b) ≡ f
even_form forms b f e =
    let half : 2 * b / 2 ≡ b = omega arith in
    let even : 2 * b % 2 ≡ 0 = omega arith in
    let g : Form = get_or forms (2 * b / 2) true_form in
    ap (λ (k : ℕ). if k == 0 then g else complement g) even ∙ (ap (λ n. get_or forms n true_form) half ∙ get_or_from_slice_get forms b f true_form e)

pub joined_one : (t : Table) (forms : List ℕ) (f : ℕ) → length forms ≡ 1 → f ≡ get_or forms 0 0 → AreBelow (length (made t)) forms → AreClean (forms_at (made t) forms) → (width : ℕ) → 2 ≤ width → IsMadeAs t t f (conjunction width (forms_at (made t) forms))
joined_one t [] f one e below clean width wide = absurd (omega arith)
joined_one t (x ∷ []) f one e (lt, below) clean width wide = record {
  more = more_same (made t);
  within = subst (λ n. n / 2 < length (made t)) (sym e) lt;
  is = ap (form_of (made t)) e ∙ sym (clean_one width wide (form_of (made t) x) clean);
}
joined_one t (x ∷ y ∷ forms) f one e below clean width wide = absurd (omega arith)

pub joined_more : (old new : Table) (forms ids : List ℕ) (place : ℕ) → (length forms ≡ 1 → ⊥) → 1 ≤ length forms → ids ≡ forms → made new ≡ appended (spelled (made old) ids) (made old) → slice_get (made new) place ≡ Some (spelled (made old) ids) → AreClean (forms_at (made old) forms) → (width : ℕ) → 2 ≤ width → length forms ≤ width → IsMadeAs old new (2 * place) (conjunction width (forms_at (made old) forms))
joined_more old new forms ids place ne some same grown at clean width wide few = record {
  more = let (m, e) = appended_more (spelled (made old) ids) (made old) in (m, grown ∙ e);
  within = let lt = slice_get_within (made new) place (spelled (made old) ids) at in omega arith;
  is = let l = length-map forms (form_of (made old)) in even_form (made new) place (spelled (made old) ids) at ∙ (ap (spelled (made old)) same ∙ sym (clean_few width wide (forms_at (made old) forms) clean (omega arith) (omega arith)));
}

pub place_fits : (forms : List Form) (place : ℕ) (f : Form) → AreMade forms → slice_get forms place ≡ Some f → place < 2 ^ 31
place_fits forms place f are at = let lt = slice_get_within forms place f at in let few = are.few in omega arith

-- the forms of the runs so far, and those of the runs of the rest
pub record GroupsSoFar (width : ℕ) (old now : Table) (forms rest groups : List ℕ) : Type 0 where
  pub more : HasMore (made old) (made now)
  pub within : AreBelow (length (made now)) groups
  pub some : 1 ≤ length rest
  pub below : AreBelow (length (made old)) rest
  pub clean : AreClean (forms_at (made old) rest)
  pub same : forms_at (made now) groups ++ map (conjunction width) (runs width (forms_at (made old) rest)) ≡ map (conjunction width) (runs width (forms_at (made old) forms))

pub groups_first : (width : ℕ) (t : Table) (forms groups : List ℕ) → groups ≡ [] → 1 ≤ length forms → AreBelow (length (made t)) forms → AreClean (forms_at (made t) forms) → GroupsSoFar width t t forms forms groups
groups_first width t forms groups e some below clean = record {
  more = more_same (made t);
  within = subst (AreBelow (length (made t))) (sym e) tt;
  some = some;
  below = below;
  clean = clean;
  same = ap (λ l. forms_at (made t) l ++ map (conjunction width) (runs width (forms_at (made t) forms))) e;
}

-- what is asked for the Ands of runs in the grown table
pub clean_now : (old now : Table) (rest : List ℕ) → HasMore (made old) (made now) → AreBelow (length (made old)) rest → AreClean (forms_at (made old) rest) → AreClean (forms_at (made now) rest)
clean_now old now rest more below clean = subst AreClean (sym (forms_kept (made old) (made now) rest more below)) clean

pub clean_taken : (forms : List Form) (n : ℕ) (rest : List ℕ) → AreClean (forms_at forms rest) → AreClean (forms_at forms (take n rest))
clean_taken forms n rest clean = subst AreClean (take-map (form_of forms) n rest) (clean_take n (forms_at forms rest) clean)

pub clean_dropped : (forms : List Form) (n : ℕ) (rest : List ℕ) → AreClean (forms_at forms rest) → AreClean (forms_at forms (drop n rest))
clean_dropped forms n rest clean = subst AreClean (drop-map (form_of forms) n rest) (clean_drop n (forms_at forms rest) clean)

pub groups_more : (width : ℕ) → 2 ≤ width → (old now next : Table) (forms rest groups groups' : List ℕ) (g : ℕ) → width < length rest → GroupsSoFar width old now forms rest groups → IsMadeAs now next g (conjunction width (forms_at (made now) (take width rest))) → groups' ≡ groups ++ g ∷ [] → GroupsSoFar width old next forms (drop width rest) groups'
groups_more width wide old now next forms rest groups groups' g lt so new e = subst (GroupsSoFar width old next forms (drop width rest)) (sym e) (record {
  more = more_twice (made old) (made now) (made next) so.more new.more;
  within = below_append (length (made next)) groups (g ∷ []) (below_kept_more (made now) (made next) groups new.more so.within) (new.within, tt);
  some = let l = length-drop width rest in omega arith;
  below = below_drop (length (made old)) width rest so.below;
  clean = clean_dropped (made old) width rest so.clean;
  same = split;
}) where
  fs : List Form
  fs = forms_at (made old) rest

  longer : width < length fs
  longer = let l = length-map rest (form_of (made old)) in omega arith

  first : form_of (made next) g ≡ conjunction width (take width fs)
  first = new.is ∙ ap (conjunction width) (forms_kept (made old) (made now) (take width rest) so.more (below_take (length (made old)) width rest so.below) ∙ sym (take-map (form_of (made old)) width rest))

  tail : List Form
  tail = map (conjunction width) (runs width (drop width fs))

  split : forms_at (made next) (groups ++ g ∷ []) ++ map (conjunction width) (runs width (forms_at (made old) (drop width rest))) ≡ map (conjunction width) (runs width (forms_at (made old) forms))
  split =
      ap₂ (λ l r. l ++ map (conjunction width) (runs width r)) (map-append (form_of (made next)) groups (g ∷ [])) (sym (drop-map (form_of (made old)) width rest))
      ∙ (append_assoc (forms_at (made next) groups) (form_of (made next) g ∷ []) tail
      ∙ (ap₂ (λ l f. l ++ f ∷ tail) (forms_kept (made now) (made next) groups new.more so.within) first
      ∙ (ap (λ l. forms_at (made now) groups ++ map (conjunction width) l) (sym (runs_more width wide fs longer)) ∙ so.same)))

pub groups_last : (width : ℕ) → 2 ≤ width → (old now next : Table) (forms rest groups groups' : List ℕ) (g : ℕ) → length rest ≤ width → GroupsSoFar width old now forms rest groups → IsMadeAs now next g (conjunction width (forms_at (made now) rest)) → groups' ≡ groups ++ g ∷ [] → AreMadeAs old next groups' (map (conjunction width) (runs width (forms_at (made old) forms)))
groups_last width wide old now next forms rest groups groups' g le so new e = subst (λ l. AreMadeAs old next l (map (conjunction width) (runs width (forms_at (made old) forms)))) (sym e) (record {
  more = more_twice (made old) (made now) (made next) so.more new.more;
  within = below_append (length (made next)) groups (g ∷ []) (below_kept_more (made now) (made next) groups new.more so.within) (new.within, tt);
  are = whole;
}) where
  fs : List Form
  fs = forms_at (made old) rest

  last : form_of (made next) g ≡ conjunction width fs
  last = new.is ∙ ap (conjunction width) (forms_kept (made old) (made now) rest so.more so.below)

  whole : forms_at (made next) (groups ++ g ∷ []) ≡ map (conjunction width) (runs width (forms_at (made old) forms))
  whole =
      let l = length-map rest (form_of (made old)) in
      let some = so.some in
      map-append (form_of (made next)) groups (g ∷ [])
      ∙ (ap₂ (λ l f. l ++ f ∷ []) (forms_kept (made now) (made next) groups new.more so.within) last
      ∙ (ap (λ l. forms_at (made now) groups ++ map (conjunction width) l) (sym (runs_last width wide fs (omega arith) (omega arith))) ∙ so.same))

pub tail_is : (n : ℕ) (xs : List ℕ) → take (length xs - n) (drop n xs) ≡ drop n xs
tail_is n xs = let l = length-drop n xs in take_all (length xs - n) (drop n xs) (omega arith)

pub take_few : (n : ℕ) (xs : List ℕ) → length (take n xs) ≤ n
take_few zero xs = omega arith
take_few (suc n) [] = omega arith
take_few (suc n) (x ∷ xs) = let ih = take_few n xs in omega arith

fewer_without : (f : ℕ) (ids : List ℕ) → length (without_number f ids) ≤ length ids
fewer_without f [] = omega arith
fewer_without f (h ∷ ids) = by_test (f == h) (fewer_without f ids) where
  by_test : (t : Bool) → length (without_number f ids) ≤ length ids → length (cond t (without_number f ids) (h ∷ without_number f ids)) ≤ length (h ∷ ids)
  by_test true l = omega arith
  by_test false l = omega arith

fewer_kept : (ids : List ℕ) → length (kept_numbers ids) ≤ length ids
fewer_kept [] = omega arith
fewer_kept (f ∷ ids) = by_test (f == 0) (fewer_kept ids) (fewer_without f (kept_numbers ids)) where
  by_test : (t : Bool) → length (kept_numbers ids) ≤ length ids → length (without_number f (kept_numbers ids)) ≤ length (kept_numbers ids) → length (cond t (kept_numbers ids) (f ∷ without_number f (kept_numbers ids))) ≤ length (f ∷ ids)
  by_test true l m = omega arith
  by_test false l m = omega arith

-- one step of an And, over the numbers that are kept
module _ (width : ℕ) (wide : 2 ≤ width) (t : Table) (are : AreMade (made t)) (forms kept_ids : List ℕ) (below : AreBelow (length (made t)) forms) (kept_is : kept_ids ≡ kept_numbers forms) where
  fs : List Form
  fs = forms_at (made t) forms

  pub kept_below : AreBelow (length (made t)) kept_ids
  kept_below = subst (AreBelow (length (made t))) (sym kept_is) (below_kept (length (made t)) forms below)

  forms_of_kept : forms_at (made t) kept_ids ≡ kept (forms_at (made t) forms)
  forms_of_kept = ap (forms_at (made t)) kept_is ∙ kept_forms (made t) are forms below

  clash_of_kept : numbers_clash kept_ids ≡ has_clash (kept (forms_at (made t) forms))
  clash_of_kept = clash_forms (made t) are kept_ids kept_below ∙ ap has_clash forms_of_kept

  pub done_false : numbers_clash kept_ids ≡ true → IsMadeAs t t 1 (conjunction width (forms_at (made t) forms))
  done_false e = record {
    more = more_same (made t);
    within = let z = zero_below (made t) are in omega arith;
    is = false_number (made t) are ∙ sym (of_clash width wide (forms_at (made t) forms) (sym clash_of_kept ∙ e));
  }

  pub done_true : kept_ids ≡ [] → IsMadeAs t t 0 (conjunction width (forms_at (made t) forms))
  done_true e = record {
    more = more_same (made t);
    within = zero_below (made t) are;
    is = true_number (made t) are ∙ sym (of_none width wide (forms_at (made t) forms) (sym forms_of_kept ∙ ap (forms_at (made t)) e));
  }

  pub clean_kept : numbers_clash kept_ids ≡ false → AreClean (forms_at (made t) kept_ids)
  clean_kept e = subst AreClean (sym forms_of_kept) (kept_clean (forms_at (made t) forms) (sym clash_of_kept ∙ e))

  pub done_few : (new : Table) (f : ℕ) → IsMadeAs t new f (conjunction width (forms_at (made t) kept_ids)) → IsMadeAs t new f (conjunction width (forms_at (made t) forms))
  done_few new f m = subst (IsMadeAs t new f) (ap (conjunction width) forms_of_kept ∙ of_kept width wide (forms_at (made t) forms)) m

  pub go_again : (new : Table) (groups : List ℕ) → numbers_clash kept_ids ≡ false → width < length kept_ids → AreMadeAs t new groups (map (conjunction width) (runs width (forms_at (made t) kept_ids))) → (hs : List Form) × AreMadeAs t new groups hs × (conjunction width hs ≡ conjunction width (forms_at (made t) forms)) × (length groups < length forms)
  go_again new groups e lt m =
      let hs : List Form = map (conjunction width) (runs width (forms_at (made t) kept_ids)) in
      let same = forms_of_kept in
      let lk = length-map kept_ids (form_of (made t)) in
      let lf = length-map forms (form_of (made t)) in
      let lg = length-map groups (form_of (made new)) in
      let le = ap length m.are in
      let lss = ap length same in
      let fewer = fewer_kept forms in
      let lki = ap length kept_is in
      let few = fewer_runs width wide (forms_at (made t) kept_ids) (omega arith) in
      (hs, m, ap (λ l. conjunction width (map (conjunction width) (runs width l))) same ∙ of_runs width wide (forms_at (made t) forms) (sym clash_of_kept ∙ e) (omega arith), omega arith)

-- more steps of an And
pub record LeftSoFar (width : ℕ) (old now : Table) (forms left : List ℕ) : Type 0 where
  pub more : HasMore (made old) (made now)
  pub below : AreBelow (length (made now)) left
  pub same : conjunction width (forms_at (made now) left) ≡ conjunction width (forms_at (made old) forms)

pub left_more : (width : ℕ) (old now next : Table) (forms left groups : List ℕ) → LeftSoFar width old now forms left → (hs : List Form) × AreMadeAs now next groups hs × (conjunction width hs ≡ conjunction width (forms_at (made now) left)) × (length groups < length left) → LeftSoFar width old next forms groups
left_more width old now next forms left groups so (hs, m, e, lt) = record {
  more = more_twice (made old) (made now) (made next) so.more m.more;
  below = m.within;
  same = ap (conjunction width) m.are ∙ (e ∙ so.same);
}

pub left_done : (width : ℕ) (old now next : Table) (forms left : List ℕ) (f : ℕ) → LeftSoFar width old now forms left → IsMadeAs now next f (conjunction width (forms_at (made now) left)) → IsMadeAs old next f (conjunction width (forms_at (made old) forms))
left_done width old now next forms left f so m = record {
  more = more_twice (made old) (made now) (made next) so.more m.more;
  within = m.within;
  is = m.is ∙ so.same;
}

-- complements

half_other : (f : ℕ) → bit_xor f 1 / 2 ≡ f / 2
half_other f = ap (λ n. n / 2) (xor-one f) ∙ half-flip f

pub below_other : (n f : ℕ) → f / 2 < n → bit_xor f 1 / 2 < n
below_other n f lt = let e = half_other f in omega arith

pub below_others : (n : ℕ) (ids : List ℕ) → AreBelow n ids → AreBelow n (map (λ f. bit_xor f 1) ids)
below_others n [] a = tt
below_others n (f ∷ ids) (p, a) = (below_other n f p, below_others n ids a)

pub or_made : (width : ℕ) (old new : Table) (forms none : List ℕ) (all : ℕ) → AreMade (made old) → AreMade (made new) → AreBelow (length (made old)) forms → none ≡ map (λ f. bit_xor f 1) forms → IsMadeAs old new all (conjunction width (forms_at (made old) none)) → IsMadeAs old new (bit_xor all 1) (disjunction width (forms_at (made old) forms))
or_made width old new forms none all are are' below e m = record {
  more = m.more;
  within = below_other (length (made new)) all m.within;
  is = complement_of (made new) are' all m.within ∙ ap complement (m.is ∙ ap (conjunction width) (ap (forms_at (made old)) e ∙ complements (made old) are forms below));
}

-- the Or of one form is the form

or_base : (width : ℕ) → 2 ≤ width → (g : Form) (t : Bool) → sign_of g ≡ 0 → disjunction width ((if t then g else complement g) ∷ []) ≡ (if t then g else complement g)
or_base width wide (var_form i) true z = ap complement (conjunction_step 0 width wide (not_form (var_form i) ∷ []))
or_base width wide (var_form i) false z = ap complement (conjunction_step 0 width wide (var_form i ∷ []))
or_base width wide true_form true z = ap complement (conjunction_step 0 width wide (not_form true_form ∷ []))
or_base width wide true_form false z = ap complement (conjunction_step 0 width wide (true_form ∷ []))
or_base width wide (not_form g) t z = absurd (omega arith)
or_base width wide (and_form fs) true z = ap complement (conjunction_step 0 width wide (not_form (and_form fs) ∷ []))
or_base width wide (and_form fs) false z = ap complement (conjunction_step 0 width wide (and_form fs ∷ []))

pub or_one : (width : ℕ) → 2 ≤ width → (forms : List Form) → AreMade forms → (f : ℕ) → f / 2 < length forms → disjunction width (form_of forms f ∷ []) ≡ form_of forms f
or_one width wide forms are f lt = or_base width wide (get_or forms (f / 2) true_form) (f % 2 == 0) (are.signs (f / 2) (get_or forms (f / 2) true_form) (slice_get-get_or forms (f / 2) true_form lt))

pub or_alone : (width : ℕ) → 2 ≤ width → (t : Table) → AreMade (made t) → (forms : List ℕ) (f : ℕ) → length forms ≡ 1 → f ≡ get_or forms 0 0 → AreBelow (length (made t)) forms → IsMadeAs t t f (disjunction width (forms_at (made t) forms))
or_alone width wide t are [] f one e below = absurd (omega arith)
or_alone width wide t are (x ∷ []) f one e (lt, below) = record {
  more = more_same (made t);
  within = subst (λ n. n / 2 < length (made t)) (sym e) lt;
  is = ap (form_of (made t)) e ∙ sym (or_one width wide (made t) are x lt);
}
or_alone width wide t are (x ∷ y ∷ forms) f one e below = absurd (omega arith)
