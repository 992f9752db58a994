-- The list of base forms as places in a table.
use Rattle.std.proofs.Common.{◌≡◌, ◌≢◌, ◌+◌, ◌-◌, ◌*◌, ◌/◌, ◌%◌, ◌^◌, ◌==◌, ◌<◌, ◌≤◌, ◌⊎◌, inl, inr, ℕ, zero, suc, Bool, true, false, cond, leb, leb-true, pow-suc, if◌then◌else◌, List, [], ◌∷◌, ◌++◌, length, map, drop, replicate, Some, Result, Ok, Err, IfErr, slice_get, get_or, refl, ap, ap₂, sym, ◌∙◌, subst, arith}
use Rattle.std.specs.List.{AllByRecursion}
use Rattle.std.specs.Result.{IsErrAnd}
use Rattle.std.proofs.lemmas.Bool.{le-leb, cases_eq}
use Rattle.std.proofs.lemmas.List.{length-map, map-append, get_or_append_left, at_drop_more, drop_all, length_push}
use Rattle.std.proofs.lemmas.Option.{slice_get-get_or, get_or_from_slice_get, slice_get_within}
use Rattle.lw_facts.proofs.Lists.{drop_get, all_front, all_last, get_left, get_last, get_last_cases}
use Rattle.lw_laws.specs.Forms.{Form, FormList, items, form_list, and_of, is_among, complement}
use Rattle.lw_laws.specs.Forms.Form.{var_form, true_form, not_form, and_form}
use Rattle.lw_laws.specs.Forms.FormList.{no_forms, more_forms}
use Rattle.lw_laws.specs.Listings.{sign_of}
use Rattle.lw_laws.specs.Occurring.{part, with_and_without, sublists, appended, append_part, append_parts, add_form, add_forms}
use Rattle.lw_laws.specs.SignalValues.{form_of}
use Rattle.lw_laws.proofs.Equality.{items-form_list}
use Rattle.lw_laws.proofs.Masks.{sublists_at}
use Rattle.lw_laws.proofs.Numbers.{slice_get_map, slice_get_map_back}
use Rattle.lw_form.specs.declared.fault.FormFault.{FormFault}
use Rattle.lw_form.specs.declared.fault.FormFault.TheVariants.{Limit, Memory}
use Rattle.lw_form.specs.declared.listing.Step.{Step}
use Rattle.lw_form.specs.declared.listing.Step.TheVariants.{Add, Parts}
use Rattle.lw_form.specs.Bases.{picked}
use Rattle.lw_form.specs.Factoring.{turned}
use Rattle.lw_form.specs.Limits.{most_bases}
use Rattle.lw_form.specs.Renumbered.{simple_at}
use Rattle.lw_form.specs.Listed.{no_place, base_at, bases_of, place_of, IsListed, PlainStep, operands_of, plain_step, plain_steps, adds, bases_after, IsTooLong, StepFits, form_size, forms_size, step_size, steps_size, IsAdding}
use Rattle.lw_form.specs.Listed.PlainStep.{add_of, parts_of}
use Rattle.lw_form.specs.Tables.{AreBelow, forms_at, spelled, AreMade, HasMore, Table, made, IsSimple}
use Rattle.lw_form.proofs.Tables.{among_place, place_among, appended_more}
use Rattle.lw_form.proofs.Joining.{more_same, more_twice, more_length, form_kept, forms_kept}
use Rattle.lw_form.proofs.FactoringSteps.{turned_last}

-- the base form at a place stays where more forms are made
pub base_kept : (a b : List Form) (k : ℕ) → HasMore a b → k < length a → base_at b k ≡ base_at a k
base_kept a b k (m, e) lt = ap (λ l. get_or l k true_form) e ∙ get_or_append_left a m true_form k lt

pub bases_kept : (a b : List Form) (listed : List ℕ) → HasMore a b → ((k x : ℕ) → slice_get listed k ≡ Some x → x < length a) → bases_of b listed ≡ bases_of a listed
bases_kept a b [] h within = refl
bases_kept a b (x ∷ listed) h within = ap₂ (λ f fs. f ∷ fs) (base_kept a b x h (within 0 x refl)) (bases_kept a b listed h (λ k y e. within (suc k) y e))

pub listed_kept : (a b : List Form) (listed places : List ℕ) → HasMore a b → IsListed a listed places → IsListed b listed places
listed_kept a b listed places h is = record {
  within = λ k x e. let lt = is.within k x e in let le = more_length a b h in omega arith;
  placed = is.placed;
  back = is.back;
  few = is.few;
}

-- a base form is in the list exactly where it has a place

base_read : (forms : List Form) (b : ℕ) → b < length forms → slice_get forms b ≡ Some (base_at forms b)
base_read forms b lt = slice_get-get_or forms b true_form lt

pub placed_among : (forms : List Form) (listed places : List ℕ) (b : ℕ) → IsListed forms listed places → place_of places b ≢ no_place → is_among (base_at forms b) (bases_of forms listed) ≡ true
placed_among forms listed places b is ne = place_among (base_at forms b) (bases_of forms listed) (place_of places b) (slice_get_map (base_at forms) listed (place_of places b) b (is.back b ne))

pub unplaced_not_among : (forms : List Form) (listed places : List ℕ) (b : ℕ) → AreMade forms → b < length forms → IsListed forms listed places → place_of places b ≡ no_place → is_among (base_at forms b) (bases_of forms listed) ≡ false
unplaced_not_among forms listed places b are lt is none = by_test (is_among (base_at forms b) (bases_of forms listed)) refl where
  by_test : (t : Bool) → is_among (base_at forms b) (bases_of forms listed) ≡ t → t ≡ false
  by_test false e = refl
  by_test true e =
      let (k, d) = among_place (base_at forms b) (bases_of forms listed) e in
      let (x, at, same) = slice_get_map_back (base_at forms) listed k (base_at forms b) d in
      let here : x ≡ b = are.once x b (base_at forms b) (base_read forms x (is.within k x at) ∙ ap Some same) (base_read forms b lt) in
      let place : place_of places b ≡ k = ap (place_of places) (sym here) ∙ is.placed k x at in
      let in' = slice_get_within listed k x at in
      let few = is.few in
      absurd (omega arith)

pub appended_listed : (f : Form) (bases : List Form) → is_among f bases ≡ true → bases ≡ appended f bases
appended_listed f bases e = sym (ap (λ t. cond t bases (bases ++ f ∷ [])) e)

pub appended_new : (f : Form) (bases : List Form) → is_among f bases ≡ false → bases ++ f ∷ [] ≡ appended f bases
appended_new f bases e = sym (ap (λ t. cond t bases (bases ++ f ∷ [])) e)

-- one more base form is listed
module _ (forms : List Form) (listed places new_listed new_places : List ℕ) (b : ℕ) (are : AreMade forms) (lt : b < length forms) (is : IsListed forms listed places) (none : place_of places b ≡ no_place) (few : length listed < most_bases) (grown : new_listed ≡ listed ++ b ∷ []) (here : place_of new_places b ≡ length listed) (others : (x : ℕ) → x ≢ b → place_of new_places x ≡ place_of places x) where
  not_there : (k : ℕ) → slice_get listed k ≡ Some b → ⊥
  not_there k e = let p = is.placed k b e in let in' = slice_get_within listed k b e in let n = none in omega arith

  pub put_listed : IsListed forms new_listed new_places
  put_listed = subst (λ l. IsListed forms l new_places) (sym grown) (record {
    within = λ k x e. within k x (get_last_cases listed b k x e);
    placed = λ k x e. placed k x (get_last_cases listed b k x e);
    back = λ x ne. back x ne (cases_eq x b);
    few = let l = length_push listed b in omega arith;
  }) where
    within : (k x : ℕ) → (slice_get listed k ≡ Some x) ⊎ ((k ≡ length listed) × (x ≡ b)) → x < length forms
    within k x (inl e) = is.within k x e
    within k x (inr (e, s)) = let l = lt in omega arith

    placed : (k x : ℕ) → (slice_get listed k ≡ Some x) ⊎ ((k ≡ length listed) × (x ≡ b)) → place_of new_places x ≡ k
    placed k x (inl e) = others x (λ s. not_there k (e ∙ ap Some s)) ∙ is.placed k x e
    placed k x (inr (e, s)) = ap (place_of new_places) s ∙ (here ∙ sym e)

    back : (x : ℕ) → place_of new_places x ≢ no_place → (x ≡ b) ⊎ (x ≢ b) → slice_get (listed ++ b ∷ []) (place_of new_places x) ≡ Some x
    back x ne (inl s) = ap (slice_get (listed ++ b ∷ [])) (ap (place_of new_places) s ∙ here) ∙ (get_last listed b ∙ ap Some (sym s))
    back x ne (inr d) = ap (slice_get (listed ++ b ∷ [])) (others x d) ∙ get_left listed (b ∷ []) (place_of places x) x (is.back x (λ e. ne (others x d ∙ e)))

  pub put_bases : bases_of forms new_listed ≡ appended (base_at forms b) (bases_of forms listed)
  put_bases = ap (bases_of forms) grown ∙ (map-append (base_at forms) listed (b ∷ []) ∙ appended_new (base_at forms b) (bases_of forms listed) (unplaced_not_among forms listed places b are lt is none))

pub too_long : (forms : List Form) (listed places : List ℕ) (b : ℕ) → AreMade forms → b < length forms → IsListed forms listed places → place_of places b ≡ no_place → length listed ≡ most_bases → most_bases < length (appended (base_at forms b) (bases_of forms listed))
too_long forms listed places b are lt is none full =
    let e = ap length (sym (appended_new (base_at forms b) (bases_of forms listed) (unplaced_not_among forms listed places b are lt is none))) in
    let l = length_push (bases_of forms listed) (base_at forms b) in
    let m = length-map listed (base_at forms) in
    omega arith

-- places of a grown list

pub place_more : (places : List ℕ) (n x : ℕ) → place_of (places ++ replicate n no_place) x ≡ place_of places x
place_more [] n x = nowhere n x where
  nowhere : (n x : ℕ) → place_of (replicate n no_place) x ≡ no_place
  nowhere zero x = refl
  nowhere (suc n) zero = refl
  nowhere (suc n) (suc x) = nowhere n x
place_more (p ∷ places) n zero = refl
place_more (p ∷ places) n (suc x) = place_more places n x

-- steps

pub step_kept : (a b : List Form) (s : Step) → HasMore a b → StepFits (length a) s → plain_step b s ≡ plain_step a s
step_kept a b (Add f) h fit = ap add_of (form_kept a b f h fit)
step_kept a b (Parts k) h fit = ap (λ f. parts_of (operands_of f)) (base_kept a b k h fit)

pub steps_kept : (a b : List Form) (steps : List Step) → HasMore a b → AllByRecursion (StepFits (length a)) steps → map (plain_step b) steps ≡ map (plain_step a) steps
steps_kept a b [] h fit = refl
steps_kept a b (s ∷ steps) h (p, fit) = ap₂ (λ x xs. x ∷ xs) (step_kept a b s h p) (steps_kept a b steps h fit)

pub steps_fit : (a b : List Form) (steps : List Step) → HasMore a b → AllByRecursion (StepFits (length a)) steps → AllByRecursion (StepFits (length b)) steps
steps_fit a b [] h fit = tt
steps_fit a b (Add f ∷ steps) h (p, fit) = (let le = more_length a b h in omega arith, steps_fit a b steps h fit)
steps_fit a b (Parts k ∷ steps) h (p, fit) = (let le = more_length a b h in omega arith, steps_fit a b steps h fit)

pub steps_last : (forms : List Form) (steps : List Step) (s : Step) → plain_steps forms (steps ++ s ∷ []) ≡ plain_step forms s ∷ plain_steps forms steps
steps_last forms steps s = ap turned (map-append (plain_step forms) steps (s ∷ [])) ∙ turned_last (map (plain_step forms) steps) (plain_step forms s)

-- lists only grow

longer_appended : (f : Form) (bases : List Form) → length bases ≤ length (appended f bases)
longer_appended f bases = by_test (is_among f bases) where
  by_test : (t : Bool) → length bases ≤ length (cond t bases (bases ++ f ∷ []))
  by_test true = omega arith
  by_test false = let l = length_push bases f in omega arith

longer_part : (fs bases : List Form) → length bases ≤ length (append_part fs bases)
longer_part fs bases = by_test (leb 2 (length fs)) where
  by_test : (t : Bool) → length bases ≤ length (cond t (appended (and_of fs) bases) bases)
  by_test true = longer_appended (and_of fs) bases
  by_test false = omega arith

pub longer_parts : (rest : List (List Form)) (bases : List Form) → length bases ≤ length (append_parts rest bases)
longer_parts [] bases = omega arith
longer_parts (fs ∷ rest) bases = let a = longer_part fs bases in let b = longer_parts rest (append_part fs bases) in omega arith

longer_either : (bases others : List Form) (t : Bool) → length bases ≤ length others → length bases ≤ length (elim t as (λ x. List Form) [ true ↦ bases | false ↦ others ])
longer_either bases others true l = omega arith
longer_either bases others false l = l

mutual
  pub longer_add : (f : Form) (bases : List Form) → length bases ≤ length (add_form f bases)
  longer_add (var_form i) bases = longer_appended (var_form i) bases
  longer_add true_form bases = longer_appended true_form bases
  longer_add (not_form f) bases = longer_add f bases
  longer_add (and_form fs) bases =
      let a = longer_adds fs bases in
      let b = longer_parts (sublists (items fs)) (add_forms fs bases) in
      longer_either bases (append_parts (sublists (items fs)) (add_forms fs bases)) (is_among (and_form fs) bases) (omega arith)

  pub longer_adds : (fs : FormList) (bases : List Form) → length bases ≤ length (add_forms fs bases)
  longer_adds no_forms bases = omega arith
  longer_adds (more_forms f fs) bases = let a = longer_add f bases in let b = longer_adds fs (add_form f bases) in omega arith

pub longer_steps : (steps : List PlainStep) (bases : List Form) → length bases ≤ length (bases_after steps bases)
longer_steps [] bases = omega arith
longer_steps (add_of f ∷ steps) bases = let a = longer_add f bases in let b = longer_steps steps (add_form f bases) in omega arith
longer_steps (parts_of fs ∷ steps) bases = let a = longer_parts (sublists fs) bases in let b = longer_steps steps (append_parts (sublists fs) bases) in omega arith

pub longer_fault : (short long : List Form) (fault : FormFault) → length short ≤ length long → IsTooLong short fault → IsTooLong long fault
longer_fault short long Limit le t = omega arith
longer_fault short long Memory le t = tt

-- adding a form is adding its base form

add_base : (g : Form) (t : Bool) (bases : List Form) → sign_of g ≡ 0 → add_form (if t then g else complement g) bases ≡ add_form g bases
add_base g true bases z = refl
add_base (var_form i) false bases z = refl
add_base true_form false bases z = refl
add_base (not_form g) false bases z = absurd (omega arith)
add_base (and_form fs) false bases z = refl

pub add_number : (forms : List Form) (f : ℕ) (bases : List Form) → AreMade forms → f / 2 < length forms → add_form (form_of forms f) bases ≡ add_form (base_at forms (f / 2)) bases
add_number forms f bases are lt = add_base (base_at forms (f / 2)) (f % 2 == 0) bases (are.signs (f / 2) (base_at forms (f / 2)) (base_read forms (f / 2) lt))

pub add_listed : (g : Form) (bases : List Form) → sign_of g ≡ 0 → is_among g bases ≡ true → add_form g bases ≡ bases
add_listed (var_form i) bases z e = sym (appended_listed (var_form i) bases e)
add_listed true_form bases z e = sym (appended_listed true_form bases e)
add_listed (not_form g) bases z e = absurd (omega arith)
add_listed (and_form fs) bases z e = ap (λ t. elim t as (λ x. List Form) [ true ↦ bases | false ↦ append_parts (sublists (items fs)) (add_forms fs bases) ]) e

pub add_placed : (forms : List Form) (listed places : List ℕ) (f : ℕ) → AreMade forms → f / 2 < length forms → IsListed forms listed places → place_of places (f / 2) ≢ no_place → bases_of forms listed ≡ add_form (form_of forms f) (bases_of forms listed)
add_placed forms listed places f are lt is ne =
    let g : Form = base_at forms (f / 2) in
    sym (add_number forms f (bases_of forms listed) are lt ∙ add_listed g (bases_of forms listed) (are.signs (f / 2) g (base_read forms (f / 2) lt)) (placed_among forms listed places (f / 2) is ne))

pub add_simple : (g : Form) (bases : List Form) → IsSimple g → add_form g bases ≡ appended g bases
add_simple (var_form i) bases s = refl
add_simple true_form bases s = refl
add_simple (not_form g) bases s = absurd s
add_simple (and_form fs) bases s = absurd s

pub add_and : (fs : List Form) (bases : List Form) → is_among (and_of fs) bases ≡ false → add_form (and_of fs) bases ≡ append_parts (sublists fs) (add_forms (form_list fs) bases)
add_and fs bases e = ap (λ t. elim t as (λ x. List Form) [ true ↦ bases | false ↦ append_parts (sublists (items (form_list fs))) (add_forms (form_list fs) bases) ]) e ∙ ap (λ l. append_parts (sublists l) (add_forms (form_list fs) bases)) (items-form_list fs)

pub after_adds : (forms : List Form) (ids : List ℕ) (steps : List PlainStep) (bases : List Form) → bases_after (map (plain_step forms) (adds ids) ++ steps) bases ≡ bases_after steps (add_forms (form_list (forms_at forms ids)) bases)
after_adds forms [] steps bases = refl
after_adds forms (f ∷ ids) steps bases = after_adds forms ids steps (add_form (form_of forms f) bases)

-- the sizes
pub sizes_last : (forms : List Form) (steps : List Step) (s : Step) → steps_size (plain_steps forms (steps ++ s ∷ [])) ≡ step_size (plain_step forms s) + steps_size (plain_steps forms steps)
sizes_last forms steps s = ap steps_size (steps_last forms steps s)

size_adds : (forms : List Form) (ids : List ℕ) (steps : List PlainStep) → steps_size (map (plain_step forms) (adds ids) ++ steps) ≡ forms_size (form_list (forms_at forms ids)) + steps_size steps
size_adds forms [] steps = omega arith
size_adds forms (f ∷ ids) steps = let e = size_adds forms ids steps in omega arith

some_size : (f : Form) → 1 ≤ form_size f
some_size (var_form i) = omega arith
some_size true_form = omega arith
some_size (not_form f) = some_size f
some_size (and_form fs) = omega arith

base_size : (g : Form) (t : Bool) → sign_of g ≡ 0 → form_size (if t then g else complement g) ≡ form_size g
base_size g true z = refl
base_size (var_form i) false z = refl
base_size true_form false z = refl
base_size (not_form g) false z = absurd (omega arith)
base_size (and_form fs) false z = refl

pub number_size : (forms : List Form) (f : ℕ) → AreMade forms → f / 2 < length forms → form_size (form_of forms f) ≡ form_size (base_at forms (f / 2))
number_size forms f are lt = base_size (base_at forms (f / 2)) (f % 2 == 0) (are.signs (f / 2) (base_at forms (f / 2)) (base_read forms (f / 2) lt))

module _ (now : Table) (are : AreMade (made now)) (listed places : List ℕ) (steps : List Step) (f : ℕ) (goal : List Form) (w : IsAdding now listed places (steps ++ Add f ∷ []) goal) where
  pub adding_below : f / 2 < length (made now)
  adding_below = all_last (StepFits (length (made now))) steps (Add f) w.fit

  pub rest_fit : AllByRecursion (StepFits (length (made now))) steps
  rest_fit = all_front (StepFits (length (made now))) steps (Add f ∷ []) w.fit

  -- the list with the form added
  pub adding_next : bases_after (plain_steps (made now) steps) (add_form (base_at (made now) (f / 2)) (bases_of (made now) listed)) ≡ goal
  adding_next = ap (bases_after (plain_steps (made now) steps)) (sym (add_number (made now) f (bases_of (made now) listed) are adding_below)) ∙ (sym (ap (λ s. bases_after s (bases_of (made now) listed)) (steps_last (made now) steps (Add f))) ∙ w.same)

  pub adding_listed : place_of places (f / 2) ≢ no_place → IsAdding now listed places steps goal
  adding_listed ne = record {
    listed_is = w.listed_is;
    fit = rest_fit;
    same = ap (bases_after (plain_steps (made now) steps)) (sym (add_listed (base_at (made now) (f / 2)) (bases_of (made now) listed) (are.signs (f / 2) (base_at (made now) (f / 2)) (base_read (made now) (f / 2) adding_below)) (placed_among (made now) listed places (f / 2) w.listed_is ne))) ∙ adding_next;
  }

  pub adding_simple : (new_listed new_places : List ℕ) (g : Form) → slice_get (made now) (f / 2) ≡ Some g → IsSimple g → IsListed (made now) new_listed new_places → bases_of (made now) new_listed ≡ appended (base_at (made now) (f / 2)) (bases_of (made now) listed) → IsAdding now new_listed new_places steps goal
  adding_simple new_listed new_places g at simple is e = record {
    listed_is = is;
    fit = rest_fit;
    same = ap (bases_after (plain_steps (made now) steps)) (e ∙ sym (add_simple (base_at (made now) (f / 2)) (bases_of (made now) listed) (subst IsSimple (sym (get_or_from_slice_get (made now) (f / 2) g true_form at)) simple))) ∙ adding_next;
  }

  pub simple_fault : (g : Form) → slice_get (made now) (f / 2) ≡ Some g → IsSimple g → (fault : FormFault) → IsTooLong (appended (base_at (made now) (f / 2)) (bases_of (made now) listed)) fault → IsTooLong goal fault
  simple_fault g at simple fault t =
      let e = ap (bases_after (plain_steps (made now) steps)) (sym (add_simple (base_at (made now) (f / 2)) (bases_of (made now) listed) (subst IsSimple (sym (get_or_from_slice_get (made now) (f / 2) g true_form at)) simple))) ∙ adding_next in
      subst (λ l. IsTooLong l fault) e (longer_fault (appended (base_at (made now) (f / 2)) (bases_of (made now) listed)) (bases_after (plain_steps (made now) steps) (appended (base_at (made now) (f / 2)) (bases_of (made now) listed))) fault (longer_steps (plain_steps (made now) steps) (appended (base_at (made now) (f / 2)) (bases_of (made now) listed))) t)

  -- an And's operands are added, and then its parts
  pub adding_and : (new_steps : List Step) (ids : List ℕ) → place_of places (f / 2) ≡ no_place → slice_get (made now) (f / 2) ≡ Some (spelled (made now) ids) → AreBelow (length (made now)) ids → AllByRecursion (StepFits (length (made now))) new_steps → plain_steps (made now) new_steps ≡ map (plain_step (made now)) (adds ids) ++ plain_step (made now) (Parts (f / 2)) ∷ plain_steps (made now) steps → IsAdding now listed places new_steps goal
  adding_and new_steps ids none at below fit e = record {
    listed_is = w.listed_is;
    fit = fit;
    same =
        let base : base_at (made now) (f / 2) ≡ spelled (made now) ids = get_or_from_slice_get (made now) (f / 2) (spelled (made now) ids) true_form at in
        let free : is_among (spelled (made now) ids) (bases_of (made now) listed) ≡ false = ap (λ g. is_among g (bases_of (made now) listed)) (sym base) ∙ unplaced_not_among (made now) listed places (f / 2) are adding_below w.listed_is none in
        let operands : operands_of (base_at (made now) (f / 2)) ≡ forms_at (made now) ids = ap operands_of base ∙ items-form_list (forms_at (made now) ids) in
        ap (λ s. bases_after s (bases_of (made now) listed)) e
        ∙ (after_adds (made now) ids (plain_step (made now) (Parts (f / 2)) ∷ plain_steps (made now) steps) (bases_of (made now) listed)
        ∙ (ap (λ l. bases_after (plain_steps (made now) steps) (append_parts (sublists l) (add_forms (form_list (forms_at (made now) ids)) (bases_of (made now) listed)))) operands
        ∙ (ap (bases_after (plain_steps (made now) steps)) (sym (ap (λ g. add_form g (bases_of (made now) listed)) base ∙ add_and (forms_at (made now) ids) (bases_of (made now) listed) free)) ∙ adding_next)));
  }

-- the sizes of the steps fall

pub size_dropped : (forms : List Form) (steps : List Step) (f : ℕ) → steps_size (plain_steps forms steps) < form_size (form_of forms f) + steps_size (plain_steps forms steps)
size_dropped forms steps f = let s = some_size (form_of forms f) in omega arith

pub size_and : (forms : List Form) (steps new_steps : List Step) (f : ℕ) (ids : List ℕ) → AreMade forms → f / 2 < length forms → slice_get forms (f / 2) ≡ Some (spelled forms ids) → plain_steps forms new_steps ≡ map (plain_step forms) (adds ids) ++ plain_step forms (Parts (f / 2)) ∷ plain_steps forms steps → steps_size (plain_steps forms new_steps) < form_size (form_of forms f) + steps_size (plain_steps forms steps)
size_and forms steps new_steps f ids are lt at e =
    let a = ap steps_size e in
    let b = size_adds forms ids (plain_step forms (Parts (f / 2)) ∷ plain_steps forms steps) in
    let c = number_size forms f are lt in
    let d = ap form_size (get_or_from_slice_get forms (f / 2) (spelled forms ids) true_form at) in
    omega arith

-- steps for operands

pub operands_first : (forms : List Form) (ids : List ℕ) (steps : List Step) → plain_steps forms steps ≡ map (plain_step forms) (adds (drop (length ids - 0) ids)) ++ plain_steps forms steps
operands_first forms ids steps = ap (λ l. map (plain_step forms) (adds l) ++ plain_steps forms steps) (sym (drop_all (length ids - 0) ids (omega arith)))

pub operands_more : (forms : List Form) (ids : List ℕ) (old steps new : List Step) (i : ℕ) → i < length ids → new ≡ steps ++ Add (get_or ids (length ids - 1 - i) 0) ∷ [] → plain_steps forms steps ≡ map (plain_step forms) (adds (drop (length ids - i) ids)) ++ plain_steps forms old → plain_steps forms new ≡ map (plain_step forms) (adds (drop (length ids - (i + 1)) ids)) ++ plain_steps forms old
operands_more forms ids old steps new i lt e so =
    let place : length ids - (i + 1) ≡ length ids - 1 - i = omega arith in
    let next : length ids - 1 - i + 1 ≡ length ids - i = omega arith in
    let inside : length ids - 1 - i < length ids = omega arith in
    ap (plain_steps forms) e
    ∙ (steps_last forms steps (Add (get_or ids (length ids - 1 - i) 0))
    ∙ (ap (λ l. add_of (form_of forms (get_or ids (length ids - 1 - i) 0)) ∷ l) so
    ∙ (ap (λ k. add_of (form_of forms (get_or ids (length ids - 1 - i) 0)) ∷ (map (plain_step forms) (adds (drop k ids)) ++ plain_steps forms old)) (sym next)
    ∙ (sym (at_drop_more (λ l. map (plain_step forms) (adds l) ++ plain_steps forms old) ids (length ids - 1 - i) 0 inside) ∙ ap (λ k. map (plain_step forms) (adds (drop k ids)) ++ plain_steps forms old) (sym place)))))

pub operands_all : (forms : List Form) (ids : List ℕ) (old steps : List Step) (i : ℕ) → length ids ≤ i → plain_steps forms steps ≡ map (plain_step forms) (adds (drop (length ids - i) ids)) ++ plain_steps forms old → plain_steps forms steps ≡ map (plain_step forms) (adds ids) ++ plain_steps forms old
operands_all forms ids old steps i le so = so ∙ ap (λ k. map (plain_step forms) (adds (drop k ids)) ++ plain_steps forms old) zero_left where
  zero_left : length ids - i ≡ 0
  zero_left = omega arith

-- parts of an And

pub picked_forms : (forms : List Form) (ids : List ℕ) (mask : ℕ) → forms_at forms (picked ids mask) ≡ part (forms_at forms ids) mask
picked_forms forms [] mask = refl
picked_forms forms (f ∷ ids) mask = by_test (mask % 2 == 1) (picked_forms forms ids (mask / 2)) where
  by_test : (t : Bool) → forms_at forms (picked ids (mask / 2)) ≡ part (forms_at forms ids) (mask / 2) → forms_at forms (if t then f ∷ picked ids (mask / 2) else picked ids (mask / 2)) ≡ (if t then form_of forms f ∷ part (forms_at forms ids) (mask / 2) else part (forms_at forms ids) (mask / 2))
  by_test true e = ap (λ l. form_of forms f ∷ l) e
  by_test false e = e

pub below_picked : (n : ℕ) (ids : List ℕ) (mask : ℕ) → AreBelow n ids → AreBelow n (picked ids mask)
below_picked n [] mask a = tt
below_picked n (f ∷ ids) mask (p, a) = by_test (mask % 2 == 1) (below_picked n ids (mask / 2) a) where
  by_test : (t : Bool) → AreBelow n (picked ids (mask / 2)) → AreBelow n (if t then f ∷ picked ids (mask / 2) else picked ids (mask / 2))
  by_test true b = (p, b)
  by_test false b = b

double_parts : (f : Form) (rest : List (List Form)) → length (with_and_without f rest) ≡ 2 * length rest
double_parts f [] = refl
double_parts f (fs ∷ rest) = let e = double_parts f rest in omega arith

pub parts_count : (fs : List Form) → length (sublists fs) ≡ 2 ^ length fs
parts_count [] = refl
parts_count (f ∷ fs) = let d = double_parts f (sublists fs) in let e = parts_count fs in let p = pow-suc 2 (length fs) in omega arith

pub short_part : (fs bases : List Form) → length fs < 2 → bases ≡ append_part fs bases
short_part fs bases lt = sym (ap (λ t. cond t (appended (and_of fs) bases) bases) (not_leb (leb 2 (length fs)) refl)) where
  not_leb : (t : Bool) → leb 2 (length fs) ≡ t → t ≡ false
  not_leb true e = let le = leb-true 2 (length fs) e in absurd (omega arith)
  not_leb false e = refl

pub long_part : (fs bases : List Form) → 2 ≤ length fs → appended (and_of fs) bases ≡ append_part fs bases
long_part fs bases le = sym (ap (λ t. cond t (appended (and_of fs) bases) bases) (le-leb 2 (length fs) le))

-- the parts that are listed so far, and the rest
pub record PartsSoFar (old now : Table) (fs old_bases : List Form) (mask : ℕ) (listed places : List ℕ) : Type 0 where
  pub more : HasMore (made old) (made now)
  pub listed_is : IsListed (made now) listed places
  pub rest : append_parts (drop mask (sublists fs)) (bases_of (made now) listed) ≡ append_parts (sublists fs) old_bases

pub parts_first : (t : Table) (fs : List Form) (listed places : List ℕ) → IsListed (made t) listed places → PartsSoFar t t fs (bases_of (made t) listed) 0 listed places
parts_first t fs listed places is = record { more = more_same (made t); listed_is = is; rest = refl }

pub parts_more : (old now next : Table) (ids : List ℕ) (old_bases : List Form) (mask : ℕ) (listed places new_listed new_places : List ℕ) → AreBelow (length (made old)) ids → mask < 2 ^ length ids → PartsSoFar old now (forms_at (made old) ids) old_bases mask listed places → HasMore (made now) (made next) → IsListed (made next) new_listed new_places → bases_of (made next) new_listed ≡ append_part (forms_at (made now) (picked ids mask)) (bases_of (made now) listed) → PartsSoFar old next (forms_at (made old) ids) old_bases (mask + 1) new_listed new_places
parts_more old now next ids old_bases mask listed places new_listed new_places below lt so more is e = record {
  more = more_twice (made old) (made now) (made next) so.more more;
  listed_is = is;
  rest =
      let fs = forms_at (made old) ids in
      let same : forms_at (made now) (picked ids mask) ≡ part fs mask = picked_forms (made now) ids mask ∙ ap (λ l. part l mask) (forms_kept (made old) (made now) ids so.more below) in
      let l = length-map ids (form_of (made old)) in
      let inside : mask < 2 ^ length fs = subst (λ n. mask < 2 ^ n) (sym l) lt in
      ap (append_parts (drop (mask + 1) (sublists fs))) (e ∙ ap (λ k. append_part k (bases_of (made now) listed)) same)
      ∙ (sym (ap (λ k. append_parts k (bases_of (made now) listed)) (drop_get (sublists fs) mask (part fs mask) (sublists_at fs mask inside))) ∙ so.rest);
}

pub part_fault : (old now : Table) (ids : List ℕ) (old_bases : List Form) (mask : ℕ) (listed places : List ℕ) (fault : FormFault) → AreBelow (length (made old)) ids → mask < 2 ^ length ids → PartsSoFar old now (forms_at (made old) ids) old_bases mask listed places → IsTooLong (append_part (forms_at (made now) (picked ids mask)) (bases_of (made now) listed)) fault → IsTooLong (append_parts (sublists (forms_at (made old) ids)) old_bases) fault
part_fault old now ids old_bases mask listed places fault below lt so t =
    let fs = forms_at (made old) ids in
    let same : forms_at (made now) (picked ids mask) ≡ part fs mask = picked_forms (made now) ids mask ∙ ap (λ l. part l mask) (forms_kept (made old) (made now) ids so.more below) in
    let l = length-map ids (form_of (made old)) in
    let inside : mask < 2 ^ length fs = subst (λ n. mask < 2 ^ n) (sym l) lt in
    subst (λ k. IsTooLong k fault) (sym (ap (λ k. append_parts k (bases_of (made now) listed)) (drop_get (sublists fs) mask (part fs mask) (sublists_at fs mask inside))) ∙ so.rest)
    (longer_fault (append_part (part fs mask) (bases_of (made now) listed)) (append_parts (drop (mask + 1) (sublists fs)) (append_part (part fs mask) (bases_of (made now) listed))) fault (longer_parts (drop (mask + 1) (sublists fs)) (append_part (part fs mask) (bases_of (made now) listed))) (subst (λ k. IsTooLong (append_part k (bases_of (made now) listed)) fault) same t))

pub parts_done : (old now : Table) (ids : List ℕ) (old_bases : List Form) (mask : ℕ) (listed places : List ℕ) → 2 ^ length ids ≤ mask → PartsSoFar old now (forms_at (made old) ids) old_bases mask listed places → bases_of (made now) listed ≡ append_parts (sublists (forms_at (made old) ids)) old_bases
parts_done old now ids old_bases mask listed places le so =
    let fs = forms_at (made old) ids in
    let c = parts_count fs in
    let l = ap (λ n. 2 ^ n) (length-map ids (form_of (made old))) in
    ap (λ k. append_parts k (bases_of (made now) listed)) (sym (drop_all mask (sublists fs) (omega arith))) ∙ so.rest

-- the parts of an And are listed
module _ (now next : Table) (listed places new_listed new_places : List ℕ) (steps : List Step) (b : ℕ) (goal : List Form) (w : IsAdding now listed places (steps ++ Parts b ∷ []) goal) where
  parts_fit : AllByRecursion (StepFits (length (made now))) steps
  parts_fit = all_front (StepFits (length (made now))) steps (Parts b ∷ []) w.fit

  parts_next : bases_after (plain_steps (made now) steps) (append_parts (sublists (operands_of (base_at (made now) b))) (bases_of (made now) listed)) ≡ goal
  parts_next = sym (ap (λ s. bases_after s (bases_of (made now) listed)) (steps_last (made now) steps (Parts b))) ∙ w.same

  pub parts_added : HasMore (made now) (made next) → IsListed (made next) new_listed new_places → bases_of (made next) new_listed ≡ append_parts (sublists (operands_of (base_at (made now) b))) (bases_of (made now) listed) → IsAdding next new_listed new_places steps goal
  parts_added more is e = record {
    listed_is = is;
    fit = steps_fit (made now) (made next) steps more parts_fit;
    same = ap₂ (λ s l. bases_after (turned s) l) (steps_kept (made now) (made next) steps more parts_fit) e ∙ parts_next;
  }

  pub parts_fault : (fault : FormFault) → IsTooLong (append_parts (sublists (operands_of (base_at (made now) b))) (bases_of (made now) listed)) fault → IsTooLong goal fault
  parts_fault fault t = subst (λ l. IsTooLong l fault) parts_next (longer_fault (append_parts (sublists (operands_of (base_at (made now) b))) (bases_of (made now) listed)) (bases_after (plain_steps (made now) steps) (append_parts (sublists (operands_of (base_at (made now) b))) (bases_of (made now) listed))) fault (longer_steps (plain_steps (made now) steps) (append_parts (sublists (operands_of (base_at (made now) b))) (bases_of (made now) listed))) t)

  pub parts_size : HasMore (made now) (made next) → steps_size (plain_steps (made next) steps) < 1 + steps_size (plain_steps (made now) steps)
  parts_size more = let e = ap (λ s. steps_size (turned s)) (steps_kept (made now) (made next) steps more parts_fit) in omega arith

-- what holds where a call succeeds, and what where it fails

pub if_err : {T : Type 0} {P Q : FormFault → Type 0} (r : Result T FormFault) → ((e : FormFault) → P e → Q e) → IfErr r P → IfErr r Q
if_err (Ok x) f a = a
if_err (Err e) f a = f e a

-- one part is listed
pub part_same : (old new : Table) (ids : List ℕ) (listed places : List ℕ) (b : ℕ) → 2 ≤ length ids → IsListed (made old) listed places → HasMore (made old) (made new) → slice_get (made new) b ≡ Some (spelled (made old) ids) → appended (base_at (made new) b) (bases_of (made new) listed) ≡ append_part (forms_at (made old) ids) (bases_of (made old) listed)
part_same old new ids listed places b two is more at =
    let l = length-map ids (form_of (made old)) in
    ap₂ appended (get_or_from_slice_get (made new) b (spelled (made old) ids) true_form at) (bases_kept (made old) (made new) listed more is.within) ∙ long_part (forms_at (made old) ids) (bases_of (made old) listed) (omega arith)

pub added_more : (old new : Table) (f : Form) → made new ≡ appended f (made old) → HasMore (made old) (made new)
added_more old new f e = let (m, d) = appended_more f (made old) in (m, e ∙ d)

-- a fault that a `?` hands on
pub err_is : {T : Type 0} (P : FormFault → Type 0) (r : Result T FormFault) (e : FormFault) → IsErrAnd r (λ f. f ≡ e) → P e → IfErr r P
err_is P (Ok x) e same p = tt
err_is P (Err f) e same p = subst P (sym same) p

pub no_parts : (g : Form) (bases : List Form) → IsSimple g → bases ≡ append_parts (sublists (operands_of g)) bases
no_parts (var_form i) bases s = refl
no_parts true_form bases s = refl
no_parts (not_form g) bases s = absurd s
no_parts (and_form fs) bases s = absurd s

pub simple_here : (b : ℕ) → IsSimple (simple_at b)
simple_here zero = tt
simple_here (suc b) = tt

pub simple_base : (forms : List Form) (b : ℕ) → slice_get forms b ≡ Some (simple_at b) → IsSimple (base_at forms b)
simple_base forms b e = subst IsSimple (sym (get_or_from_slice_get forms b (simple_at b) true_form e)) (simple_here b)

pub and_operands : (forms : List Form) (b : ℕ) (ids : List ℕ) → slice_get forms b ≡ Some (spelled forms ids) → operands_of (base_at forms b) ≡ forms_at forms ids
and_operands forms b ids e = ap operands_of (get_or_from_slice_get forms b (spelled forms ids) true_form e) ∙ items-form_list (forms_at forms ids)

-- an And of two operands is its only part
pub two_listed : (forms : List Form) (b : ℕ) (ids : List ℕ) (bases : List Form) → slice_get forms b ≡ Some (spelled forms ids) → length ids ≡ 2 → appended (base_at forms b) bases ≡ append_parts (sublists (operands_of (base_at forms b))) bases
two_listed forms b ids bases at two = ap (λ g. appended g bases) (get_or_from_slice_get forms b (spelled forms ids) true_form at) ∙ (by_length ids two ∙ sym (ap (λ fs. append_parts (sublists fs) bases) (and_operands forms b ids at))) where
  by_length : (ns : List ℕ) → length ns ≡ 2 → appended (spelled forms ns) bases ≡ append_parts (sublists (forms_at forms ns)) bases
  by_length [] e = absurd (omega arith)
  by_length (x ∷ []) e = absurd (omega arith)
  by_length (x ∷ y ∷ []) e = refl
  by_length (x ∷ y ∷ z ∷ ns) e = absurd (omega arith)

pub adding_first : (t : Table) (listed places : List ℕ) (steps : List Step) (form : ℕ) → IsListed (made t) listed places → form / 2 < length (made t) → steps ≡ Add form ∷ [] → IsAdding t listed places steps (add_form (form_of (made t) form) (bases_of (made t) listed))
adding_first t listed places steps form is lt e = subst (λ s. IsAdding t listed places s (add_form (form_of (made t) form) (bases_of (made t) listed))) (sym e) (record { listed_is = is; fit = (lt, tt); same = refl })

pub place_pushed : (places new : List ℕ) (x : ℕ) → new ≡ places ++ no_place ∷ [] → place_of new x ≡ place_of places x
place_pushed places new x e = ap (λ l. place_of l x) e ∙ place_more places 1 x
