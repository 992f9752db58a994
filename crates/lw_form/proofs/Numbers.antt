-- Numbers of forms in the list.
use Rattle.std.proofs.Common.{◌≡◌, ◌+◌, ◌*◌, ◌/◌, ◌%◌, ◌^◌, ◌<◌, ◌≤◌, ℕ, zero, suc, Bool, true, false, ◌||◌, cond, List, [], ◌∷◌, ◌++◌, length, map, take, Some, slice_get, get_or, refl, ap, ap₂, sym, ◌∙◌, subst, arith, eqb-true}
use Rattle.std.specs.List.{AllByRecursion, list_any}
use Rattle.std.proofs.lemmas.List.{length-map, map-append, take_more, take_all}
use Rattle.std.proofs.lemmas.Option.{slice_get-get_or, get_or_from_slice_get, slice_get_within}
use Rattle.std.proofs.lemmas.Slice.Eq.{bytes_eq-Decides}
use Rattle.indexmap.specs.IndexSet.{insert_key}
use Rattle.lw_laws.specs.Listings.{Listing, base_form}
use Rattle.lw_laws.specs.Forms.{Form}
use Rattle.lw_laws.specs.Forms.Form.{var_form, true_form}
use Rattle.lw_laws.specs.Listings.{IsListing, IsListedBefore, sign_of}
use Rattle.lw_laws.specs.Numbering.{number, numbered_base}
use Rattle.lw_laws.specs.NumberedForms as laws
use Rattle.lw_laws.specs.NumberedForms.Base.{base_true, base_input, base_and}
use Rattle.lw_laws.specs.SignalValues.{form_of}
use Rattle.lw_laws.proofs.Equality.{items-form_list}
use Rattle.lw_laws.proofs.Numbers.{slice_get_map, slice_get_map_back, number_of}
use Rattle.lw_form.specs.declared.base.Base.{Base}
use Rattle.lw_form.specs.declared.base.Base.TheVariants.{True, Input, And}
use Rattle.lw_form.specs.contracts.base.BasePartialEq.TheImpl.{eq-value}
use Rattle.lw_form.specs.Bases.{plain_base}
use Rattle.lw_form.specs.Listed.{base_at, bases_of, place_of, IsListed}
use Rattle.lw_form.specs.Renumbered.{renumber, ArePlaced, IsBaseOf}
use Rattle.lw_form.specs.Tables.{AreBelow, forms_at, spelled, AreMade}
use Rattle.lw_form.proofs.Tables.{form_sign, form_base}
use Rattle.lw_form.proofs.KeptForms.{once_kept}

-- a list of numbers, one after the other
pub placed_at : (places ids : List ℕ) (i : ℕ) → i < length ids → ArePlaced places ids → place_of places (get_or ids i 0 / 2) < 2 ^ 31
placed_at places [] i lt a = absurd (omega arith)
placed_at places (x ∷ ids) zero lt (p, a) = p
placed_at places (x ∷ ids) (suc i) lt (p, a) = placed_at places ids i (omega arith) a

pub renumbered_more : (places ids old new : List ℕ) (i n : ℕ) → i < length ids → n ≡ renumber places (get_or ids i 0) → new ≡ old ++ n ∷ [] → old ≡ map (renumber places) (take i ids) → new ≡ map (renumber places) (take (i + 1) ids)
renumbered_more places ids old new i n lt is grown so = grown ∙ (ap₂ (λ l k. l ++ k ∷ []) so is ∙ (sym (map-append (renumber places) (take i ids) (get_or ids i 0 ∷ [])) ∙ sym (ap (map (renumber places)) (take_more ids i 0 lt))))

pub renumbered_done : (places ids done : List ℕ) (i : ℕ) → length ids ≤ i → done ≡ map (renumber places) (take i ids) → done ≡ map (renumber places) ids
renumbered_done places ids done i le so = so ∙ ap (map (renumber places)) (take_all i ids le)

module _ (forms : List Form) (are : AreMade forms) (listed places : List ℕ) (is : IsListed forms listed places) (o : Listing) (lists : IsListing o) (bases : o.bases ≡ bases_of forms listed) where
  -- a listed base form's place
  place_known : (f k : ℕ) → f / 2 < length forms → slice_get o.bases k ≡ Some (base_form (form_of forms f)) → place_of places (f / 2) ≡ k
  place_known f k lt e =
      let (b, at, same) = slice_get_map_back (base_at forms) listed k (base_form (form_of forms f)) (ap (λ l. slice_get l k) (sym bases) ∙ e) in
      let here : b ≡ f / 2 = are.once b (f / 2) (base_form (form_of forms f)) (slice_get-get_or forms b true_form (is.within k b at) ∙ ap Some same) (form_base forms are f lt) in
      ap (place_of places) (sym here) ∙ is.placed k b at

  pub renumbers : (f k : ℕ) → f / 2 < length forms → slice_get o.bases k ≡ Some (base_form (form_of forms f)) → renumber places f ≡ number o.bases (form_of forms f)
  renumbers f k lt e =
      let p = place_known f k lt e in
      let s = form_sign forms are f lt in
      number_of o lists (form_of forms f) (renumber places f) (k, e, two (place_of places (f / 2)) k (f % 2) (sign_of (form_of forms f)) p s)
    where
      two : (a b c d : ℕ) → a ≡ b → d ≡ c → 2 * a + c ≡ 2 * b + d
      two a b c d p s = omega arith

  pub is_placed : (f k : ℕ) → f / 2 < length forms → slice_get o.bases k ≡ Some (base_form (form_of forms f)) → place_of places (f / 2) < 2 ^ 31
  is_placed f k lt e =
      let p = place_known f k lt e in
      let in' = slice_get_within o.bases k (base_form (form_of forms f)) e in
      let l = ap length bases in
      let m = length-map listed (base_at forms) in
      let few = is.few in
      omega arith

  numbers_of : (b : ℕ) (ids : List ℕ) → AreBelow (length forms) ids → AllByRecursion (IsListedBefore o.bases b) (forms_at forms ids) → map (renumber places) ids ≡ map (number o.bases) (forms_at forms ids)
  numbers_of b [] below a = refl
  numbers_of b (f ∷ ids) (p, below) ((k, e, lt), a) = ap₂ (λ x xs. x ∷ xs) (renumbers f k p e) (numbers_of b ids below a)

  all_placed : (b : ℕ) (ids : List ℕ) → AreBelow (length forms) ids → AllByRecursion (IsListedBefore o.bases b) (forms_at forms ids) → ArePlaced places ids
  all_placed b [] below a = tt
  all_placed b (f ∷ ids) (p, below) ((k, e, lt), a) = (is_placed f k p e, all_placed b ids below a)

  listed_form : (k b : ℕ) → slice_get listed k ≡ Some b → slice_get o.bases k ≡ Some (base_at forms b)
  listed_form k b e = ap (λ l. slice_get l k) bases ∙ slice_get_map (base_at forms) listed k b e

  operands_before : (k b : ℕ) (ids : List ℕ) → slice_get listed k ≡ Some b → slice_get forms b ≡ Some (spelled forms ids) → AllByRecursion (IsListedBefore o.bases k) (forms_at forms ids)
  operands_before k b ids e at =
      let base : base_at forms b ≡ spelled forms ids = get_or_from_slice_get forms b (spelled forms ids) true_form at in
      subst (AllByRecursion (IsListedBefore o.bases k)) (items-form_list (forms_at forms ids)) (lists.ands k _ (listed_form k b e ∙ ap Some base)).before

  pub operands_placed : (k b : ℕ) → slice_get listed k ≡ Some b → (ids : List ℕ) → slice_get forms b ≡ Some (spelled forms ids) → AreBelow (length forms) ids → ArePlaced places ids
  operands_placed k b e ids at below = all_placed k ids below (operands_before k b ids e at)

  -- the base form over numbers in the list
  pub base_is : (k b : ℕ) (base : laws.Base) → slice_get listed k ≡ Some b → IsBaseOf forms places b base → base ≡ numbered_base o.bases (base_at forms b)
  base_is k b base_true e s = sym (ap (numbered_base o.bases) (get_or_from_slice_get forms b true_form true_form s))
  base_is k b (base_input i) e s = sym (ap (numbered_base o.bases) (get_or_from_slice_get forms b (var_form i) true_form s))
  base_is k b (base_and ns) e (ids, at, below, same) =
      ap base_and (same ∙ (numbers_of k ids below (operands_before k b ids e at) ∙ ap (map (number o.bases)) (sym (items-form_list (forms_at forms ids)))))
      ∙ sym (ap (numbered_base o.bases) (get_or_from_slice_get forms b (spelled forms ids) true_form at))

  -- the list of base forms so far
  nb : laws.Base → laws.Base
  nb b = b

  same_eq : (a b : Base) → eq-value.it a b ≡ true → plain_base a ≡ plain_base b
  same_eq True True e = refl
  same_eq True (Input i) e = cc
  same_eq True (And ids) e = cc
  same_eq (Input i) True e = cc
  same_eq (Input i) (Input j) e = ap base_input (eqb-true i j e)
  same_eq (Input i) (And ids) e = cc
  same_eq (And ids) True e = cc
  same_eq (And ids) (Input i) e = cc
  same_eq (And ids) (And hs) e = ap base_and ((bytes_eq-Decides ids hs).0 e)

  none_same : (key : Base) (keys : List Base) → ((j : ℕ) → slice_get (map plain_base keys) j ≡ Some (plain_base key) → ⊥) → list_any (eq-value.it key) keys ≡ false
  none_same key [] h = refl
  none_same key (k ∷ keys) h = by_test (eq-value.it key k) refl (none_same key keys (λ j e. h (suc j) e)) where
    by_test : (t : Bool) → eq-value.it key k ≡ t → list_any (eq-value.it key) keys ≡ false → (t || list_any (eq-value.it key) keys) ≡ false
    by_test true s ih = absurd (h 0 (ap Some (sym (same_eq key k s))))
    by_test false s ih = ih

  get_take : (xs : List laws.Base) (i j : ℕ) (x : laws.Base) → slice_get (take i xs) j ≡ Some x → (j < i) × (slice_get xs j ≡ Some x)
  get_take [] zero j x e = cc
  get_take [] (suc i) j x e = cc
  get_take (y ∷ xs) zero j x e = cc
  get_take (y ∷ xs) (suc i) zero x e = (omega arith, e)
  get_take (y ∷ xs) (suc i) (suc j) x e = let (lt, d) = get_take xs i j x e in (omega arith, d)

  pub base_added : (keys new : List Base) (key : Base) (i b : ℕ) → slice_get listed i ≡ Some b → IsBaseOf forms places b (plain_base key) → new ≡ insert_key (eq-value.it) keys key → map plain_base keys ≡ take i (map (numbered_base o.bases) o.bases) → map plain_base new ≡ take (i + 1) (map (numbered_base o.bases) o.bases)
  base_added keys new key i b e s grown so =
      let same : plain_base key ≡ numbered_base o.bases (base_at forms b) = base_is i b (plain_base key) e s in
      let here : slice_get (map (numbered_base o.bases) o.bases) i ≡ Some (plain_base key) = slice_get_map (numbered_base o.bases) o.bases i (base_at forms b) (listed_form i b e) ∙ ap Some (sym same) in
      let fresh = none_same key keys (λ j d. let (lt, at) = get_take (map (numbered_base o.bases) o.bases) i j (plain_base key) (ap (λ l. slice_get l j) (sym so) ∙ d) in let twice = once_kept o lists j i (plain_base key) at here in absurd (omega arith)) in
      let lt = slice_get_within (map (numbered_base o.bases) o.bases) i (plain_base key) here in
      ap (map plain_base) (grown ∙ ap (λ t. cond t keys (keys ++ key ∷ [])) fresh)
      ∙ (map-append plain_base keys (key ∷ [])
      ∙ (ap₂ (λ l x. l ++ x ∷ []) so (sym (get_or_from_slice_get (map (numbered_base o.bases) o.bases) i (plain_base key) base_true here)) ∙ sym (take_more (map (numbered_base o.bases) o.bases) i base_true lt)))

  pub bases_done : (keys : List Base) (i : ℕ) → length listed ≤ i → map plain_base keys ≡ take i (map (numbered_base o.bases) o.bases) → map plain_base keys ≡ map (numbered_base (bases_of forms listed)) (bases_of forms listed)
  bases_done keys i le so =
      let a = length-map o.bases (numbered_base o.bases) in
      let l = ap length bases in
      let m = length-map listed (base_at forms) in
      so ∙ (take_all i (map (numbered_base o.bases) o.bases) (omega arith) ∙ ap (λ bs. map (numbered_base bs) bs) bases)
