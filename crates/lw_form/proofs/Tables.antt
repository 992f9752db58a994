-- Tables of forms.
use Rattle.std.proofs.Common.{◌≡◌, ◌+◌, ◌-◌, ◌/◌, ◌%◌, ◌^◌, ◌==◌, ◌<◌, ◌≤◌, ◌⊎◌, inl, inr, ℕ, zero, suc, Bool, true, false, ◌||◌, cond, if◌then◌else◌, List, [], ◌∷◌, ◌++◌, length, Option, Some, slice_get, get_or, refl, ap, ap₂, sym, ◌∙◌, subst, arith, append_assoc, append-nil}
use Rattle.std.specs.List.{list_any}
use Rattle.std.specs.Str.{bytes_eq}
use Rattle.std.proofs.lemmas.List.{get_or_append_left, length_push}
use Rattle.std.proofs.lemmas.Option.{slice_get-get_or, slice_get_within}
use Rattle.std.proofs.lemmas.Slice.Eq.{bytes_eq-Decides}
use Rattle.std.proofs.lemmas.Bool.{or_right, both_ways}
use Rattle.lw_facts.proofs.Lists.{get_left, get_last, get_last_cases}
use Rattle.lw_facts.proofs.Tests.{same_tests}
use Rattle.indexmap.specs.IndexSet.{insert_key}
use Rattle.lw_laws.specs.Forms.{Form, FormList, items, form_list, and_of, same_form, is_among, complement}
use Rattle.lw_laws.specs.Forms.Form.{var_form, true_form, not_form, and_form}
use Rattle.lw_laws.specs.Listings.{sign_of}
use Rattle.lw_laws.specs.Listings.{base_form}
use Rattle.lw_laws.specs.Occurring.{appended}
use Rattle.lw_laws.specs.SignalValues.{form_of}
use Rattle.lw_laws.proofs.Equality.{same_form_refl, same_form_eq, items-form_list}
use Rattle.lw_laws.proofs.Lists.{slice_get_some}
use Rattle.lw_form.specs.Renumbered.{simple_at}
use Rattle.lw_form.specs.Tables.{AreBelow, input_forms, forms_at, spelled, made_after, forms_made, Table, made, AreMade, IsTable, HasMore, IsSimple}

-- numbers below

pub below_more : (n m : ℕ) (ids : List ℕ) → n ≤ m → AreBelow n ids → AreBelow m ids
below_more n m [] le a = tt
below_more n m (f ∷ ids) le (p, a) = (omega arith, below_more n m ids le a)

-- the form of a number stays where more forms are made

pub form_of_more : (forms more : List Form) (f : ℕ) → f / 2 < length forms → form_of (forms ++ more) f ≡ form_of forms f
form_of_more forms more f lt = ap (λ g. if f % 2 == 0 then g else complement g) (get_or_append_left forms more true_form (f / 2) lt)

pub forms_at_more : (forms more : List Form) (ids : List ℕ) → AreBelow (length forms) ids → forms_at (forms ++ more) ids ≡ forms_at forms ids
forms_at_more forms more [] a = refl
forms_at_more forms more (f ∷ ids) (p, a) = ap₂ (λ x xs. x ∷ xs) (form_of_more forms more f p) (forms_at_more forms more ids a)

-- the list of forms that are made

pub made_append : (forms : List Form) (keys : List (List ℕ)) (ids : List ℕ) → made_after forms (keys ++ ids ∷ []) ≡ made_after forms keys ++ spelled (made_after forms keys) ids ∷ []
made_append forms [] ids = refl
made_append forms (k ∷ keys) ids = made_append (forms ++ spelled forms k ∷ []) keys ids

pub made_grown : (forms : List Form) (keys : List (List ℕ)) → HasMore forms (made_after forms keys)
made_grown forms [] = ([], sym (append-nil forms))
made_grown forms (k ∷ keys) =
    let (more, e) = made_grown (forms ++ spelled forms k ∷ []) keys in
    (spelled forms k ∷ more, e ∙ append_assoc forms (spelled forms k ∷ []) more)

pub made_length : (forms : List Form) (keys : List (List ℕ)) → length (made_after forms keys) ≡ length forms + length keys
made_length forms [] = omega arith
made_length forms (k ∷ keys) = let e = made_length (forms ++ spelled forms k ∷ []) keys in let l = length_push forms (spelled forms k) in omega arith

input_count : (i n : ℕ) → length (input_forms i n) ≡ n
input_count i zero = refl
input_count i (suc n) = ap suc (input_count (i + 1) n)

pub forms_count : (inputs : ℕ) (keys : List (List ℕ)) → length (forms_made inputs keys) ≡ 1 + inputs + length keys
forms_count inputs keys = let e = made_length (true_form ∷ input_forms 0 inputs) keys in let i = input_count 0 inputs in omega arith

-- the form of key k
made_key : (forms : List Form) (keys : List (List ℕ)) (k : ℕ) (ids : List ℕ) → ((j : ℕ) (hs : List ℕ) → slice_get keys j ≡ Some hs → AreBelow (length forms + j) hs) → slice_get keys k ≡ Some ids → slice_get (made_after forms keys) (length forms + k) ≡ Some (spelled (made_after forms keys) ids)
made_key forms [] k ids below e = cc
made_key forms (hs ∷ keys) zero ids below e =
    let first : hs ≡ ids = cc in
    let (more, grown) = made_grown forms (hs ∷ keys) in
    let (later, grown') = made_grown (forms ++ spelled forms hs ∷ []) keys in
    let own : AreBelow (length forms) ids = below_more (length forms + 0) (length forms) ids (omega arith) (below 0 ids e) in
    let same : forms_at (made_after forms (hs ∷ keys)) ids ≡ forms_at forms ids = ap (λ l. forms_at l ids) grown ∙ forms_at_more forms more ids own in
    let place : length forms + 0 ≡ length forms = omega arith in
    ap (slice_get (made_after forms (hs ∷ keys))) place ∙ (ap (λ l. slice_get l (length forms)) grown' ∙ (get_left (forms ++ spelled forms hs ∷ []) later (length forms) (spelled forms hs) (get_last forms (spelled forms hs)) ∙ ap Some (ap and_of (ap (forms_at forms) first ∙ sym same))))
made_key forms (hs ∷ keys) (suc k) ids below e =
    let l = length_push forms (spelled forms hs) in
    let place : length forms + suc k ≡ length (forms ++ spelled forms hs ∷ []) + k = omega arith in
    ap (slice_get (made_after forms (hs ∷ keys))) place ∙ made_key (forms ++ spelled forms hs ∷ []) keys k ids (λ j gs d. below_more (length forms + suc j) (length (forms ++ spelled forms hs ∷ []) + j) gs (omega arith) (below (suc j) gs d)) e

module _ (t : Table) (is : IsTable t) where
  pub key_form : (k : ℕ) (ids : List ℕ) → slice_get t.keys k ≡ Some ids → slice_get (made t) (1 + t.inputs + k) ≡ Some (spelled (made t) ids)
  key_form k ids e =
      let c = input_count 0 t.inputs in
      let place : length (true_form ∷ input_forms 0 t.inputs) + k ≡ 1 + t.inputs + k = omega arith in
      ap (slice_get (made t)) (sym place) ∙ made_key (true_form ∷ input_forms 0 t.inputs) t.keys k ids (λ j hs d. below_more (1 + t.inputs + j) (length (true_form ∷ input_forms 0 t.inputs) + j) hs (omega arith) (is.before j hs d)) e

  pub key_below : (k : ℕ) (ids : List ℕ) → slice_get t.keys k ≡ Some ids → AreBelow (length (made t)) ids
  key_below k ids e =
      let c = forms_count t.inputs t.keys in
      let lt = slice_get_within t.keys k ids e in
      below_more (1 + t.inputs + k) (length (made t)) ids (omega arith) (is.before k ids e)

-- true and the inputs come first

simple_inputs : (i n b : ℕ) → b < n → (f : Form) × (slice_get (input_forms i n) b ≡ Some f) × IsSimple f
simple_inputs i zero b lt = absurd (omega arith)
simple_inputs i (suc n) zero lt = (var_form i, refl, tt)
simple_inputs i (suc n) (suc b) lt = simple_inputs (i + 1) n b (omega arith)

simple_first : (n b : ℕ) → b < 1 + n → (f : Form) × (slice_get (true_form ∷ input_forms 0 n) b ≡ Some f) × IsSimple f
simple_first n zero lt = (true_form, refl, tt)
simple_first n (suc b) lt = simple_inputs 0 n b (omega arith)

pub simple_form : (t : Table) (b : ℕ) → b < 1 + t.inputs → (f : Form) × (slice_get (made t) b ≡ Some f) × IsSimple f
simple_form t b lt =
    let (f, e, simple) = simple_first t.inputs b lt in
    let (more, grown) = made_grown (true_form ∷ input_forms 0 t.inputs) t.keys in
    (f, ap (λ l. slice_get l b) grown ∙ get_left (true_form ∷ input_forms 0 t.inputs) more b f e, simple)

not_simple : (fs : FormList) (f : Form) (o : Option Form) → o ≡ Some (and_form fs) → o ≡ Some f → IsSimple f → ⊥
not_simple fs f o e d simple = let same : f ≡ and_form fs = cc in subst IsSimple same simple

-- an And has a key
record HasKey (t : Table) (b : ℕ) : Type 0 where
  place : ℕ
  ids : List ℕ
  key : slice_get t.keys place ≡ Some ids
  at : b ≡ 1 + t.inputs + place

and_key : (t : Table) (b : ℕ) (fs : FormList) → slice_get (made t) b ≡ Some (and_form fs) → HasKey t b
and_key t b fs e = by_place (le_or_lt (1 + t.inputs) b) where
  le_or_lt : (n m : ℕ) → (n ≤ m) ⊎ (m < n)
  le_or_lt zero m = inl (omega arith)
  le_or_lt (suc n) zero = inr (omega arith)
  le_or_lt (suc n) (suc m) = elim (le_or_lt n m) [ inl l ↦ inl (omega arith) | inr l ↦ inr (omega arith) ]

  by_place : (1 + t.inputs ≤ b) ⊎ (b < 1 + t.inputs) → HasKey t b
  by_place (inl le) =
      let c = forms_count t.inputs t.keys in
      let lt = slice_get_within (made t) b (and_form fs) e in
      let (ids, k) = slice_get_some t.keys (b - (1 + t.inputs)) (omega arith) in
      record { place = b - (1 + t.inputs); ids = ids; key = k; at = omega arith }
  by_place (inr lt) = let (f, d, simple) = simple_form t b lt in absurd (not_simple fs f (slice_get (made t) b) e d simple)

-- a form's number is one

form_read : (forms : List Form) (f : ℕ) → f / 2 < length forms → slice_get forms (f / 2) ≡ Some (get_or forms (f / 2) true_form)
form_read forms f lt = slice_get-get_or forms (f / 2) true_form lt

signed_sign : (g : Form) (k : ℕ) → k < 2 → sign_of g ≡ 0 → sign_of (if k == 0 then g else complement g) ≡ k
signed_sign g zero lt z = z
signed_sign (var_form i) (suc zero) lt z = refl
signed_sign true_form (suc zero) lt z = refl
signed_sign (not_form g) (suc zero) lt z = absurd (omega arith)
signed_sign (and_form fs) (suc zero) lt z = refl
signed_sign g (suc (suc k)) lt z = absurd (omega arith)

signed_base : (g : Form) (k : ℕ) → k < 2 → sign_of g ≡ 0 → base_form (if k == 0 then g else complement g) ≡ g
signed_base (var_form i) zero lt z = refl
signed_base true_form zero lt z = refl
signed_base (not_form g) zero lt z = absurd (omega arith)
signed_base (and_form fs) zero lt z = refl
signed_base (var_form i) (suc zero) lt z = refl
signed_base true_form (suc zero) lt z = refl
signed_base (not_form g) (suc zero) lt z = absurd (omega arith)
signed_base (and_form fs) (suc zero) lt z = refl
signed_base g (suc (suc k)) lt z = absurd (omega arith)

module _ (forms : List Form) (are : AreMade forms) where
  abbrev base_at : ℕ → Form
  base_at f = get_or forms (f / 2) true_form

  base_sign : (f : ℕ) → f / 2 < length forms → sign_of (base_at f) ≡ 0
  base_sign f lt = are.signs (f / 2) (base_at f) (form_read forms f lt)

  pub form_sign : (f : ℕ) → f / 2 < length forms → sign_of (form_of forms f) ≡ f % 2
  form_sign f lt = signed_sign (base_at f) (f % 2) (omega arith) (base_sign f lt)

  pub form_base : (f : ℕ) → f / 2 < length forms → slice_get forms (f / 2) ≡ Some (base_form (form_of forms f))
  form_base f lt = form_read forms f lt ∙ ap Some (sym (signed_base (base_at f) (f % 2) (omega arith) (base_sign f lt)))

  pub same_number : (a b : ℕ) → a / 2 < length forms → b / 2 < length forms → form_of forms a ≡ form_of forms b → a ≡ b
  same_number a b la lb e =
      let sa = form_sign a la in
      let sb = form_sign b lb in
      let signs : sign_of (form_of forms a) ≡ sign_of (form_of forms b) = ap sign_of e in
      let same : a / 2 ≡ b / 2 = are.once (a / 2) (b / 2) (base_form (form_of forms b)) (form_base a la ∙ ap (λ f. Some (base_form f)) e) (form_base b lb) in
      omega arith

  pub same_numbers : (xs ys : List ℕ) → AreBelow (length forms) xs → AreBelow (length forms) ys → forms_at forms xs ≡ forms_at forms ys → xs ≡ ys
  same_numbers [] [] la lb e = refl
  same_numbers [] (b ∷ ys) la lb e = cc
  same_numbers (a ∷ xs) [] la lb e = cc
  same_numbers (a ∷ xs) (b ∷ ys) (la, lxs) (lb, lys) e =
      let first : form_of forms a ≡ form_of forms b = cc in
      let rest : forms_at forms xs ≡ forms_at forms ys = cc in
      ap₂ (λ z zs. z ∷ zs) (same_number a b la lb first) (same_numbers xs ys lxs lys rest)

pub same_items : (fs hs : List Form) → and_of fs ≡ and_of hs → fs ≡ hs
same_items fs hs e = let lists : form_list fs ≡ form_list hs = cc in sym (items-form_list fs) ∙ (ap items lists ∙ items-form_list hs)

-- members of a list of forms

pub among_place : (f : Form) (forms : List Form) → is_among f forms ≡ true → (b : ℕ) × (slice_get forms b ≡ Some f)
among_place f [] e = cc
among_place f (h ∷ hs) e = by_test (same_form f h) refl e (among_place f hs) where
  by_test : (t : Bool) → same_form f h ≡ t → (t || is_among f hs) ≡ true → (is_among f hs ≡ true → (b : ℕ) × (slice_get hs b ≡ Some f)) → (b : ℕ) × (slice_get (h ∷ hs) b ≡ Some f)
  by_test true s e ih = (0, ap Some (sym (same_form_eq f h s)))
  by_test false s e ih = let (b, k) = ih e in (suc b, k)

pub place_among : (f : Form) (forms : List Form) (b : ℕ) → slice_get forms b ≡ Some f → is_among f forms ≡ true
place_among f [] b e = cc
place_among f (h ∷ hs) zero e = let k : h ≡ f = cc in ap (λ t. t || is_among f hs) (ap (same_form f) k ∙ same_form_refl f)
place_among f (h ∷ hs) (suc b) e = or_right (same_form f h) (is_among f hs) (place_among f hs b e)

key_place : (ids : List ℕ) (keys : List (List ℕ)) → list_any (bytes_eq ids) keys ≡ true → (k : ℕ) × (slice_get keys k ≡ Some ids)
key_place ids [] e = cc
key_place ids (h ∷ hs) e = by_test (bytes_eq ids h) refl e (key_place ids hs) where
  by_test : (t : Bool) → bytes_eq ids h ≡ t → (t || list_any (bytes_eq ids) hs) ≡ true → (list_any (bytes_eq ids) hs ≡ true → (b : ℕ) × (slice_get hs b ≡ Some ids)) → (b : ℕ) × (slice_get (h ∷ hs) b ≡ Some ids)
  by_test true s e ih = (0, ap Some (sym ((bytes_eq-Decides ids h).0 s)))
  by_test false s e ih = let (b, k) = ih e in (suc b, k)

place_key : (ids : List ℕ) (keys : List (List ℕ)) (k : ℕ) → slice_get keys k ≡ Some ids → list_any (bytes_eq ids) keys ≡ true
place_key ids [] k e = cc
place_key ids (h ∷ hs) zero e = let k : h ≡ ids = cc in ap (λ t. t || list_any (bytes_eq ids) hs) (ap (bytes_eq ids) k ∙ (bytes_eq-Decides ids ids).1 refl)
place_key ids (h ∷ hs) (suc k) e = or_right (bytes_eq ids h) (list_any (bytes_eq ids) hs) (place_key ids hs k e)

-- an And is made exactly where its key is there
keyed_made : (t : Table) (ids : List ℕ) → IsTable t → AreBelow (length (made t)) ids → list_any (bytes_eq ids) t.keys ≡ true → is_among (spelled (made t) ids) (made t) ≡ true
keyed_made t ids is below e = let (k, d) = key_place ids t.keys e in place_among (spelled (made t) ids) (made t) (1 + t.inputs + k) (key_form t is k ids d)

made_keyed : (t : Table) (ids : List ℕ) → IsTable t → AreBelow (length (made t)) ids → is_among (spelled (made t) ids) (made t) ≡ true → list_any (bytes_eq ids) t.keys ≡ true
made_keyed t ids is below e =
    let (b, d) = among_place (spelled (made t) ids) (made t) e in
    let h = and_key t b (form_list (forms_at (made t) ids)) d in
    let own = key_form t is h.place h.ids h.key in
    let same : spelled (made t) h.ids ≡ spelled (made t) ids = one (spelled (made t) h.ids) (spelled (made t) ids) (slice_get (made t) b) (ap (slice_get (made t)) h.at ∙ own) d in
    let ids' : h.ids ≡ ids = same_numbers (made t) is.are h.ids ids (key_below t is h.place h.ids h.key) below (same_items (forms_at (made t) h.ids) (forms_at (made t) ids) same) in
    place_key ids t.keys h.place (h.key ∙ ap Some ids')
  where
    one : (f h : Form) (o : Option Form) → o ≡ Some f → o ≡ Some h → f ≡ h
    one f h o e d = cc

keyed : (t : Table) (ids : List ℕ) → IsTable t → AreBelow (length (made t)) ids → list_any (bytes_eq ids) t.keys ≡ is_among (spelled (made t) ids) (made t)
keyed t ids is below = same_tests (list_any (bytes_eq ids) t.keys) (is_among (spelled (made t) ids) (made t)) (keyed_made t ids is below) (made_keyed t ids is below)

-- the table with one more And, where it isn't there
abbrev pub with_key : Table → List ℕ → Table
with_key t ids = record { inputs = t.inputs; keys = insert_key bytes_eq t.keys ids }

pub appended_more : (f : Form) (forms : List Form) → HasMore forms (appended f forms)
appended_more f forms = by_test (is_among f forms) where
  by_test : (t : Bool) → HasMore forms (cond t forms (forms ++ f ∷ []))
  by_test true = ([], sym (append-nil forms))
  by_test false = (f ∷ [], refl)

pub made_with : (t : Table) (ids : List ℕ) → IsTable t → AreBelow (length (made t)) ids → made (with_key t ids) ≡ appended (spelled (made t) ids) (made t)
made_with t ids is below = by_test (list_any (bytes_eq ids) t.keys) (is_among (spelled (made t) ids) (made t)) (keyed t ids is below) where
  by_test : (a b : Bool) → a ≡ b → forms_made t.inputs (cond a t.keys (t.keys ++ ids ∷ [])) ≡ cond b (made t) (made t ++ spelled (made t) ids ∷ [])
  by_test true true e = refl
  by_test false false e = made_append (true_form ∷ input_forms 0 t.inputs) t.keys ids
  by_test true false e = cc
  by_test false true e = cc

one_made : (forms : List Form) (f : Form) → AreMade forms → length forms < 2 ^ 31 → sign_of f ≡ 0 → is_among f forms ≡ false → AreMade (forms ++ f ∷ [])
one_made forms f are lt z new = record {
  first = get_left forms (f ∷ []) 0 true_form are.first;
  signs = λ b g e. sign b g (get_last_cases forms f b g e);
  once = λ a b g d e. place a b g (get_last_cases forms f a g d) (get_last_cases forms f b g e);
  few = let l = length_push forms f in omega arith;
} where
  sign : (b : ℕ) (g : Form) → (slice_get forms b ≡ Some g) ⊎ ((b ≡ length forms) × (g ≡ f)) → sign_of g ≡ 0
  sign b g (inl e) = are.signs b g e
  sign b g (inr (e, s)) = ap sign_of s ∙ z

  other : (b : ℕ) (g : Form) → slice_get forms b ≡ Some g → g ≡ f → ⊥
  other b g e s = both_ways (is_among f forms) new (place_among f forms b (e ∙ ap Some s))

  place : (a b : ℕ) (g : Form) → (slice_get forms a ≡ Some g) ⊎ ((a ≡ length forms) × (g ≡ f)) → (slice_get forms b ≡ Some g) ⊎ ((b ≡ length forms) × (g ≡ f)) → a ≡ b
  place a b g (inl d) (inl e) = are.once a b g d e
  place a b g (inl d) (inr (e, s)) = absurd (other a g d s)
  place a b g (inr (d, s)) (inl e) = absurd (other b g e s)
  place a b g (inr (d, s)) (inr (e, r)) = d ∙ sym e

pub table_with : (t : Table) (ids : List ℕ) → IsTable t → AreBelow (length (made t)) ids → length (made t) < 2 ^ 31 → IsTable (with_key t ids)
table_with t ids is below lt = record {
  before = λ k hs e. by_test (list_any (bytes_eq ids) t.keys) k hs e;
  are = subst AreMade (sym (made_with t ids is below)) (by_new (is_among (spelled (made t) ids) (made t)) refl);
} where
  last : (k : ℕ) (hs : List ℕ) → (slice_get t.keys k ≡ Some hs) ⊎ ((k ≡ length t.keys) × (hs ≡ ids)) → AreBelow (1 + t.inputs + k) hs
  last k hs (inl e) = is.before k hs e
  last k hs (inr (e, s)) =
      let c = forms_count t.inputs t.keys in
      subst (AreBelow (1 + t.inputs + k)) (sym s) (below_more (length (made t)) (1 + t.inputs + k) ids (omega arith) below)

  by_test : (b : Bool) (k : ℕ) (hs : List ℕ) → slice_get (cond b t.keys (t.keys ++ ids ∷ [])) k ≡ Some hs → AreBelow (1 + t.inputs + k) hs
  by_test true k hs e = is.before k hs e
  by_test false k hs e = last k hs (get_last_cases t.keys ids k hs e)

  by_new : (b : Bool) → is_among (spelled (made t) ids) (made t) ≡ b → AreMade (cond b (made t) (made t ++ spelled (made t) ids ∷ []))
  by_new true e = is.are
  by_new false e = one_made (made t) (spelled (made t) ids) is.are lt refl e

-- the And stands where its key is
pub form_with : (t : Table) (ids k : List ℕ) (place : ℕ) → IsTable t → AreBelow (length (made t)) ids → length (made t) < 2 ^ 31 → slice_get (insert_key bytes_eq t.keys ids) place ≡ Some k → bytes_eq ids k ≡ true → slice_get (made (with_key t ids)) (1 + t.inputs + place) ≡ Some (spelled (made t) ids)
form_with t ids k place is below lt e same =
    let key : slice_get (insert_key bytes_eq t.keys ids) place ≡ Some ids = e ∙ ap Some (sym ((bytes_eq-Decides ids k).0 same)) in
    let (more, grown) = appended_more (spelled (made t) ids) (made t) in
    let all = made_with t ids is below ∙ grown in
    key_form (with_key t ids) (table_with t ids is below lt) place ids key ∙ ap (λ l. Some (and_of l)) (ap (λ l. forms_at l ids) all ∙ forms_at_more (made t) more ids below)

pub record IsAdded (t : Table) (keys : List (List ℕ)) (ids : List ℕ) (place : ℕ) : Type 0 where
  pub table : IsTable (record { inputs = t.inputs; keys = keys })
  pub made_is : made (record { inputs = t.inputs; keys = keys }) ≡ appended (spelled (made t) ids) (made t)
  pub at : slice_get (made (record { inputs = t.inputs; keys = keys })) (1 + t.inputs + place) ≡ Some (spelled (made t) ids)
  pub fits : 1 + t.inputs + place < 2 ^ 31

pub added : (t : Table) (keys : List (List ℕ)) (ids : List ℕ) (place : ℕ) → IsTable t → AreBelow (length (made t)) ids → (2 ^ 31 ≤ length (made t) → ⊥) → keys ≡ insert_key bytes_eq t.keys ids → (k : List ℕ) × (slice_get keys place ≡ Some k) × (bytes_eq ids k ≡ true) → IsAdded t keys ids place
added t keys ids place is below room e (k, at, same) =
    subst (λ l. IsAdded t l ids place) (sym e) (record {
      table = grown;
      made_is = made_with t ids is below;
      at = form_with t ids k place is below lt at' same;
      fits = let c = forms_count t.inputs (insert_key bytes_eq t.keys ids) in let inside = slice_get_within (insert_key bytes_eq t.keys ids) place k at' in let few = grown.are.few in omega arith;
    })
  where
    lt : length (made t) < 2 ^ 31
    lt = below_of (length (made t)) (2 ^ 31) room where
      below_of : (n m : ℕ) → (m ≤ n → ⊥) → n < m
      below_of n m h = omega arith

    grown : IsTable (with_key t ids)
    grown = table_with t ids is below lt

    at' : slice_get (insert_key bytes_eq t.keys ids) place ≡ Some k
    at' = ap (λ l. slice_get l place) (sym e) ∙ at

-- a new table

simple_sign : (f : Form) → IsSimple f → sign_of f ≡ 0
simple_sign true_form s = refl
simple_sign (var_form i) s = refl
simple_sign (not_form f) s = absurd s
simple_sign (and_form fs) s = refl

input_at : (i n k : ℕ) (f : Form) → slice_get (input_forms i n) k ≡ Some f → f ≡ var_form (i + k)
input_at i zero k f e = cc
input_at i (suc n) zero f e = let z : i ≡ i + 0 = omega arith in let same : var_form i ≡ f = cc in sym same ∙ ap var_form z
input_at i (suc n) (suc k) f e = let z : i + 1 + k ≡ i + suc k = omega arith in input_at (i + 1) n k f e ∙ ap var_form z

input_once : (n a b : ℕ) (f : Form) → slice_get (true_form ∷ input_forms 0 n) a ≡ Some f → slice_get (true_form ∷ input_forms 0 n) b ≡ Some f → a ≡ b
input_once n zero zero f d e = refl
input_once n zero (suc b) f d e = let s = input_at 0 n b f e in let t : true_form ≡ f = cc in absurd (differ (t ∙ s)) where
  differ : true_form ≡ var_form (0 + b) → ⊥
  differ e = cc
input_once n (suc a) zero f d e = let s = input_at 0 n a f d in let t : true_form ≡ f = cc in absurd (differ (t ∙ s)) where
  differ : true_form ≡ var_form (0 + a) → ⊥
  differ e = cc
input_once n (suc a) (suc b) f d e = let s = input_at 0 n a f d in let t = input_at 0 n b f e in let same : 0 + a ≡ 0 + b = one (sym s ∙ t) in omega arith where
  one : var_form (0 + a) ≡ var_form (0 + b) → 0 + a ≡ 0 + b
  one e = cc

pub new_table : (inputs : ℕ) (keys : List (List ℕ)) → keys ≡ [] → inputs < 2 ^ 31 → IsTable (record { inputs = inputs; keys = keys })
new_table inputs keys e lt =
    subst (λ l. IsTable (record { inputs = inputs; keys = l })) (sym e) (record {
      before = λ k ids d. absurd (none k ids d);
      are = record {
        first = refl;
        signs = λ b f d. sign b f d;
        once = input_once inputs;
        few = let c = input_count 0 inputs in omega arith;
      };
    })
  where
    none : (k : ℕ) (ids : List ℕ) → slice_get [] k ≡ Some ids → ⊥
    none k ids d = cc

    sign : (b : ℕ) (f : Form) → slice_get (true_form ∷ input_forms 0 inputs) b ≡ Some f → sign_of f ≡ 0
    sign b f d =
        let c = input_count 0 inputs in
        let lt = slice_get_within (true_form ∷ input_forms 0 inputs) b f d in
        let (g, e, simple) = simple_first inputs b (omega arith) in
        let same : g ≡ f = cc in
        ap sign_of (sym same) ∙ simple_sign g simple

-- the key at a place past the inputs
pub and_at : (t : Table) (b : ℕ) (ids : List ℕ) → IsTable t → t.inputs < b → slice_get t.keys (b - t.inputs - 1) ≡ Some ids → slice_get (made t) b ≡ Some (spelled (made t) ids)
and_at t b ids is lt e = let place : 1 + t.inputs + (b - t.inputs - 1) ≡ b = omega arith in ap (slice_get (made t)) (sym place) ∙ key_form t is (b - t.inputs - 1) ids e

pub input_place : (i n k : ℕ) → k < n → slice_get (input_forms i n) k ≡ Some (var_form (i + k))
input_place i zero k lt = absurd (omega arith)
input_place i (suc n) zero lt = let z : i ≡ i + 0 = omega arith in ap (λ j. Some (var_form j)) z
input_place i (suc n) (suc k) lt = let z : i + 1 + k ≡ i + suc k = omega arith in input_place (i + 1) n k (omega arith) ∙ ap (λ j. Some (var_form j)) z

simple_place : (n b : ℕ) → b < 1 + n → slice_get (true_form ∷ input_forms 0 n) b ≡ Some (simple_at b)
simple_place n zero lt = refl
simple_place n (suc b) lt = let z : 0 + b ≡ b = omega arith in input_place 0 n b (omega arith) ∙ ap (λ j. Some (var_form j)) z

-- true and the inputs stand at the first places
pub simple_kind : (t : Table) (b : ℕ) → b < 1 + t.inputs → slice_get (made t) b ≡ Some (simple_at b)
simple_kind t b lt =
    let (more, grown) = made_grown (true_form ∷ input_forms 0 t.inputs) t.keys in
    ap (λ l. slice_get l b) grown ∙ get_left (true_form ∷ input_forms 0 t.inputs) more b (simple_at b) (simple_place t.inputs b lt)
