-- Rows, and sums of products.
use Rattle.std.proofs.Common.{◌≡◌, ◌+◌, ◌/◌, ◌<◌, ◌≤◌, ℕ, zero, suc, Bool, true, false, Option, Some, None, List, [], ◌∷◌, ◌++◌, length, map, take, drop, get_or, slice_set, refl, ap, ap₂, sym, ◌∙◌, subst, arith, append_assoc, append-nil}
use Rattle.std.proofs.lemmas.List.{at_drop_more, map-append, drop_all, take_all, length-map, length-set, get_or-map}
use Rattle.std.specs.Bool.{beq}
use Rattle.std.specs.List.{refill}
use Rattle.lw_net.specs.Signs.{asked}
use Rattle.lw_laws.specs.Forms.{Form, conjunction, disjunction}
use Rattle.lw_laws.specs.Signals.{signed, literals, sum_of_products, asks, has_at, cleared_at}
use Rattle.lw_laws.specs.SignalValues.{form_of}
use Rattle.lw_form.specs.Products.{signed_number, literal_numbers, HaveColumns}
use Rattle.lw_form.specs.Tables.{AreBelow, forms_at, AreMade, HasMore, Table, made, IsMadeAs, AreMadeAs}
use Rattle.lw_form.proofs.Joining.{more_same, more_twice, forms_kept, below_kept_more, below_append, below_other, or_one}
use Rattle.lw_form.proofs.Conjunctions.{complement_of}

has_read : (k : ℕ) (sign : Bool) (signs : List ℕ) (o : Option Bool) → k < length (map asked signs) → o ≡ asked (get_or signs k 0) → has_at k sign (map asked signs) ≡ asks sign o
has_read k sign [] o lt e = absurd (omega arith)
has_read zero sign (c ∷ signs) o lt e = ap (asks sign) (sym e)
has_read (suc k) sign (c ∷ signs) o lt e = has_read k sign signs o (omega arith) e

pub has_some : (k : ℕ) (sign : Bool) (signs : List ℕ) (o : Option Bool) (b : Bool) → k < length (map asked signs) → o ≡ asked (get_or signs k 0) → o ≡ Some b → beq b sign ≡ has_at k sign (map asked signs)
has_some k sign signs o b lt e s = sym (has_read k sign signs o lt e ∙ (ap (asks sign) s ∙ same sign b)) where
  same : (sign b : Bool) → asks sign (Some b) ≡ beq b sign
  same true true = refl
  same true false = refl
  same false true = refl
  same false false = refl

pub has_none : (k : ℕ) (sign : Bool) (signs : List ℕ) (o : Option Bool) → k < length (map asked signs) → o ≡ asked (get_or signs k 0) → o ≡ None → false ≡ has_at k sign (map asked signs)
has_none k sign signs o lt e s = sym (has_read k sign signs o lt e ∙ (ap (asks sign) s ∙ none sign)) where
  none : (sign : Bool) → asks sign None ≡ false
  none true = refl
  none false = refl

-- a row without the column has it not, and stays as it is where it is taken away
pub has_past : (k : ℕ) (sign : Bool) (row : List (Option Bool)) → length row ≤ k → false ≡ has_at k sign row
has_past k sign [] le = refl
has_past zero sign (c ∷ row) le = absurd (omega arith)
has_past (suc k) sign (c ∷ row) le = has_past k sign row (omega arith)

pub cleared_past : (k : ℕ) (row : List (Option Bool)) → length row ≤ k → row ≡ cleared_at k row
cleared_past k [] le = refl
cleared_past zero (c ∷ row) le = absurd (omega arith)
cleared_past (suc k) (c ∷ row) le = ap (λ l. c ∷ l) (cleared_past k row (omega arith))

cleared : (k : ℕ) (signs : List ℕ) → map asked (slice_set signs k 45) ≡ cleared_at k (map asked signs)
cleared k [] = refl
cleared zero (c ∷ signs) = refl
cleared (suc k) (c ∷ signs) = ap (λ l. asked c ∷ l) (cleared k signs)

-- the signs after one is replaced
pub cleared_now : (k : ℕ) (signs seen : List ℕ) → seen ≡ signs → map asked (refill (length signs) signs (slice_set seen k 45)) ≡ cleared_at k (map asked signs)
cleared_now k signs seen e =
    let put : List ℕ = slice_set signs k 45 in
    let same : length put ≡ length signs = length-set signs k 45 in
    ap (λ l. map asked (refill (length signs) signs (slice_set l k 45))) e
    ∙ (ap (map asked) (ap (λ l. take (length signs) (put ++ l)) (drop_all (length put) signs (omega arith)) ∙ (ap (take (length signs)) (append-nil put) ∙ take_all (length signs) put (omega arith)))
    ∙ cleared k signs)

-- the row of some signs, read at a column
pub asked_row : (signs fanins : List ℕ) (i : ℕ) → i < length signs → length signs ≡ length fanins → (i < length (map asked signs)) × (length (map asked signs) ≡ length fanins) × (get_or (map asked signs) i None ≡ asked (get_or signs i 0))
asked_row signs fanins i lt e = let l = length-map signs asked in (omega arith, l ∙ e, get_or-map asked signs i 0 None lt)

pub columns_at : (n : ℕ) (rows : List (List (Option Bool))) (i : ℕ) (row : List (Option Bool)) → HaveColumns n rows → i < length rows → row ≡ get_or rows i row → length row ≡ n
columns_at n [] i row h lt e = absurd (omega arith)
columns_at n (r ∷ rows) zero row (p, h) lt e = ap length e ∙ p
columns_at n (r ∷ rows) (suc i) row (p, h) lt e = columns_at n rows i row h (omega arith) e

-- literals

literals_at : (fanins : List ℕ) (row : List (Option Bool)) (i : ℕ) (o : Option Bool) → i < length row → length row ≡ length fanins → get_or row i None ≡ o → literal_numbers (drop i fanins) (drop i row) ≡ literal_numbers (get_or fanins i 0 ∷ drop (i + 1) fanins) (o ∷ drop (i + 1) row)
literals_at fanins row i o lt e r =
    at_drop_more (λ l. literal_numbers l (drop i row)) fanins i 0 (omega arith)
    ∙ (at_drop_more (literal_numbers (get_or fanins i 0 ∷ drop (i + 1) fanins)) row i None lt ∙ ap (λ p. literal_numbers (get_or fanins i 0 ∷ drop (i + 1) fanins) (p ∷ drop (i + 1) row)) r)

pub literal_one : (fanins : List ℕ) (row : List (Option Bool)) (i : ℕ) (sign : Bool) (old new : List ℕ) (n : ℕ) → i < length row → length row ≡ length fanins → get_or row i None ≡ Some sign → n ≡ signed_number sign (get_or fanins i 0) → new ≡ old ++ n ∷ [] → old ++ literal_numbers (drop i fanins) (drop i row) ≡ literal_numbers fanins row → new ++ literal_numbers (drop (i + 1) fanins) (drop (i + 1) row) ≡ literal_numbers fanins row
literal_one fanins row i sign old new n lt e s is grown so =
    let rest = literal_numbers (drop (i + 1) fanins) (drop (i + 1) row) in
    ap (λ l. l ++ rest) grown
    ∙ (append_assoc old (n ∷ []) rest
    ∙ (ap (λ m. old ++ m ∷ rest) is
    ∙ (sym (ap (λ l. old ++ l) (literals_at fanins row i (Some sign) lt e s)) ∙ so)))

pub literal_none : (fanins : List ℕ) (row : List (Option Bool)) (i : ℕ) (old new : List ℕ) → i < length row → length row ≡ length fanins → get_or row i None ≡ None → new ≡ old → old ++ literal_numbers (drop i fanins) (drop i row) ≡ literal_numbers fanins row → new ++ literal_numbers (drop (i + 1) fanins) (drop (i + 1) row) ≡ literal_numbers fanins row
literal_none fanins row i old new lt e s same so =
    ap (λ l. l ++ literal_numbers (drop (i + 1) fanins) (drop (i + 1) row)) same ∙ (sym (ap (λ l. old ++ l) (literals_at fanins row i None lt e s)) ∙ so)

pub below_literals : (n : ℕ) (fanins : List ℕ) (row : List (Option Bool)) → AreBelow n fanins → AreBelow n (literal_numbers fanins row)
below_literals n [] row a = tt
below_literals n (f ∷ fs) [] a = tt
below_literals n (f ∷ fs) (Some true ∷ row) (p, a) = (p, below_literals n fs row a)
below_literals n (f ∷ fs) (Some false ∷ row) (p, a) = (below_other n f p, below_literals n fs row a)
below_literals n (f ∷ fs) (None ∷ row) (p, a) = below_literals n fs row a

module _ (forms : List Form) (are : AreMade forms) where
  pub signed_form : (sign : Bool) (f : ℕ) → f / 2 < length forms → form_of forms (signed_number sign f) ≡ signed sign (form_of forms f)
  signed_form true f lt = refl
  signed_form false f lt = complement_of forms are f lt

  pub literal_forms : (fanins : List ℕ) (row : List (Option Bool)) → AreBelow (length forms) fanins → forms_at forms (literal_numbers fanins row) ≡ literals (forms_at forms fanins) row
  literal_forms [] row a = refl
  literal_forms (f ∷ fs) [] a = refl
  literal_forms (f ∷ fs) (Some sign ∷ row) (p, a) = ap₂ (λ x xs. x ∷ xs) (signed_form sign f p) (literal_forms fs row a)
  literal_forms (f ∷ fs) (None ∷ row) (p, a) = literal_forms fs row a

-- cubes

abbrev pub cube : ℕ → List Form → List (Option Bool) → Form
cube width fs row = conjunction width (literals fs row)

pub cube_made : (width : ℕ) (old new : Table) (fanins lits : List ℕ) (row : List (Option Bool)) (n : ℕ) → AreMade (made old) → AreBelow (length (made old)) fanins → lits ≡ literal_numbers fanins row → IsMadeAs old new n (conjunction width (forms_at (made old) lits)) → IsMadeAs old new n (cube width (forms_at (made old) fanins) row)
cube_made width old new fanins lits row n are below l m = subst (IsMadeAs old new n) (ap (λ k. conjunction width (forms_at (made old) k)) l ∙ ap (conjunction width) (literal_forms (made old) are fanins row below)) m

pub record CubesSoFar (width : ℕ) (old now : Table) (fanins : List ℕ) (rows : List (List (Option Bool))) (i : ℕ) (cubes : List ℕ) : Type 0 where
  pub more : HasMore (made old) (made now)
  pub within : AreBelow (length (made now)) cubes
  pub same : forms_at (made now) cubes ++ map (cube width (forms_at (made old) fanins)) (drop i rows) ≡ map (cube width (forms_at (made old) fanins)) rows

pub cubes_first : (width : ℕ) (t : Table) (fanins : List ℕ) (rows : List (List (Option Bool))) (cubes : List ℕ) → cubes ≡ [] → CubesSoFar width t t fanins rows 0 cubes
cubes_first width t fanins rows cubes e = subst (CubesSoFar width t t fanins rows 0) (sym e) (record { more = more_same (made t); within = tt; same = refl })

pub cubes_more : (width : ℕ) (old now next : Table) (fanins : List ℕ) (rows : List (List (Option Bool))) (i : ℕ) (row : List (Option Bool)) (cubes cubes' : List ℕ) (n : ℕ) → AreBelow (length (made old)) fanins → i < length rows → row ≡ get_or rows i row → IsMadeAs now next n (cube width (forms_at (made now) fanins) row) → cubes' ≡ cubes ++ n ∷ [] → CubesSoFar width old now fanins rows i cubes → CubesSoFar width old next fanins rows (i + 1) cubes'
cubes_more width old now next fanins rows i row cubes cubes' n below lt r m grown so = subst (CubesSoFar width old next fanins rows (i + 1)) (sym grown) (record {
  more = more_twice (made old) (made now) (made next) so.more m.more;
  within = below_append (length (made next)) cubes (n ∷ []) (below_kept_more (made now) (made next) cubes m.more so.within) (m.within, tt);
  same =
      let fs = forms_at (made old) fanins in
      let rest = map (cube width fs) (drop (i + 1) rows) in
      let kept = forms_kept (made old) (made now) fanins so.more below in
      let one : form_of (made next) n ≡ cube width fs row = m.is ∙ ap (λ k. cube width k row) kept in
      ap (λ k. k ++ rest) (map-append (form_of (made next)) cubes (n ∷ []))
      ∙ (append_assoc (forms_at (made next) cubes) (form_of (made next) n ∷ []) rest
      ∙ (ap₂ (λ k f. k ++ f ∷ rest) (forms_kept (made now) (made next) cubes m.more so.within) one
      ∙ (ap (λ k. forms_at (made now) cubes ++ k) (ap (λ k. cube width fs k ∷ rest) r ∙ sym (at_drop_more (map (cube width fs)) rows i row lt)) ∙ so.same)));
})

pub sum_made : (width : ℕ) (old now next : Table) (fanins cubes : List ℕ) (rows : List (List (Option Bool))) (n : ℕ) → AreMadeAs old now cubes (map (cube width (forms_at (made old) fanins)) rows) → IsMadeAs now next n (disjunction width (forms_at (made now) cubes)) → IsMadeAs old next n (sum_of_products width (forms_at (made old) fanins) rows)
sum_made width old now next fanins cubes rows n c m = record {
  more = more_twice (made old) (made now) (made next) c.more m.more;
  within = m.within;
  is = m.is ∙ ap (disjunction width) c.are;
}

-- the sum of one product is the product
pub sum_one : (width : ℕ) → 2 ≤ width → (old new : Table) → AreMade (made new) → (fanins : List ℕ) (row : List (Option Bool)) (rows : List (List (Option Bool))) (n : ℕ) → rows ≡ row ∷ [] → IsMadeAs old new n (cube width (forms_at (made old) fanins) row) → IsMadeAs old new n (sum_of_products width (forms_at (made old) fanins) rows)
sum_one width wide old new are fanins row rows n e m = record {
  more = m.more;
  within = m.within;
  is = sym (or_one width wide (made new) are n m.within) ∙ (ap (λ f. disjunction width (f ∷ [])) m.is ∙ ap (sum_of_products width (forms_at (made old) fanins)) (sym e));
}
