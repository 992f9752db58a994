-- The graph that encodes a network's forms is their graph, and its numbers are one.
use Rattle.std.proofs.Common.{ℕ, zero, suc, ◌+◌, ◌*◌, ◌/◌, ◌%◌, ◌<◌, ◌≤◌, ◌==◌, ◌≡◌, ◌⊎◌, ◌↔◌, if◌then◌else◌, slice_index, slice_index_or, Contains, inl, inr, List, [], ◌∷◌, length, Some, slice_get, refl, ap, ap₂, sym, ◌∙◌, subst, subst₂, arith, add-zero}
use Rattle.std.proofs.lemmas.Option.{get_or_from_slice_get, slice_get_within}
use Rattle.std.proofs.lemmas.List.{ext_get_or}
use native.Mathlib.Nat.{eq-or-lt_of_le}
use Rattle.lw_laws.specs.Flip.{flip}
use Rattle.lw_laws.specs.Modes.{Mode}
use Rattle.lw_laws.specs.Networks.{Network}
use Rattle.lw_laws.specs.Forms.{Form, complement}
use Rattle.lw_laws.specs.Forms.Form.{var_form, true_form}
use Rattle.lw_laws.specs.Occurring.{HasInputsFirst, occurring_forms}
use Rattle.lw_laws.specs.Listings.{Listing, listing_of, IsListed, IsListing}
use Rattle.lw_laws.specs.Graphs.{Pair, Graph, class_of, HoldsPair, IsPairBefore, AreRising, AreNumberedFrom, pair_count, IsWritten}
use Rattle.lw_laws.specs.Families.{IsNand}
use Rattle.lw_laws.specs.NumberedForms.{family_of, IsSplitOf}
use Rattle.lw_laws.specs.Encodings.{HasNand, Encodes}
use Rattle.lw_laws.specs.Numbering.{number, numbered_base, numbered}
use Rattle.lw_laws.specs.Mapped.{forms_of}
use Rattle.lw_laws.specs.Classes.{class_in, IsNandForm, HasSplitAt, IsGraphOf}
use Rattle.lw_laws.specs.Classes.IsNandForm.{of_parts, of_overlap, of_complement}
use Rattle.lw_laws.proofs.Flips.{flip_even, class_of-flip, even_or_odd}
use Rattle.lw_laws.proofs.Sublists.{parts_turned, overlapping_turned}
use Rattle.lw_laws.proofs.Numbers.{slice_get_map, number_of, number_complement, occurs_complement, occurs_number, base_self}
use Rattle.lw_laws.proofs.Agreement.{split_back, form_of_number, nand_numbers, numbered_are_forms}
use Rattle.lw_laws.proofs.NumberedForms.{splits_occur}
use Rattle.lw_laws.proofs.Listed.{occurring_is_listing, true_and_inputs_first}
use Rattle.lw_laws.proofs.Headline.{classes_shared}
use Rattle.lw_laws.proofs.Lists.{slice_get_some, all_contains}

-- a NAND of two forms in either order
turned_nand : (mode : Mode) (o : Listing) {f p q : Form} → IsNandForm mode o f p q → IsNandForm mode o f q p
turned_nand mode o (of_parts occ parts le re) = of_parts occ (parts_turned parts) re le
turned_nand mode o (of_overlap m occ parts ne le re) = of_overlap m occ (overlapping_turned parts) (λ e. ne (sym e)) re le
turned_nand mode o (of_complement m occ) = of_complement m occ

module _ (mode : Mode) (inputs : ℕ) (o : Listing) (is : IsListing o) (g : Graph) where
  abbrev N : Form → ℕ
  N f = number o.bases f

  split_here : (c x y n a b : ℕ) → IsSplitOf mode (numbered inputs o) n a b → class_of g n ≡ c → class_of g a ≡ x → class_of g b ≡ y → HasSplitAt mode o g c x y
  split_here c x y n a b s e p q =
      let occ = splits_occur mode (numbered inputs o) (numbered_are_forms inputs o is) mode n a b s in
      let (f, num) = form_of_number inputs o is n occ.0 in
      let r = split_back inputs o is mode n a b f num s in
      record {
        form = f;
        left = r.left;
        right = r.right;
        is_nand = r.is_nand;
        form_at = ap (class_of g) (sym (number_of o is f n num)) ∙ e;
        left_at = ap (class_of g) (sym (number_of o is r.left a r.left_number)) ∙ p;
        right_at = ap (class_of g) (sym (number_of o is r.right b r.right_number)) ∙ q;
      }

  pub split_of_nand : (c x y : ℕ) → HasNand (family_of mode (numbered inputs o)) g c x y → HasSplitAt mode o g c x y
  split_of_nand c x y h = by_order h.is_nand
    where
      by_order : IsNand (family_of mode (numbered inputs o)) h.form h.left h.right → HasSplitAt mode o g c x y
      by_order (inl s) = split_here c x y h.form h.left h.right s h.form_at h.left_at h.right_at
      by_order (inr s) =
          let r = split_here c y x h.form h.right h.left s h.form_at h.right_at h.left_at in
          record { form = r.form; left = r.right; right = r.left; is_nand = turned_nand mode o r.is_nand; form_at = r.form_at; left_at = r.right_at; right_at = r.left_at }

  pub nand_of_split : (c x y : ℕ) → HasSplitAt mode o g c x y → HasNand (family_of mode (numbered inputs o)) g c x y
  nand_of_split c x y s = record { form = N s.form; left = N s.left; right = N s.right; is_nand = inl (nand_numbers inputs o is mode s.is_nand); form_at = s.form_at; left_at = s.left_at; right_at = s.right_at }

  -- a class holds the pairs of the splits of its forms
  pub pairs_split : Encodes (family_of mode (numbered inputs o)) g → (c x y : ℕ) → HoldsPair g c x y ↔ HasSplitAt mode o g c x y
  pairs_split encodes c x y = (λ h. split_of_nand c x y ((encodes.pairs c x y).0 h), λ s. (encodes.pairs c x y).1 (nand_of_split c x y s))

-- true and the inputs by their numbers
pub true_number : (mode : Mode) (inputs : ℕ) (o : Listing) → IsListing o → slice_get o.bases 0 ≡ Some true_form → (family_of mode (numbered inputs o)).IsTop (number o.bases true_form)
true_number mode inputs o is e =
    let (b, l, s) = occurs_number o is true_form (0, e) in
    (b, slice_get_map (numbered_base o.bases) o.bases b true_form l, s ∙ add-zero (2 * b))

pub input_number : (mode : Mode) (inputs : ℕ) (o : Listing) → IsListing o → (i : ℕ) → slice_get o.bases (i + 1) ≡ Some (var_form i) → (family_of mode (numbered inputs o)).IsInput (number o.bases (var_form i)) i
input_number mode inputs o is i e =
    let (b, l, s) = occurs_number o is (var_form i) (i + 1, e) in
    (b, slice_get_map (numbered_base o.bases) o.bases b (var_form i) l, s ∙ add-zero (2 * b))

-- the graph that encodes listed forms, with their numbers, is the graph of the forms
pub encoding_of_forms : (mode : Mode) (inputs : ℕ) (o : Listing) (g : Graph) → IsListing o → HasInputsFirst inputs o.bases → Encodes (family_of mode (numbered inputs o)) g → IsWritten (length o.bases) inputs g → IsGraphOf mode inputs o g
encoding_of_forms mode inputs o g is first encodes written = record {
  written = written;
  one = sym ((encodes.one (class_in o g true_form)).1 (number o.bases true_form, (true_number mode inputs o is first.first), refl));
  leaves = λ i lt. (encodes.leaves i (class_in o g (var_form i))).1 (number o.bases (var_form i), input_number mode inputs o is i (first.inputs i lt), refl);
  classes = classes_shared mode inputs o g is encodes;
  pairs = pairs_split mode inputs o is g encodes;
}

pub encoding_is_graph : (mode : Mode) (width : ℕ) (net : Network) (g : Graph) → 2 ≤ width → Encodes (family_of mode (forms_of width net)) g → IsWritten (length (occurring_forms width net)) net.inputs g → IsGraphOf mode net.inputs (listing_of width net) g
encoding_is_graph mode width net g wide =
    encoding_of_forms mode net.inputs (listing_of width net) g (occurring_is_listing width wide net) (true_and_inputs_first width wide net)

-- numbers of pairs of classes by first places are one
module _ (X Y : ℕ → ℕ) (total : ℕ) (same : (a b : ℕ) → a < total → b < total → (X a ≡ X b) ↔ (Y a ≡ Y b)) (turned : (a b : ℕ) → a < total → b < total → (X a ≡ flip (X b)) ↔ (Y a ≡ flip (Y b))) where
  -- the numbers below the next are those of places before
  abbrev AreFound : ℕ → ℕ → Type 0
  AreFound m next = (j : ℕ) → j < next → (i : ℕ) × (i < m) × (X i ≡ 2 * j) × (Y i ≡ 2 * j)

  -- an old number in one list is the same old number in the other
  old_same : (m next c d : ℕ) → m < total → AreFound m next → X m ≡ c → Y m ≡ d → d / 2 < next → c ≡ d
  old_same m next c d lt found x y old = by_bit (even_or_odd d (d / 2) refl)
    where
      by_bit : (d ≡ 2 * (d / 2)) ⊎ (d ≡ 2 * (d / 2) + 1) → c ≡ d
      by_bit (inl e) =
          let (i, before, xi, yi) = found (d / 2) old in
          let s = (same m i lt (omega arith)).1 (y ∙ (e ∙ sym yi)) in
          sym x ∙ (s ∙ (xi ∙ sym e))
      by_bit (inr e) =
          let (i, before, xi, yi) = found (d / 2) old in
          let f : flip (Y i) ≡ 2 * (d / 2) + 1 = flip_even (Y i) (d / 2) yi in
          let g : flip (X i) ≡ 2 * (d / 2) + 1 = flip_even (X i) (d / 2) xi in
          let s = (turned m i lt (omega arith)).1 (y ∙ (e ∙ sym f)) in
          sym x ∙ (s ∙ (g ∙ sym e))

  old_same_back : (m next c d : ℕ) → m < total → AreFound m next → X m ≡ c → Y m ≡ d → c / 2 < next → c ≡ d
  old_same_back m next c d lt found x y old = by_bit (even_or_odd c (c / 2) refl)
    where
      by_bit : (c ≡ 2 * (c / 2)) ⊎ (c ≡ 2 * (c / 2) + 1) → c ≡ d
      by_bit (inl e) =
          let (i, before, xi, yi) = found (c / 2) old in
          let s = (same m i lt (omega arith)).0 (x ∙ (e ∙ sym xi)) in
          e ∙ (sym yi ∙ (sym s ∙ y))
      by_bit (inr e) =
          let (i, before, xi, yi) = found (c / 2) old in
          let f : flip (Y i) ≡ 2 * (c / 2) + 1 = flip_even (Y i) (c / 2) yi in
          let g : flip (X i) ≡ 2 * (c / 2) + 1 = flip_even (X i) (c / 2) xi in
          let s = (turned m i lt (omega arith)).0 (x ∙ (e ∙ sym g)) in
          e ∙ (sym f ∙ (sym s ∙ y))

  more_found : (m next : ℕ) → AreFound m next → X m ≡ 2 * next → Y m ≡ 2 * next → AreFound (suc m) (suc next)
  more_found m next found x y j lt = by_place (eq-or-lt_of_le {n = j} {m = next} (omega arith))
    where
      by_place : (j ≡ next) ⊎ (j < next) → (i : ℕ) × (i < suc m) × (X i ≡ 2 * j) × (Y i ≡ 2 * j)
      by_place (inl e) = (m, omega arith, omega arith, omega arith)
      by_place (inr l) = let (i, before, xi, yi) = found j l in (i, omega arith, xi, yi)

  kept_found : (m next : ℕ) → AreFound m next → AreFound (suc m) next
  kept_found m next found j lt = let (i, before, xi, yi) = found j lt in (i, omega arith, xi, yi)

  abbrev AreFrom : (ℕ → ℕ) → ℕ → List ℕ → Type 0
  AreFrom Z m xs = (j c : ℕ) → slice_get xs j ≡ Some c → Z (m + j) ≡ c

  rest_from : (Z : ℕ → ℕ) (m c : ℕ) (xs : List ℕ) → AreFrom Z m (c ∷ xs) → AreFrom Z (suc m) xs
  rest_from Z m c xs f j d e = let s : suc m + j ≡ m + suc j = omega arith in ap Z s ∙ f (suc j) d e

  here_from : (Z : ℕ → ℕ) (m c : ℕ) (xs : List ℕ) → AreFrom Z m (c ∷ xs) → Z m ≡ c
  here_from Z m c xs f = let s : m ≡ m + 0 = omega arith in ap Z s ∙ f 0 c refl

  pub numbers_same : (m next : ℕ) (xs ys : List ℕ) → length xs ≡ length ys → m + length xs ≡ total → AreFrom X m xs → AreFrom Y m ys → AreFound m next → AreNumberedFrom next xs → AreNumberedFrom next ys → xs ≡ ys
  numbers_same m next [] [] len all f h found a b = refl
  numbers_same m next [] (d ∷ ys) len all f h found a b = absurd (omega arith)
  numbers_same m next (c ∷ xs) [] len all f h found a b = absurd (omega arith)
  numbers_same m next (c ∷ xs) (d ∷ ys) len all f h found (inl (e, a)) (inl (k, b)) =
      let rest = numbers_same (suc m) (suc next) xs ys (omega arith) (omega arith) (rest_from X m c xs f) (rest_from Y m d ys h) (more_found m next found (here_from X m c xs f ∙ e) (here_from Y m d ys h ∙ k)) a b in
      ap₂ (λ z zs. z ∷ zs) (e ∙ sym k) rest
  numbers_same m next (c ∷ xs) (d ∷ ys) len all f h found (inl (e, a)) (inr (k, b)) =
      let s = old_same m next c d (omega arith) found (here_from X m c xs f) (here_from Y m d ys h) k in absurd (omega arith)
  numbers_same m next (c ∷ xs) (d ∷ ys) len all f h found (inr (e, a)) (inl (k, b)) =
      let s = old_same_back m next c d (omega arith) found (here_from X m c xs f) (here_from Y m d ys h) e in absurd (omega arith)
  numbers_same m next (c ∷ xs) (d ∷ ys) len all f h found (inr (e, a)) (inr (k, b)) =
      let s = old_same m next c d (omega arith) found (here_from X m c xs f) (here_from Y m d ys h) k in
      let rest = numbers_same (suc m) next xs ys (omega arith) (omega arith) (rest_from X m c xs f) (rest_from Y m d ys h) (kept_found m next found) a b in
      ap₂ (λ z zs. z ∷ zs) s rest

pub base_class : (g : Graph) (b c : ℕ) → slice_get g.forms b ≡ Some c → class_of g (2 * b) ≡ c
base_class g b c e =
    let even : (2 * b) % 2 ≡ 0 = omega arith in
    let half : (2 * b) / 2 ≡ b = omega arith in
    rw (even, half) (get_or_from_slice_get g.forms b c 0 e)

-- graphs with the same classes of base forms have the same class for each form
pub class_same : (g h : Graph) → g.forms ≡ h.forms → (n : ℕ) → class_of g n ≡ class_of h n
class_same g h same n = ap (λ fs. if n % 2 == 0 then slice_index fs (n / 2) else flip (slice_index fs (n / 2))) same

-- and their inputs have the same classes
pub leaf_same : (g h : Graph) → g.forms ≡ h.forms → (at : ℕ → ℕ) → ((i : ℕ) → i < length g.leaves → slice_get g.leaves i ≡ Some (class_of g (at i))) → ((i : ℕ) → i < length g.leaves → slice_get h.leaves i ≡ Some (class_of h (at i))) → (i c : ℕ) → slice_get g.leaves i ≡ Some c → slice_get h.leaves i ≡ Some c
leaf_same g h same at here there i c e =
    let lt = slice_get_within g.leaves i c e in
    there i lt ∙ (ap Some (sym (class_same g h same (at i))) ∙ (sym (here i lt) ∙ e))

module _ (mode : Mode) (inputs : ℕ) (o : Listing) (is : IsListing o) (g h : Graph) (one : IsGraphOf mode inputs o g) (other : IsGraphOf mode inputs o h) where
  -- base form b as a form, and its number
  base_at : (b : ℕ) → b < length o.bases → (f : Form) × IsListed o f × (number o.bases f ≡ 2 * b)
  base_at b lt =
      let (f, e) = slice_get_some o.bases b lt in
      let z = is.signs b f e in
      let occ : IsListed o f = (b, e ∙ ap Some (sym (base_self f z))) in
      (f, occ, sym (number_of o is f (2 * b) (b, e ∙ ap Some (sym (base_self f z)), omega arith)))

  complement_number : (f : Form) (b : ℕ) → IsListed o f → number o.bases f ≡ 2 * b → number o.bases (complement f) ≡ flip (2 * b)
  complement_number f b occ e =
      sym (number_of o is (complement f) (flip (number o.bases f)) (number_complement o is f (number o.bases f) (occurs_number o is f occ))) ∙ ap flip e

  same_classes : (f k : Form) → IsListed o f → IsListed o k → (class_in o g f ≡ class_in o g k) ↔ (class_in o h f ≡ class_in o h k)
  same_classes f k p q =
      let a = one.classes f k p q in
      let b = other.classes f k p q in
      (λ e. b.1 (a.0 e), λ e. a.1 (b.0 e))

  bases_same : (a b : ℕ) → a < length o.bases → b < length o.bases → (class_of g (2 * a) ≡ class_of g (2 * b)) ↔ (class_of h (2 * a) ≡ class_of h (2 * b))
  bases_same a b la lb =
      let (f, p, m) = base_at a la in
      let (k, q, n) = base_at b lb in
      subst₂ (λ u v. (class_of g u ≡ class_of g v) ↔ (class_of h u ≡ class_of h v)) m n (same_classes f k p q)

  bases_turned : (a b : ℕ) → a < length o.bases → b < length o.bases → (class_of g (2 * a) ≡ flip (class_of g (2 * b))) ↔ (class_of h (2 * a) ≡ flip (class_of h (2 * b)))
  bases_turned a b la lb =
      let (f, p, m) = base_at a la in
      let (k, q, n) = base_at b lb in
      let r = subst₂ (λ u v. (class_of g u ≡ class_of g v) ↔ (class_of h u ≡ class_of h v)) m (complement_number k b q n) (same_classes f (complement k) p (occurs_complement o is k q)) in
      (λ e. r.0 (e ∙ sym (class_of-flip g (2 * b))) ∙ class_of-flip h (2 * b), λ e. r.1 (e ∙ sym (class_of-flip h (2 * b))) ∙ class_of-flip g (2 * b))

  -- the graphs have the same class for each form
  pub graph_numbers_once : g.forms ≡ h.forms
  graph_numbers_once =
      let a = one.written.form_count in
      let b = other.written.form_count in
      numbers_same (λ b. class_of g (2 * b)) (λ b. class_of h (2 * b)) (length o.bases) bases_same bases_turned 0 0 g.forms h.forms (omega arith) (omega arith)
      (λ j c e. let z : 0 + j ≡ j = omega arith in ap (λ k. class_of g (2 * k)) z ∙ base_class g j c e)
      (λ j c e. let z : 0 + j ≡ j = omega arith in ap (λ k. class_of h (2 * k)) z ∙ base_class h j c e)
      (λ j lt. absurd (omega arith)) one.written.numbered other.written.numbered

  -- each class of one form has one number in both
  forms_same : (f : Form) → class_in o g f ≡ class_in o h f
  forms_same f = class_same g h graph_numbers_once (number o.bases f)

  splits_same : (c x y : ℕ) → HasSplitAt mode o g c x y → HasSplitAt mode o h c x y
  splits_same c x y s = record {
    form = s.form;
    left = s.left;
    right = s.right;
    is_nand = s.is_nand;
    form_at = sym (forms_same s.form) ∙ s.form_at;
    left_at = sym (forms_same s.left) ∙ s.left_at;
    right_at = sym (forms_same s.right) ∙ s.right_at;
  }

  pub pairs_same : (c x y : ℕ) → HoldsPair g c x y → HoldsPair h c x y
  pairs_same c x y p = (other.pairs c x y).1 (splits_same c x y ((one.pairs c x y).0 p))

-- rising rows with the same pairs are one
pub not_before : (p : Pair) → IsPairBefore p p → ⊥
not_before p (inl h) = omega arith
not_before p (inr (e, h)) = omega arith

not_both : (p q : Pair) → IsPairBefore p q → IsPairBefore q p → ⊥
not_both p q (inl a) (inl b) = omega arith
not_both p q (inl a) (inr (e, b)) = omega arith
not_both p q (inr (e, a)) (inl b) = omega arith
not_both p q (inr (e, a)) (inr (f, b)) = omega arith

head_or_tail : (p q : Pair) (qs : List Pair) → Contains (q ∷ qs) p → (q ≡ p) ⊎ Contains qs p
head_or_tail p q qs (zero, lt, e) = inl e
head_or_tail p q qs (suc k, lt, e) = inr (k, omega arith, e)

in_tail : (p q : Pair) (qs : List Pair) → Contains qs p → Contains (q ∷ qs) p
in_tail p q qs (k, lt, e) = (suc k, omega arith, e)

heads_once : (p q : Pair) (ps qs : List Pair) → AreRising (p ∷ ps) → AreRising (q ∷ qs) → (p ≡ q) ⊎ Contains ps q → (q ≡ p) ⊎ Contains qs p → p ≡ q
heads_once p q ps qs a b (inl e) d = e
heads_once p q ps qs a b (inr c) (inl e) = sym e
heads_once p q ps qs (le, later, rest) (ge, after, more) (inr c) (inr d) =
    absurd (not_both p q (all_contains (IsPairBefore p) ps q later c) (all_contains (IsPairBefore q) qs p after d))

tail_in : (p : Pair) (ps qs : List Pair) → AreRising (p ∷ ps) → ((r : Pair) → Contains (p ∷ ps) r → Contains (p ∷ qs) r) → (r : Pair) → Contains ps r → Contains qs r
tail_in p ps qs (le, later, rest) f r c = by_place (head_or_tail r p qs (f r (in_tail r p ps c)))
  where
    by_place : (p ≡ r) ⊎ Contains qs r → Contains qs r
    by_place (inl e) = absurd (not_before r (subst (λ z. IsPairBefore z r) e (all_contains (IsPairBefore p) ps r later c)))
    by_place (inr d) = d

pub rows_once : (ps qs : List Pair) → AreRising ps → AreRising qs → ((r : Pair) → Contains ps r → Contains qs r) → ((r : Pair) → Contains qs r → Contains ps r) → ps ≡ qs
rows_once [] [] a b f h = refl
rows_once [] (q ∷ qs) a b f h = let (k, lt, e) = h q (0, omega arith, refl) in absurd (omega arith)
rows_once (p ∷ ps) [] a b f h = let (k, lt, e) = f p (0, omega arith, refl) in absurd (omega arith)
rows_once (p ∷ ps) (q ∷ qs) a b f h =
    let same = heads_once p q ps qs a b (head_or_tail q p ps (h q (0, omega arith, refl))) (head_or_tail p q qs (f p (0, omega arith, refl))) in
    let b' = subst (λ z. AreRising (z ∷ qs)) (sym same) b in
    let f' = subst (λ z. (r : Pair) → Contains (p ∷ ps) r → Contains (z ∷ qs) r) (sym same) f in
    let h' = subst (λ z. (r : Pair) → Contains (z ∷ qs) r → Contains (p ∷ ps) r) (sym same) h in
    ap₂ (λ z zs. z ∷ zs) same (rows_once ps qs a.2 b'.2 (tail_in p ps qs a f') (tail_in p qs ps b' h'))

pub smaller_first : (ps : List Pair) (p : Pair) → AreRising ps → Contains ps p → p.x ≤ p.y
smaller_first [] p a (k, lt, e) = absurd (omega arith)
smaller_first (q ∷ ps) p (le, later, rest) (zero, lt, e) = subst (λ z. z.x ≤ z.y) e le
smaller_first (q ∷ ps) p (le, later, rest) (suc k, lt, e) = smaller_first ps p rest (k, omega arith, e)

pub held_in : (h : Graph) (c : ℕ) (p : Pair) → AreRising (slice_index_or h.pairs c []) → p.x ≤ p.y → HoldsPair h c p.x p.y → Contains (slice_index_or h.pairs c []) p
held_in h c p rises le (inl at) = at
held_in h c p rises le (inr at) =
    let ge = smaller_first (slice_index_or h.pairs c []) (record { x = p.y; y = p.x }) rises at in
    let same : p.x ≡ p.y = omega arith in
    let one : record { x = p.y; y = p.x } ≡ p = ap₂ (λ a b. record { x = a; y = b }) (sym same) same in
    subst (Contains (slice_index_or h.pairs c [])) one at

-- rows of the same pairs are one
pub row_same : (g h : Graph) → ((c : ℕ) → AreRising (slice_index_or g.pairs c [])) → ((c : ℕ) → AreRising (slice_index_or h.pairs c [])) → ((c x y : ℕ) → HoldsPair g c x y → HoldsPair h c x y) → ((c x y : ℕ) → HoldsPair h c x y → HoldsPair g c x y) → (c : ℕ) → slice_index_or g.pairs c [] ≡ slice_index_or h.pairs c []
row_same g h up other_up there back c =
    rows_once (slice_index_or g.pairs c []) (slice_index_or h.pairs c []) (up c) (other_up c)
    (λ r at. held_in h c r (other_up c) (smaller_first (slice_index_or g.pairs c []) r (up c) at) (there c r.x r.y (inl at)))
    (λ r at. held_in g c r (up c) (smaller_first (slice_index_or h.pairs c []) r (other_up c) at) (back c r.x r.y (inl at)))

pub lists_once : {X : Type 0} (d : X) (xs ys : List X) → length xs ≡ length ys → ((i : ℕ) → slice_index_or xs i d ≡ slice_index_or ys i d) → xs ≡ ys
lists_once d xs ys len f = ext_get_or d xs ys len (λ i lt. f i)

pub leaves_once : (xs ys : List ℕ) → length xs ≡ length ys → ((i c : ℕ) → slice_get xs i ≡ Some c → slice_get ys i ≡ Some c) → xs ≡ ys
leaves_once [] [] len f = refl
leaves_once [] (y ∷ ys) len f = absurd (omega arith)
leaves_once (x ∷ xs) [] len f = absurd (omega arith)
leaves_once (x ∷ xs) (y ∷ ys) len f =
    let first = f 0 x refl in
    let same : x ≡ y = cc in
    ap₂ (λ z zs. z ∷ zs) same (leaves_once xs ys (omega arith) (λ i c e. f (suc i) c e))

pub graph_same : (a b : ℕ) (ls ms fs ks : List ℕ) (ps qs : List (List Pair)) → a ≡ b → ls ≡ ms → fs ≡ ks → ps ≡ qs → ◌≡◌ {A = Graph} (record { one = a; leaves = ls; forms = fs; pairs = ps }) (record { one = b; leaves = ms; forms = ks; pairs = qs })
graph_same a b ls ms fs ks ps qs e f g h =
    ap₂ (λ z zs. record { one = z; leaves = zs; forms = fs; pairs = ps }) e f ∙ ap₂ (λ zs rs. record { one = b; leaves = ms; forms = zs; pairs = rs }) g h

-- the graph of the listed forms is one
pub graphs_once : (mode : Mode) (inputs : ℕ) (o : Listing) → IsListing o → (g h : Graph) → IsGraphOf mode inputs o g → IsGraphOf mode inputs o h → g ≡ h
graphs_once mode inputs o is g h one other =
    let forms = graph_numbers_once mode inputs o is g h one other in
    let gw = one.written in
    let hw = other.written in
    let counts : pair_count 0 g.forms ≡ pair_count 0 h.forms = ap (pair_count 0) forms in
    let a = gw.class_count in
    let b = hw.class_count in
    let c = gw.leaf_count in
    let d = hw.leaf_count in
    graph_same g.one h.one g.leaves h.leaves g.forms h.forms g.pairs h.pairs
    (one.one ∙ (forms_same mode inputs o is g h one other true_form ∙ sym other.one))
    (leaves_once g.leaves h.leaves (omega arith) (leaf_same g h forms (λ i. number o.bases (var_form i)) (λ i lt. one.leaves i (let n = one.written.leaf_count in omega (arith, lt, n))) (λ i lt. other.leaves i (let n = one.written.leaf_count in omega (arith, lt, n))))) forms
    (lists_once [] g.pairs h.pairs (omega arith) (row_same g h one.written.rising other.written.rising (pairs_same mode inputs o is g h one other) (pairs_same mode inputs o is h g other one)))
