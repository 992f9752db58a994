-- The rules over plain forms and the rules over numbers give each occurring form the same trees.
use Rattle.std.proofs.Common.{ℕ, ◌+◌, ◌*◌, ◌/◌, ◌<◌, ◌≤◌, ◌≡◌, ◌≢◌, ◌⊎◌, inl, inr, List, [], ◌∷◌, length, map, Some, slice_get, refl, ap, sym, ◌∙◌, subst, subst₂, arith, add-zero}
use Rattle.std.specs.List.{AllByRecursion}
use Rattle.std.proofs.lemmas.Option.{same_Some, slice_get_within}
use Rattle.std.proofs.lemmas.List.{length-map}
use Rattle.lw_laws.specs.Flip.{flip}
use Rattle.lw_laws.specs.Trees.{Tree, leaf, const_one, const_zero, nand}
use Rattle.lw_laws.specs.Families.{AreLinked, Derives}
use Rattle.lw_laws.specs.Families.Derives.{by_input, by_top, by_bottom, by_complement, by_split, by_common, by_link}
use Rattle.lw_laws.specs.NumberedForms.{NumberedForms, IsPart, IsCutOf, IsCoveringOf, IsTwice, IsSignal, IsSplitOf, family_of, IsBefore, IsListedAnd, AreNumberedForms}
use Rattle.lw_laws.specs.NumberedForms.Base.{base_true, base_input, base_and}
use Rattle.lw_laws.specs.Modes.Mode.{plain, idempotent}
use Rattle.lw_laws.specs.Forms.{Form, FormList, items, form_list, and_of, complement, conjunction}
use Rattle.lw_laws.specs.Forms.Form.{var_form, true_form, not_form, and_form}
use Rattle.lw_laws.specs.Signals.{Signal}
use Rattle.lw_laws.specs.Decompositions.{AreParts, AreOfOneSignal, HasTree}
use Rattle.lw_laws.specs.Decompositions.AreParts.{parts_none, parts_left, parts_right}
use Rattle.lw_laws.specs.Decompositions.HasTree.{input_law, true_law, false_law, inverter_law, split_law, sharing_law, factoring_law, overlap_law, tied_inverter_law}
use Rattle.lw_laws.specs.Numbering.{number, numbered_base, sop_number, fac_number, numbered, HasSameTrees}
use Rattle.lw_laws.specs.Modes.{Mode}
use Rattle.lw_laws.specs.Listings.{Listing, IsListed, base_form, IsListing, IsListedBefore, IsSub}
use Rattle.lw_laws.specs.Classes.{IsNandForm}
use Rattle.lw_laws.specs.Classes.IsNandForm.{of_parts, of_overlap, of_complement}
use Rattle.lw_laws.proofs.Flips.{flip-flip, flip_even, flip_odd, even_or_odd}
use Rattle.lw_laws.proofs.Equality.{items-form_list, form_list-items}
use Rattle.lw_laws.proofs.Sublists.{parts_subs, parts_turned, overlapping_subs, overlapping_turned, IsSub_all, conjunction_of_one, conjunction_of_more}
use Rattle.lw_laws.proofs.Numbers.{slice_get_map, slice_get_map_back, number_of, numbers_differ, occurs_complement, occurs_sign, number_complement, occurs_number, number_occurs, numbers_injective, complement_twice, sign_two, base_self}
use Rattle.lw_laws.proofs.Occurrences.{operands_occur, and_sub_listed, occurring_listed, listed_occurs}
use Rattle.lw_laws.proofs.Lists.{slice_get_some}
use Rattle.lw_laws.proofs.CutParts.{cut_of_parts, covering_of_overlapping, parts_of_cut, overlap_of_covering}
use Rattle.lw_laws.proofs.Words.{IsNumber}

base_and_injective : (ns ms : List ℕ) → base_and ns ≡ base_and ms → ns ≡ ms
base_and_injective ns ms e = cc

module _ (inputs : ℕ) (o : Listing) (is : IsListing o) where
  abbrev pub forms : NumberedForms
  forms = numbered inputs o

  abbrev pub N : Form → ℕ
  N f = number o.bases f

  listed_base : (b : ℕ) (f : Form) → slice_get o.bases b ≡ Some f → slice_get forms.bases b ≡ Some (numbered_base o.bases f)
  listed_base b f e = slice_get_map (numbered_base o.bases) o.bases b f e

  record IsAndAt (b : ℕ) (ns : List ℕ) : Type 0 where
    operands : FormList
    listed : slice_get o.bases b ≡ Some (and_form operands)
    numbers : map N (items operands) ≡ ns

  and_of_base : (b : ℕ) (ns : List ℕ) (f : Form) → slice_get o.bases b ≡ Some f → numbered_base o.bases f ≡ base_and ns → IsAndAt b ns
  and_of_base b ns (var_form i) e s = cc
  and_of_base b ns true_form e s = cc
  and_of_base b ns (not_form f) e s = cc
  and_of_base b ns (and_form fs) e s = record { operands = fs; listed = e; numbers = base_and_injective (map N (items fs)) ns s }

  and_at : (b : ℕ) (ns : List ℕ) → slice_get forms.bases b ≡ Some (base_and ns) → IsAndAt b ns
  and_at b ns e = let (f, d, s) = slice_get_map_back (numbered_base o.bases) o.bases b (base_and ns) e in and_of_base b ns f d s

  input_of_base : (b i : ℕ) (f : Form) → slice_get o.bases b ≡ Some f → numbered_base o.bases f ≡ base_input i → f ≡ var_form i
  input_of_base b i (var_form j) e s = let k : j ≡ i = cc in ap var_form k
  input_of_base b i true_form e s = cc
  input_of_base b i (not_form f) e s = cc
  input_of_base b i (and_form fs) e s = cc

  true_of_base : (b : ℕ) (f : Form) → slice_get o.bases b ≡ Some f → numbered_base o.bases f ≡ base_true → f ≡ true_form
  true_of_base b (var_form j) e s = cc
  true_of_base b true_form e s = refl
  true_of_base b (not_form f) e s = let z = is.signs b (not_form f) e in absurd (omega arith)
  true_of_base b (and_form fs) e s = cc

  -- the And of a sub-list of a listed And's operands, its number, and back
  record IsPartForm (hs : List Form) (f : Form) : Type 0 where
    occurs : IsListed o f
    is_part : IsPart forms (map N hs) (N f)
    back : (x : ℕ) → IsPart forms (map N hs) x → x ≡ N f

  part_of_more : (f h : Form) (hs : List Form) → AllByRecursion (IsListed o) (f ∷ h ∷ hs) → IsListed o (and_of (f ∷ h ∷ hs)) → IsPartForm (f ∷ h ∷ hs) (and_of (f ∷ h ∷ hs))
  part_of_more f h hs all occ =
      let (b, l, s) = occurs_number o is (and_of (f ∷ h ∷ hs)) occ in
      let at : slice_get forms.bases b ≡ Some (base_and (map N (f ∷ h ∷ hs))) =
      listed_base b (and_of (f ∷ h ∷ hs)) l ∙ ap (λ xs. Some (base_and (map N xs))) (items-form_list (f ∷ h ∷ hs)) in
      record {
        occurs = occ;
        is_part = (b, at, s ∙ add-zero (2 * b));
        back = λ x (c, e, t).
            let a = and_at c (map N (f ∷ h ∷ hs)) e in
            let same = numbers_injective o is (items a.operands) (f ∷ h ∷ hs) (operands_occur o is c a.operands a.listed) all a.numbers in
            let form : and_form a.operands ≡ and_of (f ∷ h ∷ hs) = ap and_form (sym (form_list-items a.operands) ∙ ap form_list same) in
            number_of o is (and_of (f ∷ h ∷ hs)) x (c, a.listed ∙ ap Some form, t ∙ sym (add-zero (2 * c)));
      }

  part_form : (b : ℕ) (fs : FormList) → slice_get o.bases b ≡ Some (and_form fs) → (hs : List Form) → IsSub hs (items fs) → 1 ≤ length hs → IsPartForm hs (conjunction o.width hs)
  part_form b fs e [] s le = absurd (omega arith)
  part_form b fs e (f ∷ []) s le =
      let all = IsSub_all (IsListed o) s (operands_occur o is b fs e) in
      subst (IsPartForm (f ∷ [])) (sym (conjunction_of_one o.width (items fs) (is.ands b fs e).operands_are f s))
      (record { occurs = all.0; is_part = refl; back = λ x p. p })
  part_form b fs e (f ∷ h ∷ hs) s le =
      let all = IsSub_all (IsListed o) s (operands_occur o is b fs e) in
      let two : 2 ≤ length (f ∷ h ∷ hs) = omega arith in
      subst (IsPartForm (f ∷ h ∷ hs)) (sym (conjunction_of_more o.width (items fs) (is.ands b fs e).operands_are f h hs s))
      (part_of_more f h hs all (and_sub_listed o is b fs e (f ∷ h ∷ hs) s two))

  pub number_in : (f : Form) (n : ℕ) → IsNumber o.bases f n → Rattle.lw_laws.specs.NumberedForms.NumberOccurs forms n
  number_in f n (b, e, s) =
      let lt = slice_get_within forms.bases b (numbered_base o.bases (base_form f)) (listed_base b (base_form f) e) in
      let one = sign_two f in
      omega arith

  split_by_cut : (mode : Mode) (n x y : ℕ) → IsCutOf forms n x y → IsSplitOf mode forms n x y
  split_by_cut plain n x y c = c
  split_by_cut idempotent n x y c = inl c

  split_by_covering : (mode : Mode) → mode ≡ idempotent → (n x y : ℕ) → IsCoveringOf forms n x y → IsSplitOf mode forms n x y
  split_by_covering plain e n x y c = cc
  split_by_covering idempotent e n x y c = inr (inl c)

  split_by_twice : (mode : Mode) → mode ≡ idempotent → (n x y : ℕ) → IsTwice forms n x y → IsSplitOf mode forms n x y
  split_by_twice plain e n x y c = cc
  split_by_twice idempotent e n x y c = inr (inr c)

  -- the numbers of a signal's forms, and of their complements
  signal_numbers : (s : ℕ) (x : Signal) → slice_get o.signals s ≡ Some x → IsSignal forms (N x.sop) (N x.fac)
  signal_numbers s x e = (s, slice_get_map (sop_number o.bases) o.signals s x e, slice_get_map (fac_number o.bases) o.signals s x e)

  flipped_number : (p f : Form) → IsListed o p → f ≡ complement p → flip (N f) ≡ N p
  flipped_number p f occ e =
      let c = number_of o is (complement p) (flip (N p)) (number_complement o is p (N p) (occurs_number o is p occ)) in
      ap (λ h. flip (N h)) e ∙ (ap flip (sym c) ∙ flip-flip (N p))

  link_numbers : (mode : Mode) (f h : Form) → AreOfOneSignal o.signals f h → AreLinked (family_of mode forms) (N f) (N h) × IsListed o h
  link_numbers mode f h (s, x, e, inl (inl (p, q))) =
      (inl (inl (subst₂ (λ a b. IsSignal forms a b) (ap N (sym p)) (ap N (sym q)) (signal_numbers s x e))), subst (IsListed o) (sym q) (is.signals s x e).1)
  link_numbers mode f h (s, x, e, inl (inr (p, q))) =
      (inl (inr (subst₂ (λ a b. IsSignal forms a b) (ap N (sym q)) (ap N (sym p)) (signal_numbers s x e))), subst (IsListed o) (sym q) (is.signals s x e).0)
  link_numbers mode f h (s, x, e, inr (inl (p, q))) =
      let occ = is.signals s x e in
      (inr (inl (subst₂ (λ a b. IsSignal forms a b) (sym (flipped_number x.sop f occ.0 p)) (sym (flipped_number x.fac h occ.1 q)) (signal_numbers s x e))), subst (IsListed o) (sym q) (occurs_complement o is x.fac occ.1))
  link_numbers mode f h (s, x, e, inr (inr (p, q))) =
      let occ = is.signals s x e in
      (inr (inr (subst₂ (λ a b. IsSignal forms a b) (sym (flipped_number x.sop h occ.0 q)) (sym (flipped_number x.fac f occ.1 p)) (signal_numbers s x e))), subst (IsListed o) (sym q) (occurs_complement o is x.sop occ.0))

  -- each tree of a plain form is one of its number
  to_numbers : (mode : Mode) {f : Form} {t : Tree} → HasTree mode o.width o.signals f t → (n : ℕ) → IsNumber o.bases f n → Derives (family_of mode forms) n t
  to_numbers mode (input_law {i = i}) n (b, e, s) = by_input (b, listed_base b (var_form i) e, s ∙ add-zero (2 * b))
  to_numbers mode true_law n (b, e, s) = by_top (b, listed_base b true_form e, s ∙ add-zero (2 * b))
  to_numbers mode false_law n (b, e, s) = by_bottom (b, listed_base b true_form e, flip_odd n b s)
  to_numbers mode (inverter_law {f = f} occ d) n num =
      by_complement (number_in f n num) (to_numbers mode d (flip n) (number_complement o is f n num))
  to_numbers mode (split_law {fs = fs} {ls = ls} {rs = rs} occ parts le re d e) n (b, l, s) =
      let subs = parts_subs parts in
      let p = part_form b fs l ls subs.0 le in
      let q = part_form b fs l rs subs.1 re in
      let x = N (conjunction o.width ls) in
      let y = N (conjunction o.width rs) in
      let cut : IsCutOf forms n x y = (b, map N (items fs), map N ls, map N rs, listed_base b (and_form fs) l, s, cut_of_parts N parts, p.is_part, q.is_part) in
      by_split (inl (split_by_cut mode n x y cut)) (to_numbers mode d x (occurs_number o is (conjunction o.width ls) p.occurs)) (to_numbers mode e y (occurs_number o is (conjunction o.width rs) q.occurs))
  to_numbers mode (sharing_law {f = f} {h = h} occ other d e k) n num =
      let m = occurs_number o is h (occurring_listed o is other) in
      by_common (number_in f n num) (number_in h (N h) m) (to_numbers mode d n num) (to_numbers mode e (N h) m) (to_numbers mode k (N h) m)
  to_numbers mode (factoring_law {f = f} {h = h} one d) n num =
      let r = link_numbers mode f h one in
      let same = number_of o is f n num in
      by_link (subst (λ a. AreLinked (family_of mode forms) a (N h)) (sym same) r.0) (to_numbers mode d (N h) (occurs_number o is h r.1))
  to_numbers mode (overlap_law {fs = fs} {ls = ls} {rs = rs} m occ parts ne le re d e) n (b, l, s) =
      let subs = overlapping_subs parts in
      let p = part_form b fs l ls subs.0 le in
      let q = part_form b fs l rs subs.1 re in
      let x = N (conjunction o.width ls) in
      let y = N (conjunction o.width rs) in
      let all = operands_occur o is b fs l in
      let differ : map N ls ≢ map N rs = λ k. ne (numbers_injective o is ls rs (IsSub_all (IsListed o) subs.0 all) (IsSub_all (IsListed o) subs.1 all) k) in
      let cut : IsCoveringOf forms n x y = (b, map N (items fs), map N ls, map N rs, listed_base b (and_form fs) l, s, covering_of_overlapping N parts, differ, p.is_part, q.is_part) in
      by_split (inl (split_by_covering mode m n x y cut)) (to_numbers mode d x (occurs_number o is (conjunction o.width ls) p.occurs)) (to_numbers mode e y (occurs_number o is (conjunction o.width rs) q.occurs))
  to_numbers mode (tied_inverter_law {f = f} m occ d e) n num =
      let c = number_complement o is f n num in
      by_split (inl (split_by_twice mode m n (flip n) (flip n) (number_in f n num, refl, refl))) (to_numbers mode d (flip n) c) (to_numbers mode e (flip n) c)

  -- from numbers back to plain forms
  pub record IsNandOf (mode : Mode) (f : Form) (x y : ℕ) : Type 0 where
    pub left : Form
    pub right : Form
    pub left_number : IsNumber o.bases left x
    pub right_number : IsNumber o.bases right y
    pub is_nand : IsNandForm mode o f left right
    pub joins : (t u : Tree) → HasTree mode o.width o.signals left t → HasTree mode o.width o.signals right u → HasTree mode o.width o.signals f (nand t u)
    pub turns : (t u : Tree) → HasTree mode o.width o.signals left t → HasTree mode o.width o.signals right u → HasTree mode o.width o.signals f (nand u t)

  some_operand : (ls : List ℕ) (x : ℕ) → IsPart forms ls x → (hs : List Form) → map N hs ≡ ls → 1 ≤ length hs
  some_operand [] x p hs e = absurd p
  some_operand (n ∷ ls) x p [] e = cc
  some_operand (n ∷ ls) x p (h ∷ hs) e = omega arith

  part_number : (b : ℕ) (fs : FormList) → slice_get o.bases b ≡ Some (and_form fs) → (hs : List Form) → IsSub hs (items fs) → 1 ≤ length hs → (ls : List ℕ) → map N hs ≡ ls → (x : ℕ) → IsPart forms ls x → IsNumber o.bases (conjunction o.width hs) x
  part_number b fs e hs s le ls m x p =
      let part = part_form b fs e hs s le in
      let same = part.back x (subst (λ zs. IsPart forms zs x) (sym m) p) in
      subst (IsNumber o.bases (conjunction o.width hs)) (sym same) (occurs_number o is (conjunction o.width hs) part.occurs)

  cut_back : (mode : Mode) (n x y : ℕ) (f : Form) → IsNumber o.bases f n → IsCutOf forms n x y → IsNandOf mode f x y
  cut_back mode n x y f num (b, ns, ls, rs, e, s, c, p, q) =
      let a = and_at b ns e in
      let r = parts_of_cut N c (items a.operands) a.numbers in
      let subs = parts_subs r.parts in
      let le = some_operand ls x p r.left r.left_is in
      let re = some_operand rs y q r.right r.right_is in
      let same : f ≡ not_form (and_form a.operands) = numbers_differ o is f (not_form (and_form a.operands)) n num (b, a.listed, s) in
      record {
        left = conjunction o.width r.left;
        right = conjunction o.width r.right;
        left_number = part_number b a.operands a.listed r.left subs.0 le ls r.left_is x p;
        right_number = part_number b a.operands a.listed r.right subs.1 re rs r.right_is y q;
        is_nand = subst (λ h. IsNandForm mode o h (conjunction o.width r.left) (conjunction o.width r.right)) (sym same) (of_parts (b, a.listed) r.parts le re);
        joins = λ t u d k. subst (λ h. HasTree mode o.width o.signals h (nand t u)) (sym same) (split_law (listed_occurs o is (and_form a.operands) (b, a.listed)) r.parts le re d k);
        turns = λ t u d k. subst (λ h. HasTree mode o.width o.signals h (nand u t)) (sym same) (split_law (listed_occurs o is (and_form a.operands) (b, a.listed)) (parts_turned r.parts) re le k d);
      }

  covering_back : (mode : Mode) → mode ≡ idempotent → (n x y : ℕ) (f : Form) → IsNumber o.bases f n → IsCoveringOf forms n x y → IsNandOf mode f x y
  covering_back mode m n x y f num (b, ns, ls, rs, e, s, c, ne, p, q) =
      let a = and_at b ns e in
      let r = overlap_of_covering N c (items a.operands) a.numbers in
      let subs = overlapping_subs r.parts in
      let le = some_operand ls x p r.left r.left_is in
      let re = some_operand rs y q r.right r.right_is in
      let same : f ≡ not_form (and_form a.operands) = numbers_differ o is f (not_form (and_form a.operands)) n num (b, a.listed, s) in
      let differ : r.left ≢ r.right = λ k. ne (sym r.left_is ∙ (ap (map N) k ∙ r.right_is)) in
      let turned : r.right ≢ r.left = λ k. differ (sym k) in
      record {
        left = conjunction o.width r.left;
        right = conjunction o.width r.right;
        left_number = part_number b a.operands a.listed r.left subs.0 le ls r.left_is x p;
        right_number = part_number b a.operands a.listed r.right subs.1 re rs r.right_is y q;
        is_nand = subst (λ h. IsNandForm mode o h (conjunction o.width r.left) (conjunction o.width r.right)) (sym same) (of_overlap m (b, a.listed) r.parts differ le re);
        joins = λ t u d k. subst (λ h. HasTree mode o.width o.signals h (nand t u)) (sym same) (overlap_law m (listed_occurs o is (and_form a.operands) (b, a.listed)) r.parts differ le re d k);
        turns = λ t u d k. subst (λ h. HasTree mode o.width o.signals h (nand u t)) (sym same) (overlap_law m (listed_occurs o is (and_form a.operands) (b, a.listed)) (overlapping_turned r.parts) turned re le k d);
      }

  twice_back : (mode : Mode) → mode ≡ idempotent → (n x y : ℕ) (f : Form) → IsNumber o.bases f n → IsTwice forms n x y → IsNandOf mode f x y
  twice_back mode m n x y f num (occ, s, t) =
      let c = number_complement o is f n num in
      let at = number_occurs o is f n num in
      record {
        left = complement f;
        right = complement f;
        left_number = subst (IsNumber o.bases (complement f)) (sym s) c;
        right_number = subst (IsNumber o.bases (complement f)) (sym t) c;
        is_nand = of_complement m at;
        joins = λ t u d k. tied_inverter_law m (listed_occurs o is f at) d k;
        turns = λ t u d k. tied_inverter_law m (listed_occurs o is f at) k d;
      }

  pub split_back : (mode : Mode) (n x y : ℕ) (f : Form) → IsNumber o.bases f n → IsSplitOf mode forms n x y → IsNandOf mode f x y
  split_back plain n x y f num c = cut_back plain n x y f num c
  split_back idempotent n x y f num (inl c) = cut_back idempotent n x y f num c
  split_back idempotent n x y f num (inr (inl c)) = covering_back idempotent refl n x y f num c
  split_back idempotent n x y f num (inr (inr c)) = twice_back idempotent refl n x y f num c

  -- the numbers of a NAND of forms are one of the numbered family
  pub nand_numbers : (mode : Mode) {f p q : Form} → IsNandForm mode o f p q → IsSplitOf mode forms (N f) (N p) (N q)
  nand_numbers mode (of_parts {fs = fs} {ls = ls} {rs = rs} occ parts le re) =
      let (b, l, s) = occurs_number o is (not_form (and_form fs)) occ in
      let subs = parts_subs parts in
      let p = part_form b fs l ls subs.0 le in
      let q = part_form b fs l rs subs.1 re in
      split_by_cut mode (N (not_form (and_form fs))) (N (conjunction o.width ls)) (N (conjunction o.width rs)) (b, map N (items fs), map N ls, map N rs, listed_base b (and_form fs) l, s, cut_of_parts N parts, p.is_part, q.is_part)
  nand_numbers mode (of_overlap {fs = fs} {ls = ls} {rs = rs} m occ parts ne le re) =
      let (b, l, s) = occurs_number o is (not_form (and_form fs)) occ in
      let subs = overlapping_subs parts in
      let p = part_form b fs l ls subs.0 le in
      let q = part_form b fs l rs subs.1 re in
      let all = operands_occur o is b fs l in
      let differ : map N ls ≢ map N rs = λ k. ne (numbers_injective o is ls rs (IsSub_all (IsListed o) subs.0 all) (IsSub_all (IsListed o) subs.1 all) k) in
      split_by_covering mode m (N (not_form (and_form fs))) (N (conjunction o.width ls)) (N (conjunction o.width rs)) (b, map N (items fs), map N ls, map N rs, listed_base b (and_form fs) l, s, covering_of_overlapping N parts, differ, p.is_part, q.is_part)
  nand_numbers mode (of_complement {f = f} m occ) =
      let num = occurs_number o is f occ in
      let turned = number_of o is (complement f) (flip (N f)) (number_complement o is f (N f) num) in
      split_by_twice mode m (N f) (N (complement f)) (N (complement f)) (number_in f (N f) num, sym turned, sym turned)

  -- the form of an occurring number
  abbrev HasForm : ℕ → Type 0
  HasForm n = (f : Form) × IsNumber o.bases f n

  form_by_sign : (n b : ℕ) (f : Form) → slice_get o.bases b ≡ Some f → (n ≡ 2 * b) ⊎ (n ≡ 2 * b + 1) → HasForm n
  form_by_sign n b f e (inl s) =
      let z = is.signs b f e in (f, (b, e ∙ ap Some (sym (base_self f z)), omega arith))
  form_by_sign n b f e (inr s) = (not_form f, (b, e, s))

  pub form_of_number : (n : ℕ) → Rattle.lw_laws.specs.NumberedForms.NumberOccurs forms n → HasForm n
  form_of_number n lt =
      let (base, e) = slice_get_some forms.bases (n / 2) lt in
      let (f, d, s) = slice_get_map_back (numbered_base o.bases) o.bases (n / 2) base e in
      form_by_sign n (n / 2) f d (even_or_odd n (n / 2) refl)

  pub record IsSignalAt (n m : ℕ) : Type 0 where
    pub at : ℕ
    pub signal : Signal
    pub listed : slice_get o.signals at ≡ Some signal
    pub sop_is : N signal.sop ≡ n
    pub fac_is : N signal.fac ≡ m

  pub signal_back : (n m : ℕ) → IsSignal forms n m → IsSignalAt n m
  signal_back n m (s, e, k) =
      let (x, d, p) = slice_get_map_back (sop_number o.bases) o.signals s n e in
      let (y, c, q) = slice_get_map_back (fac_number o.bases) o.signals s m k in
      let same : x ≡ y = same_Some x y (sym d ∙ c) in
      record { at = s; signal = x; listed = d; sop_is = p; fac_is = ap (fac_number o.bases) same ∙ q }

  record IsLinkedForm (f : Form) (m : ℕ) : Type 0 where
    other : Form
    is_number : IsNumber o.bases other m
    one : AreOfOneSignal o.signals f other

  -- a form with the number of another is that form
  form_is : (f p : Form) (n : ℕ) → IsNumber o.bases f n → IsListed o p → N p ≡ n → f ≡ p
  form_is f p n num occ e = numbers_differ o is f p n num (subst (IsNumber o.bases p) e (occurs_number o is p occ))

  complement_is : (f p : Form) (n : ℕ) → IsNumber o.bases f n → IsListed o p → N p ≡ flip n → f ≡ complement p
  complement_is f p n num occ e =
      let z = occurs_sign o is f (number_occurs o is f n num) in
      sym (complement_twice f z) ∙ ap complement (form_is (complement f) p (flip n) (number_complement o is f n num) occ e)

  complement_at : (p : Form) (m : ℕ) → IsListed o p → N p ≡ flip m → IsNumber o.bases (complement p) m
  complement_at p m occ e =
      subst (IsNumber o.bases (complement p)) (ap flip e ∙ flip-flip m) (number_complement o is p (N p) (occurs_number o is p occ))

  link_back : (mode : Mode) (n m : ℕ) (f : Form) → IsNumber o.bases f n → AreLinked (family_of mode forms) n m → IsLinkedForm f m
  link_back mode n m f num (inl (inl l)) =
      let r = signal_back n m l in
      let occ = is.signals r.at r.signal r.listed in
      record { other = r.signal.fac; is_number = subst (IsNumber o.bases r.signal.fac) r.fac_is (occurs_number o is r.signal.fac occ.1); one = (r.at, r.signal, r.listed, inl (inl (form_is f r.signal.sop n num occ.0 r.sop_is, refl))) }
  link_back mode n m f num (inl (inr l)) =
      let r = signal_back m n l in
      let occ = is.signals r.at r.signal r.listed in
      record { other = r.signal.sop; is_number = subst (IsNumber o.bases r.signal.sop) r.sop_is (occurs_number o is r.signal.sop occ.0); one = (r.at, r.signal, r.listed, inl (inr (form_is f r.signal.fac n num occ.1 r.fac_is, refl))) }
  link_back mode n m f num (inr (inl l)) =
      let r = signal_back (flip n) (flip m) l in
      let occ = is.signals r.at r.signal r.listed in
      record { other = complement r.signal.fac; is_number = complement_at r.signal.fac m occ.1 r.fac_is; one = (r.at, r.signal, r.listed, inr (inl (complement_is f r.signal.sop n num occ.0 r.sop_is, refl))) }
  link_back mode n m f num (inr (inr l)) =
      let r = signal_back (flip m) (flip n) l in
      let occ = is.signals r.at r.signal r.listed in
      record { other = complement r.signal.sop; is_number = complement_at r.signal.sop m occ.0 r.sop_is; one = (r.at, r.signal, r.listed, inr (inr (complement_is f r.signal.fac n num occ.1 r.fac_is, refl))) }

  pub input_at : (b i n : ℕ) → slice_get forms.bases b ≡ Some (base_input i) → n ≡ 2 * b → IsNumber o.bases (var_form i) n
  input_at b i n e s =
      let (g, d, k) = slice_get_map_back (numbered_base o.bases) o.bases b (base_input i) e in
      (b, d ∙ ap Some (input_of_base b i g d k), s ∙ sym (add-zero (2 * b)))

  pub true_at : (b : ℕ) → slice_get forms.bases b ≡ Some base_true → slice_get o.bases b ≡ Some true_form
  true_at b e =
      let (g, d, k) = slice_get_map_back (numbered_base o.bases) o.bases b base_true e in
      d ∙ ap Some (true_of_base b g d k)

  -- each tree of a number is one of its plain form
  of_numbers : (mode : Mode) {n : ℕ} {t : Tree} → Derives (family_of mode forms) n t → (f : Form) → IsNumber o.bases f n → HasTree mode o.width o.signals f t
  of_numbers mode (by_input {f = n} {i = i} (b, e, s)) f num =
      subst (λ h. HasTree mode o.width o.signals h (leaf i)) (sym (numbers_differ o is f (var_form i) n num (input_at b i n e s))) input_law
  of_numbers mode (by_top {f = n} (b, e, s)) f num =
      subst (λ h. HasTree mode o.width o.signals h const_one) (sym (numbers_differ o is f true_form n num (b, true_at b e, s ∙ sym (add-zero (2 * b))))) true_law
  of_numbers mode (by_bottom {f = n} (b, e, s)) f num =
      let s' = sym (flip-flip n) ∙ flip_even (flip n) b s in
      subst (λ h. HasTree mode o.width o.signals h const_zero) (sym (numbers_differ o is f (not_form true_form) n num (b, true_at b e, s'))) false_law
  of_numbers mode (by_complement {f = n} occ d) f num =
      inverter_law (listed_occurs o is f (number_occurs o is f n num)) (of_numbers mode d (complement f) (number_complement o is f n num))
  of_numbers mode (by_split {f = n} {x = x} {y = y} {t = t} {u = u} (inl c) d e) f num =
      let r = split_back mode n x y f num c in
      r.joins t u (of_numbers mode d r.left r.left_number) (of_numbers mode e r.right r.right_number)
  of_numbers mode (by_split {f = n} {x = x} {y = y} {t = t} {u = u} (inr c) d e) f num =
      let r = split_back mode n y x f num c in
      r.turns u t (of_numbers mode e r.left r.left_number) (of_numbers mode d r.right r.right_number)
  of_numbers mode (by_common {f = n} {h = m} occ other d e k) f num =
      let (h, at) = form_of_number m other in
      sharing_law (listed_occurs o is f (number_occurs o is f n num)) (listed_occurs o is h (number_occurs o is h m at)) (of_numbers mode d f num) (of_numbers mode e h at) (of_numbers mode k h at)
  of_numbers mode (by_link {f = n} {h = m} l d) f num =
      let r = link_back mode n m f num l in
      factoring_law r.one (of_numbers mode d r.other r.is_number)

  pub same_trees : (mode : Mode) → HasSameTrees mode inputs o
  same_trees mode f t occ =
      let num = occurs_number o is f occ in
      (λ d. to_numbers mode d (N f) num, λ d. of_numbers mode d f num)

  -- the numbered forms are listed forms
  parts_length : {fs ls rs : List Form} → AreParts fs ls rs → length fs ≡ length ls + length rs
  parts_length parts_none = refl
  parts_length (parts_left p) = let ih = parts_length p in omega arith
  parts_length (parts_right p) = let ih = parts_length p in omega arith

  before_number : (b : ℕ) (f : Form) → IsListedBefore o.bases b f → IsBefore b (N f)
  before_number b f (k, l, lt) =
      let (c, e, s) = occurs_number o is f (k, l) in
      let same : c ≡ k = is.once c k (base_form f) e l in
      let one = sign_two f in
      omega arith

  all_before : (b : ℕ) (fs : List Form) → AllByRecursion (IsListedBefore o.bases b) fs → AllByRecursion (IsBefore b) (map N fs)
  all_before b [] a = tt
  all_before b (f ∷ fs) (p, a) = (before_number b f p, all_before b fs a)

  part_before : (b : ℕ) (fs : FormList) → slice_get o.bases b ≡ Some (and_form fs) → (hs : List Form) → IsSub hs (items fs) → 1 ≤ length hs → length hs < length (items fs) → IsListedBefore o.bases b (conjunction o.width hs)
  part_before b fs e [] s le lt = absurd (omega arith)
  part_before b fs e (f ∷ []) s le lt =
      subst (IsListedBefore o.bases b) (sym (conjunction_of_one o.width (items fs) (is.ands b fs e).operands_are f s)) (IsSub_all (IsListedBefore o.bases b) s (is.ands b fs e).before).0
  part_before b fs e (f ∷ h ∷ hs) s le lt =
      subst (IsListedBefore o.bases b) (sym (conjunction_of_more o.width (items fs) (is.ands b fs e).operands_are f h hs s)) ((is.ands b fs e).subs (f ∷ h ∷ hs) s (omega arith) lt)

  listed_and : (b : ℕ) (ns : List ℕ) → slice_get forms.bases b ≡ Some (base_and ns) → IsListedAnd forms b ns
  listed_and b ns e =
      let a = and_at b ns e in
      let fs = items a.operands in
      let long = ap length (sym a.numbers) ∙ length-map fs N in
      let are = is.ands b a.operands a.listed in
      let two = are.operands_are.two in
      record {
        two = omega arith;
        operands = subst (AllByRecursion (IsBefore b)) a.numbers (all_before b fs are.before);
        parts = λ ls rs c le re.
            let r = parts_of_cut N c fs a.numbers in
            let l = ap length (sym r.left_is) ∙ length-map r.left N in
            let k = ap length (sym r.right_is) ∙ length-map r.right N in
            let sum = parts_length r.parts in
            let subs = parts_subs r.parts in
            let some : 1 ≤ length r.left = omega arith in
            let less : length r.left < length fs = omega arith in
            let p = part_form b a.operands a.listed r.left subs.0 some in
            (N (conjunction o.width r.left), subst (λ zs. IsPart forms zs (N (conjunction o.width r.left))) r.left_is p.is_part, before_number b (conjunction o.width r.left) (part_before b a.operands a.listed r.left subs.0 some less));
      }

  signal_in : (n m : ℕ) → IsSignal forms n m → Rattle.lw_laws.specs.NumberedForms.NumberOccurs forms n × Rattle.lw_laws.specs.NumberedForms.NumberOccurs forms m
  signal_in n m l =
      let r = signal_back n m l in
      let occ = is.signals r.at r.signal r.listed in
      (subst (Rattle.lw_laws.specs.NumberedForms.NumberOccurs forms) r.sop_is (number_in r.signal.sop (N r.signal.sop) (occurs_number o is r.signal.sop occ.0)), subst (Rattle.lw_laws.specs.NumberedForms.NumberOccurs forms) r.fac_is (number_in r.signal.fac (N r.signal.fac) (occurs_number o is r.signal.fac occ.1)))

  pub numbered_are_forms : AreNumberedForms forms
  numbered_are_forms = record { ands = listed_and; signals = signal_in }
