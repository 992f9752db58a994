-- The And of some operands of a listed And.
use Rattle.std.proofs.Common.{◌≡◌, ◌+◌, ◌*◌, ◌/◌, ◌%◌, ◌^◌, ◌==◌, ◌<◌, ◌≤◌, ◌⊎◌, inl, inr, ℕ, zero, suc, Bool, true, false, ◌||◌, if◌then◌else◌, List, [], ◌∷◌, ◌++◌, length, map, drop, Option, Some, slice_get, get_or, refl, ap, sym, ◌∙◌, subst, arith, pow-suc, append_assoc, eq-or-lt_of_le}
use Rattle.std.specs.List.{position, list_any}
use Rattle.std.proofs.lemmas.List.{at_drop_more}
use Rattle.std.proofs.lemmas.List.Quantifiers.{position-Some}
use Rattle.std.proofs.lemmas.Option.{slice_get-get_or}
use Rattle.std.proofs.lemmas.Slice.Eq.{bytes_eq-Decides}
use Rattle.lw_laws.specs.NumberedForms.{Base as PlainBase, NumberedForms, IsCut, IsPart, IsListedAnd}
use Rattle.lw_laws.specs.NumberedForms.Base.{base_and}
use Rattle.lw_laws.specs.NumberedForms.IsCut.{cut_none, cut_left, cut_right}
use Rattle.lw_laws.proofs.Numbers.{slice_get_map}
use Rattle.lw_form.specs.declared.base.Base.{Base}
use Rattle.lw_form.specs.declared.base.Base.TheVariants.{True, Input, And}
use Rattle.lw_form.specs.contracts.base.BasePartialEq.TheImpl.{eq-value}
use Rattle.lw_form.specs.Bases.{plain_base, picked}
use Rattle.lw_form.specs.Kept.{AreForms, HasPart}

-- one more form is looked at
picked_next : (part ids : List ℕ) (i rest : ℕ) → i < length ids → (k : ℕ) → rest % 2 ≡ k → part ++ (if k == 1 then get_or ids i 0 ∷ picked (drop (i + 1) ids) (rest / 2) else picked (drop (i + 1) ids) (rest / 2)) ≡ part ++ picked (drop i ids) rest
picked_next part ids i rest below k e =
    sym (ap (λ l. part ++ l) (at_drop_more (λ l. picked l rest) ids i 0 below ∙ ap (λ (k : ℕ). if k == 1 then get_or ids i 0 ∷ picked (drop (i + 1) ids) (rest / 2) else picked (drop (i + 1) ids) (rest / 2)) e))

pub picked_one : (old new ids goal : List ℕ) (i rest : ℕ) → i < length ids → rest % 2 ≡ 1 → new ≡ old ++ get_or ids i 0 ∷ [] → old ++ picked (drop i ids) rest ≡ goal → new ++ picked (drop (i + 1) ids) (rest / 2) ≡ goal
picked_one old new ids goal i rest below e is so_far = ap (λ l. l ++ picked (drop (i + 1) ids) (rest / 2)) is ∙ (append_assoc old (get_or ids i 0 ∷ []) (picked (drop (i + 1) ids) (rest / 2)) ∙ (picked_next old ids i rest below 1 e ∙ so_far))

pub picked_none : (old new ids goal : List ℕ) (i rest : ℕ) → i < length ids → (rest % 2 ≡ 1 → ⊥) → new ≡ old → old ++ picked (drop i ids) rest ≡ goal → new ++ picked (drop (i + 1) ids) (rest / 2) ≡ goal
picked_none old new ids goal i rest below ne is so_far =
    let e : rest % 2 ≡ 0 = omega arith in
    ap (λ l. l ++ picked (drop (i + 1) ids) (rest / 2)) is ∙ (picked_next old ids i rest below 0 e ∙ so_far)

pub picked_zero : (fs : List ℕ) → picked fs 0 ≡ []
picked_zero [] = refl
picked_zero (f ∷ fs) = picked_zero fs

-- the operands whose bits are not set
abbrev pub unpicked : List ℕ → ℕ → List ℕ
unpicked [] mask = []
unpicked (f ∷ fs) mask = if mask % 2 == 1 then unpicked fs (mask / 2) else f ∷ unpicked fs (mask / 2)

pub cut_by : (fs : List ℕ) (mask : ℕ) → IsCut fs (picked fs mask) (unpicked fs mask)
cut_by [] mask = cut_none
cut_by (f ∷ fs) mask = by_test (mask % 2 == 1) (cut_by fs (mask / 2)) where
  by_test : (t : Bool) → IsCut fs (picked fs (mask / 2)) (unpicked fs (mask / 2)) → IsCut (f ∷ fs) (if t then f ∷ picked fs (mask / 2) else picked fs (mask / 2)) (if t then unpicked fs (mask / 2) else f ∷ unpicked fs (mask / 2))
  by_test true c = cut_left c
  by_test false c = cut_right c

some_picked : (fs : List ℕ) (mask : ℕ) → 1 ≤ mask → mask < 2 ^ length fs → 1 ≤ length (picked fs mask)
some_picked [] mask one lt = absurd (omega arith)
some_picked (f ∷ fs) mask one lt = by_rest (mask % 2) refl (λ o l. some_picked fs (mask / 2) o l) where
  half : mask / 2 < 2 ^ length fs
  half = let p = pow-suc 2 (length fs) in omega arith

  by_rest : (k : ℕ) → mask % 2 ≡ k → (1 ≤ mask / 2 → mask / 2 < 2 ^ length fs → 1 ≤ length (picked fs (mask / 2))) → 1 ≤ length (if k == 1 then f ∷ picked fs (mask / 2) else picked fs (mask / 2))
  by_rest zero e ih = ih (omega arith) half
  by_rest (suc zero) e ih = omega arith
  by_rest (suc (suc k)) e ih = absurd (omega arith)

cut_all : {fs ls rs : List ℕ} → IsCut fs ls rs → length rs ≡ 0 → ls ≡ fs
cut_all cut_none e = refl
cut_all (cut_left {f = f} c) e = ap (λ l. f ∷ l) (cut_all c e)
cut_all (cut_right c) e = absurd (omega arith)

whole_part : (forms : NumberedForms) (b : ℕ) (fs : List ℕ) → slice_get forms.bases b ≡ Some (base_and fs) → 2 ≤ length fs → IsPart forms fs (2 * b)
whole_part forms b [] e two = absurd (omega arith)
whole_part forms b (f ∷ []) e two = absurd (omega arith)
whole_part forms b (f ∷ h ∷ fs) e two = (b, e, refl)

-- the And of some operands of a listed And is listed
pub part_is : (forms : NumberedForms) → AreForms forms → (b : ℕ) (fs : List ℕ) (mask : ℕ) → slice_get forms.bases b ≡ Some (base_and fs) → 1 ≤ mask → mask < 2 ^ length fs → (x : ℕ) × IsPart forms (picked fs mask) x
part_is forms are b fs mask e one lt = by_rest (eq-or-lt_of_le {n = 0} {m = length (unpicked fs mask)} (omega arith)) where
  listed : IsListedAnd forms b fs
  listed = are.numbered.ands b fs e

  by_rest : (0 ≡ length (unpicked fs mask)) ⊎ (0 < length (unpicked fs mask)) → (x : ℕ) × IsPart forms (picked fs mask) x
  by_rest (inl none) = (2 * b, subst (λ l. IsPart forms l (2 * b)) (sym (cut_all (cut_by fs mask) (sym none))) (whole_part forms b fs e listed.two))
  by_rest (inr some) = let (x, p, before) = listed.parts (picked fs mask) (unpicked fs mask) (cut_by fs mask) (some_picked fs mask one lt) (omega arith) in (x, p)

same_and : (ids : List ℕ) (b : Base) → eq-value.it (And ids) b ≡ true → b ≡ And ids
same_and ids True e = cc
same_and ids (Input i) e = cc
same_and ids (And hs) e = ap And (sym ((bytes_eq-Decides ids hs).0 e))

and_base : (ids : List ℕ) (b : Base) → plain_base b ≡ base_and ids → b ≡ And ids
and_base ids True e = cc
and_base ids (Input i) e = cc
and_base ids (And hs) e = cc

same_and_refl : (ids : List ℕ) → eq-value.it (And ids) (And ids) ≡ true
same_and_refl ids = (bytes_eq-Decides ids ids).1 refl

-- a base form that no key is equal to is not listed
absent : (ids : List ℕ) (keys : List Base) (k : ℕ) → list_any (eq-value.it (And ids)) keys ≡ false → slice_get (map plain_base keys) k ≡ Some (base_and ids) → ⊥
absent ids [] k none e = cc
absent ids (b ∷ keys) zero none e = not_first (eq-value.it (And ids) b) (ap (λ c. eq-value.it (And ids) c) (and_base ids b cc) ∙ same_and_refl ids) none where
  not_first : (t : Bool) → t ≡ true → (t || list_any (eq-value.it (And ids)) keys) ≡ false → ⊥
  not_first true e n = cc
  not_first false e n = cc
absent ids (b ∷ keys) (suc k) none e = absent ids keys k (later (eq-value.it (And ids) b) none) e where
  later : (t : Bool) → (t || list_any (eq-value.it (And ids)) keys) ≡ false → list_any (eq-value.it (And ids)) keys ≡ false
  later true n = cc
  later false n = n

-- the key that is found is the And
found : (ids : List ℕ) (keys : List Base) (p : ℕ) → position (eq-value.it (And ids)) keys ≡ Some p → slice_get (map plain_base keys) p ≡ Some (base_and ids)
found ids keys p e =
    let (below, same, before) = position-Some (eq-value.it (And ids)) keys p True e in
    slice_get_map plain_base keys p (And ids) (slice_get-get_or keys p True below ∙ ap Some (same_and ids (get_or keys p True) same))

one_part : (forms : NumberedForms) (part : List ℕ) (x : ℕ) → length part ≡ 1 → slice_get part 0 ≡ Some x → IsPart forms part x
one_part forms [] x one e = cc
one_part forms (f ∷ []) x one e = cc
one_part forms (f ∷ h ∷ part) x one e = absurd (omega arith)

many_part : (forms : NumberedForms) (part : List ℕ) (p : ℕ) → 2 ≤ length part → slice_get forms.bases p ≡ Some (base_and part) → IsPart forms part (2 * p)
many_part forms [] p two e = absurd (omega arith)
many_part forms (f ∷ []) p two e = absurd (omega arith)
many_part forms (f ∷ h ∷ part) p two e = (p, e, refl)

part_place : (forms : NumberedForms) (part : List ℕ) (x : ℕ) → 2 ≤ length part → IsPart forms part x → (p : ℕ) × (slice_get forms.bases p ≡ Some (base_and part))
part_place forms [] x two is = absurd (omega arith)
part_place forms (f ∷ []) x two is = absurd (omega arith)
part_place forms (f ∷ h ∷ part) x two (p, e, s) = (p, e)

same_operands : (fs ids : List ℕ) (o : Option PlainBase) → o ≡ Some (base_and fs) → o ≡ Some (base_and ids) → fs ≡ ids
same_operands fs ids o e d = cc

-- two operands or more
several : (forms : NumberedForms) (b mask : ℕ) (ids : List ℕ) → HasPart forms b mask → slice_get forms.bases b ≡ Some (base_and ids) → (length (picked ids mask) ≡ 1 → ⊥) → 2 ≤ length (picked ids mask)
several forms b mask ids (fs, e, one, lt) d ne =
    let same = same_operands fs ids _ e d in
    let some = some_picked ids mask one (subst (λ l. mask < 2 ^ length l) same lt) in
    omega arith

pub alone : (forms : NumberedForms) (b mask : ℕ) (ids part : List ℕ) → slice_get forms.bases b ≡ Some (base_and ids) → part ≡ picked ids mask → (x : ℕ) → length part ≡ 1 → slice_get part 0 ≡ Some x → (fs : List ℕ) → slice_get forms.bases b ≡ Some (base_and fs) → IsPart forms (picked fs mask) x
alone forms b mask ids part and_is part_of x one e fs d = subst (λ l. IsPart forms l x) (part_of ∙ ap (λ l. picked l mask) (same_operands ids fs _ and_is d)) (one_part forms part x one e)

module _ (forms : NumberedForms) (keys : List Base) (b mask : ℕ) (ids part : List ℕ) (are : AreForms forms) (bases : forms.bases ≡ map plain_base keys) (has : HasPart forms b mask) (and_is : slice_get forms.bases b ≡ Some (base_and ids)) (part_of : part ≡ picked ids mask) where
  two : (length part ≡ 1 → ⊥) → 2 ≤ length part
  two ne = subst (λ l. 2 ≤ length l) (sym part_of) (several forms b mask ids has and_is (λ e. ne (ap length part_of ∙ e)))

  pub listed : (p : ℕ) → (length part ≡ 1 → ⊥) → position (eq-value.it (And part)) keys ≡ Some p → (fs : List ℕ) → slice_get forms.bases b ≡ Some (base_and fs) → IsPart forms (picked fs mask) (2 * p)
  listed p ne e fs d =
      subst (λ l. IsPart forms l (2 * p)) (part_of ∙ ap (λ l. picked l mask) (same_operands ids fs _ and_is d))
      (many_part forms part p (two ne) (ap (λ l. slice_get l p) bases ∙ found part keys p e))

  pub not_absent : (length part ≡ 1 → ⊥) → list_any (eq-value.it (And part)) keys ≡ false → ⊥
  not_absent ne none =
      let (fs, e, one, lt) = has in
      let (x, is) = part_is forms are b fs mask e one lt in
      let same : picked fs mask ≡ part = ap (λ l. picked l mask) (same_operands fs ids _ e and_is) ∙ sym part_of in
      let (p, k) = part_place forms part x (two ne) (subst (λ l. IsPart forms l x) same is) in
      absent part keys p none (ap (λ l. slice_get l p) (sym bases) ∙ k)
