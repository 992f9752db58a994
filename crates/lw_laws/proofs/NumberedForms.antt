-- Listed forms are a family.
use Rattle.std.proofs.Common.{ℕ, ◌+◌, ◌*◌, ◌/◌, ◌≡◌, ◌⊎◌, inl, inr, List, [], ◌∷◌, Some, slice_get, refl, arith}
use Rattle.std.specs.List.{AllByRecursion}
use Rattle.std.proofs.lemmas.Option.{slice_get_within}
use Rattle.lw_laws.specs.Flip.{flip}
use Rattle.lw_laws.specs.Families.{Family}
use Rattle.lw_laws.specs.NumberedForms.{Base, NumberedForms, IsCut, IsCovering, IsPart, NumberOccurs, IsCutOf, IsCoveringOf, IsTwice, IsSplitOf, family_of, IsBefore, AreNumberedForms}
use Rattle.lw_laws.specs.NumberedForms.Base.{base_true, base_input, base_and}
use Rattle.lw_laws.specs.NumberedForms.IsCut.{cut_none, cut_left, cut_right}
use Rattle.lw_laws.specs.NumberedForms.IsCovering.{in_none, in_left, in_right, in_both}
use Rattle.lw_laws.specs.Modes.Mode.{plain, idempotent}
use Rattle.lw_laws.proofs.Words.IsGrounded.{input, top, split}
use Rattle.lw_laws.specs.Modes.{Mode}
use Rattle.lw_laws.proofs.Flips.{half-flip, flip_even, flip_odd, even_or_odd}
use Rattle.lw_laws.proofs.Lists.{slice_get_some}
use Rattle.lw_laws.proofs.Words.{IsFamily, IsGrounded}

-- the cuts with all operands on one side
cut_rest : (fs : List ℕ) → IsCut fs [] fs
cut_rest [] = cut_none
cut_rest (f ∷ fs) = cut_right (cut_rest fs)

cut_whole : (fs : List ℕ) → IsCut fs fs []
cut_whole [] = cut_none
cut_whole (f ∷ fs) = cut_left (cut_whole fs)

IsCut_all : (P : ℕ → Type 0) {fs ls rs : List ℕ} → IsCut fs ls rs → AllByRecursion P fs → AllByRecursion P ls × AllByRecursion P rs
IsCut_all P cut_none a = (tt, tt)
IsCut_all P (cut_left c) (h, a) = let r = IsCut_all P c a in ((h, r.0), r.1)
IsCut_all P (cut_right c) (h, a) = let r = IsCut_all P c a in (r.0, (h, r.1))

IsCovering_all : (P : ℕ → Type 0) {fs ls rs : List ℕ} → IsCovering fs ls rs → AllByRecursion P fs → AllByRecursion P ls × AllByRecursion P rs
IsCovering_all P in_none a = (tt, tt)
IsCovering_all P (in_left c) (h, a) = let r = IsCovering_all P c a in ((h, r.0), r.1)
IsCovering_all P (in_right c) (h, a) = let r = IsCovering_all P c a in (r.0, (h, r.1))
IsCovering_all P (in_both c) (h, a) = let r = IsCovering_all P c a in ((h, r.0), (h, r.1))

-- a cut is a split in either mode
split_by_cut : (mode : Mode) (forms : NumberedForms) (f x y : ℕ) → IsCutOf forms f x y → IsSplitOf mode forms f x y
split_by_cut plain forms f x y c = c
split_by_cut idempotent forms f x y c = inl c

module _ (mode : Mode) (forms : NumberedForms) (are : AreNumberedForms forms) where
  abbrev F : Family
  F = family_of mode forms

  -- the And of a part of a listed And occurs
  part_occurs : (fs ls rs : List ℕ) (b x : ℕ) → slice_get forms.bases b ≡ Some (base_and fs) → AllByRecursion (IsBefore b) ls → IsPart forms ls x → NumberOccurs forms x
  part_occurs fs [] rs b x e before p = absurd p
  part_occurs fs (f ∷ []) rs b x e (before, rest) p = let in' = slice_get_within forms.bases b (base_and fs) e in omega arith
  part_occurs fs (f ∷ h ∷ ls) rs b x e before (k, g, s) = let in' = slice_get_within forms.bases k (base_and (f ∷ h ∷ ls)) g in omega arith

  Occurs-flip : (f : ℕ) → NumberOccurs forms f → NumberOccurs forms (flip f)
  Occurs-flip f o = let e = half-flip f in omega arith

  cut_occurs : (f x y : ℕ) → IsCutOf forms f x y → NumberOccurs forms f × NumberOccurs forms x × NumberOccurs forms y
  cut_occurs f x y (b, fs, ls, rs, e, s, c, p, q) =
      let all = IsCut_all (IsBefore b) c (are.ands b fs e).operands in
      let in' = slice_get_within forms.bases b (base_and fs) e in
      (omega arith, part_occurs fs ls rs b x e all.0 p, part_occurs fs rs ls b y e all.1 q)

  covering_occurs : (f x y : ℕ) → IsCoveringOf forms f x y → NumberOccurs forms f × NumberOccurs forms x × NumberOccurs forms y
  covering_occurs f x y (b, fs, ls, rs, e, s, c, ne, p, q) =
      let all = IsCovering_all (IsBefore b) c (are.ands b fs e).operands in
      let in' = slice_get_within forms.bases b (base_and fs) e in
      (omega arith, part_occurs fs ls rs b x e all.0 p, part_occurs fs rs ls b y e all.1 q)

  twice_occurs : (f x y : ℕ) → IsTwice forms f x y → NumberOccurs forms f × NumberOccurs forms x × NumberOccurs forms y
  twice_occurs f x y (o, s, t) =
      let e = half-flip f in (o, (omega arith), (omega arith))

  pub splits_occur : (m : Mode) (f x y : ℕ) → IsSplitOf m forms f x y → NumberOccurs forms f × NumberOccurs forms x × NumberOccurs forms y
  splits_occur plain f x y c = cut_occurs f x y c
  splits_occur idempotent f x y (inl c) = cut_occurs f x y c
  splits_occur idempotent f x y (inr (inl c)) = covering_occurs f x y c
  splits_occur idempotent f x y (inr (inr t)) = twice_occurs f x y t

  first_and_rest : (b a h : ℕ) (fs : List ℕ) (f y : ℕ) → slice_get forms.bases b ≡ Some (base_and (a ∷ h ∷ fs)) → f ≡ 2 * b + 1 → IsBefore b a → IsPart forms (h ∷ fs) y → IsBefore b y → IsGrounded F (λ h. h / 2) f
  first_and_rest b a h fs f y e s la p ly =
      let c : IsCutOf forms f a y = (b, a ∷ h ∷ fs, a ∷ [], h ∷ fs, e, s, cut_left (cut_rest (h ∷ fs)), refl, p) in
      split a y (inl (split_by_cut mode forms f a y c)) (omega arith) (omega arith)

  grounded_and : (b : ℕ) (fs : List ℕ) (f : ℕ) → slice_get forms.bases b ≡ Some (base_and fs) → f ≡ 2 * b + 1 → IsGrounded F (λ h. h / 2) f
  grounded_and b [] f e s = let l = are.ands b [] e in absurd (omega (arith, l.two))
  grounded_and b (a ∷ []) f e s = let l = are.ands b (a ∷ []) e in absurd (omega (arith, l.two))
  grounded_and b (a ∷ h ∷ fs) f e s =
      let l = are.ands b (a ∷ h ∷ fs) e in
      let part = l.parts (h ∷ fs) (a ∷ []) (cut_right (cut_whole (h ∷ fs))) (omega arith) (omega arith) in
      first_and_rest b a h fs f part.0 e s (l.operands).0 part.1 part.2

  -- the last bit of a form, and the base form
  grounded_at : (f b : ℕ) (base : Base) → slice_get forms.bases b ≡ Some base → (f ≡ 2 * b) ⊎ (f ≡ 2 * b + 1) → IsGrounded F (λ h. h / 2) f ⊎ IsGrounded F (λ h. h / 2) (flip f)
  grounded_at f b base_true e (inl s) = inl (top (b, e, s))
  grounded_at f b base_true e (inr s) = inr (top (b, e, flip_odd f b s))
  grounded_at f b (base_input i) e (inl s) = inl (input i (b, e, s))
  grounded_at f b (base_input i) e (inr s) = inr (input i (b, e, flip_odd f b s))
  grounded_at f b (base_and fs) e (inl s) = inr (grounded_and b fs (flip f) e (flip_even f b s))
  grounded_at f b (base_and fs) e (inr s) = inl (grounded_and b fs f e s)

  -- listed forms are a family
  pub forms_are_family : IsFamily F (λ f. f / 2)
  forms_are_family = record {
    flips = Occurs-flip;
    inputs = λ f i (b, e, s). let in' = slice_get_within forms.bases b (base_input i) e in omega arith;
    tops = λ f (b, e, s). let in' = slice_get_within forms.bases b base_true e in omega arith;
    splits = λ f x y h. splits_occur mode f x y h;
    links = λ f h l. are.signals f h l;
    rank_flip = half-flip;
    grounded = λ f o. let (base, e) = slice_get_some forms.bases (f / 2) o in grounded_at f (f / 2) base e (even_or_odd f (f / 2) refl);
  }
