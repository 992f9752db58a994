-- Listed forms, and what the rules know of them. Form 2b is the listed base form b, and form 2b + 1 its complement.
use Rattle.std.specs.Prelude.{ℕ, ◌+◌, ◌*◌, ◌/◌, ◌<◌, ◌≤◌, ◌≡◌, ◌≢◌, ◌⊎◌, List, [], ◌∷◌, length, Some, slice_get}
use Rattle.std.specs.List.{AllByRecursion}
use Rattle.lw_laws.specs.Flip.{flip}
use Rattle.lw_laws.specs.Modes.{Mode}
use Rattle.lw_laws.specs.Modes.Mode.{plain, idempotent}
use Rattle.lw_laws.specs.Families.{Family}

pub data Base : Type 0 where
  base_true : Base
  base_input : ℕ → Base
  base_and : List ℕ → Base

pub record NumberedForms : Type 0 where
  pub inputs : ℕ
  pub bases : List Base
  -- the sum of products and the factored form of each signal
  pub sops : List ℕ
  pub facs : List ℕ

-- the operands are cut into two lists, in which their order is kept
pub data IsCut : List ℕ → List ℕ → List ℕ → Type 0 where
  cut_none : IsCut [] [] []
  cut_left : {f : ℕ} {fs ls rs : List ℕ} → IsCut fs ls rs → IsCut (f ∷ fs) (f ∷ ls) rs
  cut_right : {f : ℕ} {fs ls rs : List ℕ} → IsCut fs ls rs → IsCut (f ∷ fs) ls (f ∷ rs)

-- two lists that together hold every operand, in which their order is kept
pub data IsCovering : List ℕ → List ℕ → List ℕ → Type 0 where
  in_none : IsCovering [] [] []
  in_left : {f : ℕ} {fs ls rs : List ℕ} → IsCovering fs ls rs → IsCovering (f ∷ fs) (f ∷ ls) rs
  in_right : {f : ℕ} {fs ls rs : List ℕ} → IsCovering fs ls rs → IsCovering (f ∷ fs) ls (f ∷ rs)
  in_both : {f : ℕ} {fs ls rs : List ℕ} → IsCovering fs ls rs → IsCovering (f ∷ fs) (f ∷ ls) (f ∷ rs)

-- form x is the And of some of the operands: the one operand, or the listed And of more
abbrev pub IsPart : NumberedForms → List ℕ → ℕ → Type 0
IsPart forms [] x = ⊥
IsPart forms (f ∷ []) x = x ≡ f
IsPart forms (f ∷ h ∷ fs) x = (b : ℕ) × (slice_get forms.bases b ≡ Some (base_and (f ∷ h ∷ fs))) × (x ≡ 2 * b)

abbrev pub NumberOccurs : NumberedForms → ℕ → Type 0
NumberOccurs forms f = f / 2 < length forms.bases

-- form f is the complement of a listed And, and x and y are the Ands of the two parts of a cut
abbrev pub IsCutOf : NumberedForms → ℕ → ℕ → ℕ → Type 0
IsCutOf forms f x y =
    (b : ℕ) × (fs : List ℕ) × (ls : List ℕ) × (rs : List ℕ) × (slice_get forms.bases b ≡ Some (base_and fs))
    × (f ≡ 2 * b + 1) × IsCut fs ls rs × IsPart forms ls x × IsPart forms rs y

-- form f is the complement of a listed And, and x and y are the Ands of two different lists of its operands that
-- together hold each
abbrev pub IsCoveringOf : NumberedForms → ℕ → ℕ → ℕ → Type 0
IsCoveringOf forms f x y =
    (b : ℕ) × (fs : List ℕ) × (ls : List ℕ) × (rs : List ℕ) × (slice_get forms.bases b ≡ Some (base_and fs))
    × (f ≡ 2 * b + 1) × IsCovering fs ls rs × (ls ≢ rs) × IsPart forms ls x × IsPart forms rs y

-- form f is the complement of x, which is y too
abbrev pub IsTwice : NumberedForms → ℕ → ℕ → ℕ → Type 0
IsTwice forms f x y = NumberOccurs forms f × (x ≡ flip f) × (y ≡ flip f)

abbrev pub IsSignal : NumberedForms → ℕ → ℕ → Type 0
IsSignal forms f h = (s : ℕ) × (slice_get forms.sops s ≡ Some f) × (slice_get forms.facs s ≡ Some h)

abbrev pub IsSplitOf : Mode → NumberedForms → ℕ → ℕ → ℕ → Type 0
IsSplitOf plain forms f x y = IsCutOf forms f x y
IsSplitOf idempotent forms f x y = IsCutOf forms f x y ⊎ (IsCoveringOf forms f x y ⊎ IsTwice forms f x y)

-- what the mode's laws know of the forms
abbrev pub family_of : Mode → NumberedForms → Family
family_of mode forms = record {
  Occurs = λ f. NumberOccurs forms f;
  IsInput = λ f i. (b : ℕ) × (slice_get forms.bases b ≡ Some (base_input i)) × (f ≡ 2 * b);
  IsTop = λ f. (b : ℕ) × (slice_get forms.bases b ≡ Some base_true) × (f ≡ 2 * b);
  IsSplit = λ f x y. IsSplitOf mode forms f x y;
  IsLink = λ f h. IsSignal forms f h;
}

-- form x is of a base form listed before b
abbrev pub IsBefore : ℕ → ℕ → Type 0
IsBefore b x = x / 2 < b

-- a listed And has two operands at least, each listed before it, and so is the And of each of its parts
pub record IsListedAnd (forms : NumberedForms) (b : ℕ) (fs : List ℕ) : Type 0 where
  pub two : 2 ≤ length fs
  pub operands : AllByRecursion (IsBefore b) fs
  pub parts : (ls rs : List ℕ) → IsCut fs ls rs → 1 ≤ length ls → 1 ≤ length rs
      → (x : ℕ) × IsPart forms ls x × IsBefore b x

pub record AreNumberedForms (forms : NumberedForms) : Type 0 where
  pub ands : (b : ℕ) (fs : List ℕ) → slice_get forms.bases b ≡ Some (base_and fs) → IsListedAnd forms b fs
  pub signals : (f h : ℕ) → IsSignal forms f h → NumberOccurs forms f × NumberOccurs forms h
