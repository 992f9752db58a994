-- The forms that were made so far, each once, and their numbers: base form b is form 2b, and its complement form 2b +
-- 1.
use Rattle.std.specs.Prelude.{ℕ, zero, suc, ◌+◌, ◌/◌, ◌^◌, ◌<◌, ◌≤◌, ◌≡◌, List, [], ◌∷◌, ◌++◌, map, length, Some}
use Rattle.std.specs.Prelude.{slice_get}
use Rattle.lw_laws.specs.Forms.{Form, and_of}
use Rattle.lw_laws.specs.Forms.Form.{var_form, true_form, not_form, and_form}
use Rattle.lw_laws.specs.Listings.{sign_of}
use Rattle.lw_laws.specs.SignalValues.{form_of}

-- the base forms of all of these numbers are made
abbrev pub AreBelow : ℕ → List ℕ → Type 0
AreBelow count [] = Unit {0}
AreBelow count (f ∷ fs) = (f / 2 < count) × AreBelow count fs

-- the inputs from i on
abbrev pub input_forms : ℕ → ℕ → List Form
input_forms i zero = []
input_forms i (suc n) = var_form i ∷ input_forms (i + 1) n

-- the forms of some numbers
abbrev pub forms_at : List Form → List ℕ → List Form
forms_at forms ids = map (form_of forms) ids

-- the And that is spelled by numbers of its operands
abbrev pub spelled : List Form → List ℕ → Form
spelled forms ids = and_of (forms_at forms ids)

abbrev pub made_after : List Form → List (List ℕ) → List Form
made_after forms [] = forms
made_after forms (ids ∷ keys) = made_after (forms ++ spelled forms ids ∷ []) keys

-- true, the inputs, and the Ands that are spelled one after the other
abbrev pub forms_made : ℕ → List (List ℕ) → List Form
forms_made inputs keys = made_after (true_form ∷ input_forms 0 inputs) keys

-- The number of inputs, and the operands of each And.
pub record Table : Type 0 where
  pub inputs : ℕ
  pub keys : List (List ℕ)

-- the forms of a table
abbrev pub made : Table → List Form
made table = forms_made table.inputs table.keys

-- the forms are base forms, each once, and true is the first
pub record AreMade (forms : List Form) : Type 0 where
  pub first : slice_get forms 0 ≡ Some true_form
  pub signs : (b : ℕ) (f : Form) → slice_get forms b ≡ Some f → sign_of f ≡ 0
  pub once : (a b : ℕ) (f : Form) → slice_get forms a ≡ Some f → slice_get forms b ≡ Some f → a ≡ b
  pub few : length forms ≤ 2 ^ 31

-- there are so many, and they are such
pub record CountsMade (forms : List Form) (n : ℕ) : Type 0 where
  pub len : n ≡ length forms
  pub made : AreMade forms

-- what each table keeps
pub record IsTable (table : Table) : Type 0 where
  pub before : (k : ℕ) (ids : List ℕ) → slice_get table.keys k ≡ Some ids → AreBelow (1 + table.inputs + k) ids
  pub are : AreMade (made table)

-- more forms were made
abbrev pub HasMore : List Form → List Form → Type 0
HasMore old new = (more : List Form) × (new ≡ old ++ more)

-- the base form at a place is the And that is spelled by numbers of forms that are made
pub record IsSpelledAt (forms : List Form) (b : ℕ) (ids : List ℕ) : Type 0 where
  pub and_is : slice_get forms b ≡ Some (spelled forms ids)
  pub below : AreBelow (length forms) ids

-- true and the inputs have no operands
abbrev pub IsSimple : Form → Type 0
IsSimple true_form = Unit {0}
IsSimple (var_form i) = Unit {0}
IsSimple (not_form f) = ⊥
IsSimple (and_form fs) = ⊥

-- The form was made, while more forms were made, or was there.
pub record IsMadeAs (old new : Table) (number : ℕ) (form : Form) : Type 0 where
  pub more : HasMore (made old) (made new)
  pub within : number / 2 < length (made new)
  pub is : form_of (made new) number ≡ form

-- Forms were made, or were there.
pub record AreMadeAs (old new : Table) (numbers : List ℕ) (forms : List Form) : Type 0 where
  pub more : HasMore (made old) (made new)
  pub within : AreBelow (length (made new)) numbers
  pub are : forms_at (made new) numbers ≡ forms
