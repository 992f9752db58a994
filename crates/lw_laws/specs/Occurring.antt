-- The list of occurring base forms, and the number of splits.
use Rattle.std.specs.Prelude.{◌<◌, ◌≡◌, Some, slice_get, ℕ, ◌+◌, ◌-◌, ◌/◌, ◌%◌, ◌^◌, ◌==◌, true, false, cond, leb}
use Rattle.std.specs.Prelude.{if◌then◌else◌, List, [], ◌∷◌, ◌++◌, length}
use Rattle.lw_laws.specs.Networks.{Network}
use Rattle.lw_laws.specs.Modes.{Mode}
use Rattle.lw_laws.specs.Modes.Mode.{plain, idempotent}
use Rattle.lw_laws.specs.Forms.{Form, FormList, items, and_of, is_among}
use Rattle.lw_laws.specs.Forms.Form.{var_form, true_form, not_form, and_form}
use Rattle.lw_laws.specs.Forms.FormList.{no_forms, more_forms}
use Rattle.lw_laws.specs.Signals.{Signal, signals_of}

-- the operands whose bits are set in the mask; the first operand is the lowest bit
abbrev pub part : List Form → ℕ → List Form
part [] mask = []
part (f ∷ fs) mask = if mask % 2 == 1 then f ∷ part fs (mask / 2) else part fs (mask / 2)

-- each sub-list with and without the operand
abbrev pub with_and_without : Form → List (List Form) → List (List Form)
with_and_without f [] = []
with_and_without f (fs ∷ rest) = fs ∷ (f ∷ fs) ∷ with_and_without f rest

-- the sub-lists of the operands by rising mask
abbrev pub sublists : List Form → List (List Form)
sublists [] = [] ∷ []
sublists (f ∷ fs) = with_and_without f (sublists fs)

-- the list with the base form at its end, unless it is listed
abbrev pub appended : Form → List Form → List Form
appended f bases = cond (is_among f bases) bases (bases ++ f ∷ [])

-- a sub-list of two operands at least is appended as an And
abbrev pub append_part : List Form → List Form → List Form
append_part fs bases = cond (leb 2 (length fs)) (appended (and_of fs) bases) bases

abbrev pub append_parts : List (List Form) → List Form → List Form
append_parts [] bases = bases
append_parts (fs ∷ rest) bases = append_parts rest (append_part fs bases)

-- to add a form is to add its base form, an And's operands first and then its parts
abbrev mutual
  pub add_form : Form → List Form → List Form
  add_form (var_form i) bases = appended (var_form i) bases
  add_form true_form bases = appended true_form bases
  add_form (not_form f) bases = add_form f bases
  add_form (and_form fs) bases =
      elim (is_among (and_form fs) bases) [
        | true ↦ bases
        | false ↦ append_parts (sublists (items fs))
            (add_forms fs bases)
      ]

  pub add_forms : FormList → List Form → List Form
  add_forms no_forms bases = bases
  add_forms (more_forms f fs) bases = add_forms fs (add_form f bases)

abbrev pub add_signals : List Signal → List Form → List Form
add_signals [] bases = bases
add_signals (s ∷ signals) bases = add_signals signals (add_form s.fac (add_form s.sop bases))

-- an input's forms are listed at once, in order
abbrev pub occurring_forms : ℕ → Network → List Form
occurring_forms width net = add_signals (signals_of width net) (true_form ∷ [])

-- How many splits an And of so many operands has: unordered cuts into two non-empty sub-lists, and in the further mode
-- unordered pairs of different non-empty sub-lists that together hold every operand. The tied-inverter law's are not
-- counted.
abbrev pub splits_of : Mode → ℕ → ℕ
splits_of plain k = 2 ^ (k - 1) - 1
splits_of idempotent k = (3 ^ k - 3) / 2

abbrev pub splits_at : Mode → Form → ℕ
splits_at mode (and_form fs) = splits_of mode (length (items fs))
splits_at mode _ = 0

abbrev pub split_count : Mode → List Form → ℕ
split_count mode [] = 0
split_count mode (f ∷ fs) = splits_at mode f + split_count mode fs

-- true is listed first, then the inputs in order, and no other input
pub record HasInputsFirst (count : ℕ) (bases : List Form) : Type 0 where
  pub first : slice_get bases 0 ≡ Some true_form
  pub inputs : (i : ℕ) → i < count → slice_get bases (i + 1) ≡ Some (var_form i)
  pub below : (b i : ℕ) → slice_get bases b ≡ Some (var_form i) → i < count
