-- The list of base forms as places in a table, and the steps by which a form is added to it.
use Rattle.std.specs.Prelude.{ℕ, ◌+◌, ◌/◌, ◌<◌, ◌≤◌, ◌≡◌, ◌≢◌, List, [], ◌∷◌, ◌++◌, map, length, Some, slice_get}
use Rattle.std.specs.Prelude.{slice_index_or, Result, OnOk, IfErr}
use Rattle.lw_laws.specs.Forms.{Form, FormList, items}
use Rattle.lw_laws.specs.Forms.Form.{var_form, true_form, not_form, and_form}
use Rattle.lw_laws.specs.Forms.FormList.{no_forms, more_forms}
use Rattle.lw_laws.specs.Occurring.{sublists, append_parts, add_form}
use Rattle.lw_laws.specs.SignalValues.{form_of}
use Rattle.lw_form.specs.declared.fault.FormFault.{FormFault}
use Rattle.lw_form.specs.declared.fault.FormFault.TheVariants.{Limit, Memory}
use Rattle.lw_form.specs.declared.listing.Listing.{Listing}
use Rattle.lw_form.specs.declared.listing.Step.{Step}
use Rattle.lw_form.specs.declared.listing.Step.TheVariants.{Add, Parts}
use Rattle.std.specs.List.{AllByRecursion}
use Rattle.lw_form.specs.Factoring.{turned}
use Rattle.lw_form.specs.Limits.{most_bases}
use Rattle.lw_form.specs.Tables.{Table, made, AreBelow, HasMore}

-- in the list of places, where none is
abbrev pub no_place : ℕ
no_place = 4294967295

-- the base form at a place of the table
abbrev pub base_at : List Form → ℕ → Form
base_at forms b = slice_index_or forms b true_form

abbrev pub bases_of : List Form → List ℕ → List Form
bases_of forms listed = map (base_at forms) listed

abbrev pub place_of : List ℕ → ℕ → ℕ
place_of places b = slice_index_or places b no_place

-- each listed base form is made, and each knows its place in the list
pub record IsListed (forms : List Form) (listed places : List ℕ) : Type 0 where
  pub within : (k b : ℕ) → slice_get listed k ≡ Some b → b < length forms
  pub placed : (k b : ℕ) → slice_get listed k ≡ Some b → place_of places b ≡ k
  pub back : (b : ℕ) → place_of places b ≢ no_place → slice_get listed (place_of places b) ≡ Some b
  pub few : length listed ≤ most_bases

-- nothing is listed
pub record IsEmptyListing (listing : Listing) : Type 0 where
  pub listed : listing.listed.items ≡ []
  pub places : listing.places.items ≡ []

-- a form to be added, or an And whose parts are to be listed
pub data PlainStep : Type 0 where
  add_of : Form → PlainStep
  parts_of : List Form → PlainStep

abbrev pub operands_of : Form → List Form
operands_of (and_form fs) = items fs
operands_of (var_form i) = []
operands_of true_form = []
operands_of (not_form f) = []

abbrev pub plain_step : List Form → Step → PlainStep
plain_step forms (Add f) = add_of (form_of forms f)
plain_step forms (Parts b) = parts_of (operands_of (base_at forms b))

-- the list when the steps are done
abbrev pub bases_after : List PlainStep → List Form → List Form
bases_after [] bases = bases
bases_after (add_of f ∷ steps) bases = bases_after steps (add_form f bases)
bases_after (parts_of fs ∷ steps) bases = bases_after steps (append_parts (sublists fs) bases)

-- a fault is that memory ran out, or that the list is too long
abbrev pub IsTooLong : List Form → FormFault → Type 0
IsTooLong bases Limit = most_bases < length bases
IsTooLong bases Memory = Unit {0}

-- the base forms of steps are made
abbrev pub StepFits : ℕ → Step → Type 0
StepFits count (Add f) = f / 2 < count
StepFits count (Parts b) = b < count

abbrev mutual
  pub form_size : Form → ℕ
  form_size (var_form i) = 1
  form_size true_form = 1
  form_size (not_form f) = form_size f
  form_size (and_form fs) = 2 + forms_size fs

  pub forms_size : FormList → ℕ
  forms_size no_forms = 0
  forms_size (more_forms f fs) = form_size f + forms_size fs

abbrev pub step_size : PlainStep → ℕ
step_size (add_of f) = form_size f
step_size (parts_of fs) = 1

abbrev pub steps_size : List PlainStep → ℕ
steps_size [] = 0
steps_size (s ∷ steps) = step_size s + steps_size steps

-- the steps that are still to be done, the last first
abbrev pub plain_steps : List Form → List Step → List PlainStep
plain_steps forms steps = turned (map (plain_step forms) steps)

-- the steps for the operands of an And
abbrev pub adds : List ℕ → List Step
adds [] = []
adds (f ∷ ids) = Add f ∷ adds ids

-- While a form is added: the steps lead to this list.
pub record IsAdding (now : Table) (listed places : List ℕ) (steps : List Step) (goal : List Form) : Type 0 where
  pub listed_is : IsListed (made now) listed places
  pub fit : AllByRecursion (StepFits (length (made now))) steps
  pub same : bases_after (plain_steps (made now) steps) (bases_of (made now) listed) ≡ goal

-- the step is taken: the steps that are left lead to the same list, and less is left to do
pub record TakesStep (old new : Table) (before after : Listing) (steps left : List Step) (step : Step) : Type 0 where
  pub more : HasMore (made old) (made new)
  pub adding : (goal : List Form) → IsAdding old before.listed.items before.places.items (steps ++ step ∷ []) goal
      → IsAdding new after.listed.items after.places.items left goal
  pub less : steps_size (plain_steps (made new) left) < step_size (plain_step (made old) step) + steps_size
      (plain_steps (made old) steps)

-- a fault of a step is one of the list to which the steps lead
abbrev pub IsStepFault : Table → Listing → List Step → Step → FormFault → Type 0
IsStepFault table listing steps step fault = (goal : List Form)
    → IsAdding table listing.listed.items listing.places.items (steps ++ step ∷ []) goal → IsTooLong goal fault

-- a base form that wasn't listed is listed
pub record IsNewlyListed (b : ℕ) (before after : Listing) : Type 0 where
  pub listed : after.listed.items ≡ before.listed.items ++ b ∷ []
  pub placed : place_of after.places.items b ≡ length before.listed.items
  pub others : (x : ℕ) → x ≢ b → place_of after.places.items x ≡ place_of before.places.items x

-- these base forms are listed
pub record HasListed (forms : List Form) (listing : Listing) (goal : List Form) : Type 0 where
  pub listed : IsListed forms listing.listed.items listing.places.items
  pub bases : bases_of forms listing.listed.items ≡ goal

-- so they are, while more forms were made
pub record ListsTo (old new : Table) (listing : Listing) (goal : List Form) : Type 0 where
  pub more : HasMore (made old) (made new)
  pub listed : IsListed (made new) listing.listed.items listing.places.items
  pub bases : bases_of (made new) listing.listed.items ≡ goal

-- At `Ok` this list is reached, while more forms were made; else it is too long, or there is no memory.
pub record Lists (result : Result (Unit {0}) FormFault) (old new : Table) (listing : Listing)
    (goal : List Form) : Type 0 where
  pub listed : OnOk result (ListsTo old new listing goal)
  pub fault : IfErr result (IsTooLong goal)

-- the steps lead to some list
abbrev pub CanTake : Table → Listing → List Step → Type 0
CanTake table listing steps = (goal : List Form) × IsAdding table listing.listed.items listing.places.items steps goal

-- At `Ok` the step is taken; else there is a fault of the step.
pub record Steps (result : Result (Unit {0}) FormFault) (old new : Table) (before after : Listing)
    (steps left : List Step) (step : Step) : Type 0 where
  pub taken : OnOk result (TakesStep old new before after steps left step)
  pub fault : IfErr result (IsStepFault old before steps step)

-- the steps for the operands of an And come first
pub record PutsOperands (ids : List ℕ) (before after : List Step) : Type 0 where
  pub steps : (forms : List Form) → plain_steps forms after ≡ map (plain_step forms) (adds ids)
      ++ plain_steps forms before
  pub fit : (count : ℕ) → AreBelow count ids → AllByRecursion (StepFits count) before
      → AllByRecursion (StepFits count) after

-- and then that for its parts
pub record PutsAnd (b : ℕ) (ids : List ℕ) (before after : List Step) : Type 0 where
  pub steps : (forms : List Form) → plain_steps forms after ≡ map (plain_step forms) (adds ids)
      ++ plain_step forms (Parts b) ∷ plain_steps forms before
  pub fit : (count : ℕ) → b < count → AreBelow count ids → AllByRecursion (StepFits count) before
      → AllByRecursion (StepFits count) after
