-- Numbers of forms in the list, made of their numbers in the table.
use Rattle.std.specs.Prelude.{ℕ, zero, suc, ◌+◌, ◌*◌, ◌/◌, ◌%◌, ◌^◌, ◌<◌, ◌≡◌, List, [], ◌∷◌, map, length, Some}
use Rattle.std.specs.Prelude.{slice_get}
use Rattle.lw_laws.specs.Listings.{Listing}
use Rattle.lw_laws.specs.Forms.{Form}
use Rattle.lw_laws.specs.Forms.Form.{var_form, true_form}
use Rattle.lw_laws.specs.Listings.{IsListing}
use Rattle.lw_laws.specs.NumberedForms as laws
use Rattle.lw_laws.specs.NumberedForms.Base.{base_true, base_input, base_and}
use Rattle.lw_form.specs.Listed.{place_of, bases_of}
use Rattle.lw_form.specs.Tables.{AreBelow, spelled}

abbrev pub renumber : List ℕ → ℕ → ℕ
renumber places f = 2 * place_of places (f / 2) + f % 2

-- the base forms of all of these numbers are listed
abbrev pub ArePlaced : List ℕ → List ℕ → Type 0
ArePlaced places [] = Unit {0}
ArePlaced places (f ∷ fs) = (place_of places (f / 2) < 2 ^ 31) × ArePlaced places fs

-- this is the base form at a place of the table, over numbers in the list
abbrev pub IsBaseOf : List Form → List ℕ → ℕ → laws.Base → Type 0
IsBaseOf forms places b base_true = slice_get forms b ≡ Some true_form
IsBaseOf forms places b (base_input i) = slice_get forms b ≡ Some (var_form i)
IsBaseOf forms places b (base_and ns) = (ids : List ℕ) × (slice_get forms b ≡ Some (spelled forms ids))
    × AreBelow (length forms) ids × (ns ≡ map (renumber places) ids)

-- the places name the base forms of a listing
abbrev pub AreOfListing : List Form → List ℕ → Type 0
AreOfListing forms listed = (o : Listing) × IsListing o × (o.bases ≡ bases_of forms listed)

-- true and the inputs stand at the first places of a table
abbrev pub simple_at : ℕ → Form
simple_at zero = true_form
simple_at (suc i) = var_form i
