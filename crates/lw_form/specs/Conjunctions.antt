-- The steps of an And, over numbers of forms.
use Rattle.std.specs.Prelude.{ℕ, ◌==◌, ◌<◌, ◌≤◌, ◌≡◌, ◌||◌, Bool, false, cond, List, [], ◌∷◌, length, bit_xor}
use Rattle.std.specs.List.{list_any}
use Rattle.lw_laws.specs.Forms.{Form, conjunction, has_clash}
use Rattle.lw_laws.specs.Listings.{AreDistinct}
use Rattle.lw_form.specs.declared.conjunction.Step.{Step}
use Rattle.lw_form.specs.declared.conjunction.Step.TheVariants.{Done, Again}
use Rattle.lw_form.specs.Limits.{most_operands}
use Rattle.lw_form.specs.Tables.{Table, made, forms_at, AreBelow, IsMadeAs, AreMadeAs}

abbrev pub without_number : ℕ → List ℕ → List ℕ
without_number f [] = []
without_number f (h ∷ hs) = cond (f == h) (without_number f hs) (h ∷ without_number f hs)

-- the numbers without that of true and without repeats, of which the first stays
abbrev pub kept_numbers : List ℕ → List ℕ
kept_numbers [] = []
kept_numbers (f ∷ fs) = cond (f == 0) (kept_numbers fs) (f ∷ without_number f (kept_numbers fs))

-- the number of the complement of true is there, or those of a form and its complement
abbrev pub numbers_clash : List ℕ → Bool
numbers_clash fs = list_any (λ h. 1 == h) fs || list_any (λ f. list_any (λ h. bit_xor f 1 == h) fs) fs

-- What one step of an And makes: its number, or fewer forms with the same And.
abbrev pub IsStep : ℕ → Table → Table → List ℕ → Step → Type 0
IsStep width old new forms (Done form) = IsMadeAs old new form (conjunction width (forms_at (made old) forms))
IsStep width old new forms (Again groups) = (fs : List Form) × AreMadeAs old new groups.items fs
    × (conjunction width fs ≡ conjunction width (forms_at (made old) forms)) × (length groups.items < length forms)

-- no form is true, or stands twice, or with its complement
pub record AreClean (fs : List Form) : Type 0 where
  pub distinct : AreDistinct fs
  pub clashless : has_clash fs ≡ false

-- these are what is kept of some forms, with whether they clash
pub record CanBeCombined (table : Table) (numbers : List ℕ) (clashing : Bool) : Type 0 where
  pub kept : (forms : List ℕ) × AreBelow (length (made table)) forms × (numbers ≡ kept_numbers forms)
  pub clash : clashing ≡ numbers_clash numbers

-- these are one form or more that differ and don't clash
pub record CanBeGrouped (table : Table) (forms : List ℕ) : Type 0 where
  pub some : 1 ≤ length forms
  pub below : AreBelow (length (made table)) forms
  pub clean : AreClean (forms_at (made table) forms)

-- one And can be made of these forms, or the form itself where there is one alone
pub record CanBeOneAnd (table : Table) (forms : List ℕ) : Type 0 where
  pub some : 1 ≤ length forms
  pub few : length forms ≤ most_operands
  pub below : AreBelow (length (made table)) forms
  pub clean : AreClean (forms_at (made table) forms)
