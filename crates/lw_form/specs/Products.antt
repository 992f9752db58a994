-- Literals over numbers of forms, and what holds of rows.
use Rattle.std.specs.Prelude.{ℕ, ◌≡◌, Bool, true, false, Option, Some, None, List, [], ◌∷◌, length, bit_xor}
use Rattle.lw_form.specs.declared.maker.Fanins.{Fanins}
use Rattle.lw_form.specs.Tables.{Table, made, AreBelow}

abbrev pub signed_number : Bool → ℕ → ℕ
signed_number true f = f
signed_number false f = bit_xor f 1

-- the literals of a row in column order
abbrev pub literal_numbers : List ℕ → List (Option Bool) → List ℕ
literal_numbers (f ∷ fs) (Some sign ∷ row) = signed_number sign f ∷ literal_numbers fs row
literal_numbers (f ∷ fs) (None ∷ row) = literal_numbers fs row
literal_numbers _ _ = []

-- each row has so many columns
abbrev pub HaveColumns : ℕ → List (List (Option Bool)) → Type 0
HaveColumns columns [] = Unit {0}
HaveColumns columns (row ∷ rows) = (length row ≡ columns) × HaveColumns columns rows

-- forms can be made of these rows, which have a sign for each fan-in
pub record AreRowsOver (of : Fanins) (table : Table) (rows : List (List (Option Bool))) : Type 0 where
  pub below : AreBelow (length (made table)) of.forms.now
  pub columns : HaveColumns (length of.forms.now) rows
