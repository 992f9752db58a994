-- How many pins a cell has, by its delays.
use Rattle.std.proofs.Common.{ℕ, zero, suc, ◌≡◌, List, [], ◌∷◌, length, map, slice_get, Some, ap, sym, ◌∙◌}
use Rattle.std.proofs.lemmas.List.{length-map}
use Rattle.std.proofs.lemmas.Option.{same_Some, none-some}
use Rattle.lw_laws.specs.Covers.{HasPins}
use Rattle.lw_genlib.specs.Cells.{CellParts}
use Rattle.lw_genlib.specs.Tables.{millionths, delays_of_cells}

-- how many pins it has
pub pins_at : (cells : List CellParts) (place n : ℕ) (cell : CellParts) → slice_get cells place ≡ Some cell → HasPins (map length (delays_of_cells cells)) place n → length cell.delays ≡ n
pins_at [] place n cell at has = absurd (none-some cell at)
pins_at (other ∷ cells) zero n cell at has = ap (λ (c : CellParts). length c.delays) (sym (same_Some other cell at)) ∙ (sym (length-map other.delays millionths) ∙ same_Some (length (map millionths other.delays)) n has)
pins_at (other ∷ cells) (suc place) n cell at has = pins_at cells place n cell at has
