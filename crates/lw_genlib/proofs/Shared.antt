-- Lemmas that the proofs of several crates above cite.
use Rattle.lw_genlib.specs.Cells.{CellParts}
use Rattle.lw_genlib.specs.Tables.{cell_delays, delays_of_cells}
use Rattle.lw_laws.specs.Covers.{delays_of}
use Rattle.std.proofs.Common.{List, Some, [], ap, slice_get, suc, zero, ℕ, ◌∷◌, ◌≡◌}
use Rattle.std.proofs.lemmas.Option.{none-some, same_Some}

pub delays_at : (cells : List CellParts) (place : ℕ) (cell : CellParts) → slice_get cells place ≡ Some cell → delays_of (delays_of_cells cells) place ≡ cell_delays cell
delays_at [] place cell at = absurd (none-some cell at)
delays_at (other ∷ cells) zero cell at = ap cell_delays (same_Some other cell at)
delays_at (other ∷ cells) (suc place) cell at = delays_at cells place cell at
