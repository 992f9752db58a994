-- The cells of a library, by the forms of their functions.
use Rattle.std.specs.Prelude.{ℕ, ◌<◌, ◌≡◌, ◌↔◌, Bool, false, List, length, Some, slice_get, slice_index_or, Contains}
use Rattle.lw_laws.specs.Covers.{HasPins}
use Rattle.lw_laws.specs.Netlists.{CellTruth}
use Rattle.lw_laws.specs.Expressions.{Expr, expr_value, MentionsPin}

-- Each form of a cell mentions the cell's pins and no other, and has the cell's truth.
pub record AreCells (pin_counts : List ℕ) (truth : CellTruth) (cells : List (List Expr)) : Type 0 where
  pub pins : (cell n k : ℕ) (forms : List Expr) (e : Expr) → slice_get cells cell ≡ Some forms → Contains forms e
      → HasPins pin_counts cell n → MentionsPin e k ↔ (k < n)
  pub truths : (cell : ℕ) (forms : List Expr) (e : Expr) (ys : List Bool) → slice_get cells cell ≡ Some forms
      → Contains forms e → HasPins pin_counts cell (length ys)
      → expr_value (λ k. slice_index_or ys k false) e ≡ truth cell ys
