-- The patterns of a library are of its cells.
use Rattle.std.proofs.Common.{ℕ, suc, ◌⊎◌, ◌+◌, ◌<◌, ◌≡◌, List, [], ◌∷◌, map, length, sym, ap, inl, inr, arith}
use Rattle.lw_laws.proofs.Lists.{slice_get_some}
use Rattle.lw_laws.specs.Trees.{Tree}
use Rattle.lw_laws.specs.Covers.{Pattern, ArePatterns}
use Rattle.lw_laws.specs.Expressions.{Expr}
use Rattle.lw_laws.specs.Patterns.{pattern_of_cell, trees_of_expr, patterns_of_cell, patterns_from, patterns_of}
use Rattle.lw_cost.specs.Least.{AreOfCells}
use Rattle.lw_cost.proofs.Members.{Holds, contains_holds, holds_either}

by_tree : (n : ℕ) (ts : List Tree) (p : Pattern) → Holds (map (pattern_of_cell n) ts) p → p.cell ≡ n
by_tree n [] p h = absurd h
by_tree n (t ∷ ts) p (inl e) = sym (ap (λ (p : Pattern). p.cell) e)
by_tree n (t ∷ ts) p (inr h) = by_tree n ts p h

by_cell : (n : ℕ) (forms : List Expr) (p : Pattern) → Holds (patterns_of_cell n forms) p → p.cell ≡ n
by_cell n [] p h = absurd h
by_cell n (e ∷ forms) p h = cases (holds_either (map (pattern_of_cell n) (trees_of_expr e)) (patterns_of_cell n forms) p h) (by_cell n forms p)
  where
    cases : Holds (map (pattern_of_cell n) (trees_of_expr e)) p ⊎ Holds (patterns_of_cell n forms) p → (Holds (patterns_of_cell n forms) p → p.cell ≡ n) → p.cell ≡ n
    cases (inl h) later = by_tree n (trees_of_expr e) p h
    cases (inr h) later = later h

cell_below : (n : ℕ) (cells : List (List Expr)) (p : Pattern) → Holds (patterns_from n cells) p → p.cell < n + length cells
cell_below n [] p h = absurd h
cell_below n (forms ∷ cells) p h = cases (holds_either (patterns_of_cell n forms) (patterns_from (suc n) cells) p h) (cell_below (suc n) cells p)
  where
    cases : Holds (patterns_of_cell n forms) p ⊎ Holds (patterns_from (suc n) cells) p → (Holds (patterns_from (suc n) cells) p → p.cell < suc n + length cells) → p.cell < n + suc (length cells)
    cases (inl h) later = let e = by_cell n forms p h in omega arith
    cases (inr h) later = let lt = later h in omega arith

pub of_cells : (pin_counts : List ℕ) (cells : List (List Expr)) → length cells ≡ length pin_counts → ArePatterns pin_counts (patterns_of cells) → AreOfCells pin_counts (patterns_of cells)
of_cells pin_counts cells long are p at =
    let below = cell_below 0 cells p (contains_holds (patterns_of cells) p at) in
    let (n, has) = slice_get_some pin_counts p.cell (omega arith) in
    record { pin_count = n; has = has; pins = λ k. (are p at).pins n k has }
