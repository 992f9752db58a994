-- Matches of patterns are matches of the patterns' cells.
use Rattle.std.specs.Prelude.{ℕ, ◌≡◌, ◌↔◌, List, length}
use Rattle.lw_laws.specs.Graphs.{Graph}
use Rattle.lw_laws.specs.Covers.{Pattern, ArePatterns}
use Rattle.lw_laws.specs.Expressions.{Expr}
use Rattle.lw_laws.specs.Patterns.{patterns_of}
use Rattle.lw_laws.specs.Costs.{Cost}
use Rattle.lw_laws.specs.Extracts.{Match, IsMatchOf}
use Rattle.lw_cost.specs.Least.{AreOfCells}
use Rattle.lw_cost.specs.Coming.{IsPatternMatch}

abbrev pub MatchesHaveCells : Type 0
MatchesHaveCells =
    (g : Graph) (cost : Cost) (pats : List Pattern) (c : ℕ) (m : Match) → AreOfCells cost.pin_counts pats
    → IsPatternMatch g pats c m ↔ ((p : Pattern) × IsMatchOf g cost pats c m p)

-- the patterns of a library are of its cells, where each cell has its number of pins
abbrev pub LibraryPatternsAreOfCells : Type 0
LibraryPatternsAreOfCells =
    (pin_counts : List ℕ) (cells : List (List Expr)) → length cells ≡ length pin_counts
    → ArePatterns pin_counts (patterns_of cells) → AreOfCells pin_counts (patterns_of cells)
