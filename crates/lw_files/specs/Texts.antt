-- What a reader was given of the lines of a text.
use Rattle.std.specs.Prelude.{◌≡◌, ◌≤◌, ℕ, Bool, List, ◌++◌, length, take, All}
use Rattle.lw_words.specs.declared.lines.Lines.{Lines}
use Rattle.lw_words.specs.Lines.{LogicalLine}
use Rattle.lw_words.specs.Standing.{StandsFor, is_marked, lines_so_far}

-- These bytes were fed, in a marked reading or not, and the reader was given the first of all lines, which begin with
-- those that are finished and which it may be given.
pub record IsGiven {R : Type 0} (has : R → List LogicalLine → Type 0) (accepts : LogicalLine → Type 0) (marked : Bool)
    (lines : Lines) (reader : R) (all : List LogicalLine) (fed : List ℕ) : Type 0 where
  pub taken : ℕ
  pub reading : is_marked lines ≡ marked
  pub stands : StandsFor lines fed taken
  pub given : has reader (take taken all)
  pub rest : List LogicalLine
  pub whole : all ≡ lines_so_far lines fed ++ rest
  pub accepted : All accepts all

-- and it was given all that are finished
pub record IsGivenAll {R : Type 0} (has : R → List LogicalLine → Type 0) (accepts : LogicalLine → Type 0)
    (marked : Bool) (lines : Lines) (reader : R) (all : List LogicalLine) (fed : List ℕ) : Type 0 where
  pub is_given : IsGiven has accepts marked lines reader all fed
  pub no_more : length (lines_so_far lines fed) ≤ is_given.taken

-- this is so of some bytes and lines
abbrev pub IsGivenSome : {R : Type 0} → (R → List LogicalLine → Type 0) → (LogicalLine → Type 0) → Bool → Lines → R
    → Type 0
IsGivenSome has accepts marked lines reader =
    (all : List LogicalLine) × (fed : List ℕ) × IsGiven has accepts marked lines reader all fed
