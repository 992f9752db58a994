-- Limits.
use Rattle.std.specs.Prelude.{ℕ, ◌≤◌}

-- how many base forms occur at most
abbrev pub most_bases : ℕ
most_bases = 2097152

-- how many operands an And has at most
abbrev pub most_operands : ℕ
most_operands = 8

-- so many operands may be the most that an And has
pub record IsWidth (width : ℕ) : Type 0 where
  pub low : 2 ≤ width
  pub high : width ≤ most_operands
