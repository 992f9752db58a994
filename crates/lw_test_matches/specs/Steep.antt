-- A cost that is a sum, and jumps where the sum is no less than a threshold.
use Rattle.std.specs.Prelude.{ℕ, ◌+◌, ◌-◌, ◌^◌, min, nat_lt, if◌then◌else◌, List, [], length, map}
pub use Rattle.lw_facts.specs.Sums.{total}
use Rattle.lw_laws.specs.Costs.{Cost}
use Rattle.lw_genlib.specs.Cells.{CellParts}
use Rattle.lw_genlib.specs.Tables.{delays_of_cells}

-- the greatest cost
abbrev pub most_cost : ℕ
most_cost = 2 ^ 62

abbrev pub joined : ℕ → ℕ → ℕ
joined a b = min most_cost (a + b)

abbrev pub jump : ℕ → ℕ → ℕ → ℕ
jump from rise t = if nat_lt t from then 0 else rise

-- the sum of the pins, the jump, and one for each pin but the first
abbrev pub steep_value : ℕ → ℕ → List ℕ → ℕ
steep_value from rise ds =
    joined (joined (joined 0 (total ds)) (jump from rise (joined 0 (total ds)))) (length ds - 1)

abbrev pub steep_cost : List CellParts → ℕ → ℕ → Cost
steep_cost cells from rise = record {
  cap = most_cost;
  leaf = λ input. 0;
  value = λ cell ds. steep_value from rise ds;
  pin_counts = map length (delays_of_cells cells);
}
