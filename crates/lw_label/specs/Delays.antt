-- The cost that is the time from the starts of the inputs on, by a library's delays.
use Rattle.std.specs.Prelude.{ℕ, ◌-◌, ◌^◌, List, slice_index_or}
use Rattle.lw_fixed.specs.declared.micro.Micro.{Micro}
use Rattle.lw_laws.specs.Costs.{Cost}
use Rattle.lw_laws.specs.Delays.{delay_cost}
use Rattle.lw_genlib.specs.Cells.{CellParts}
use Rattle.lw_genlib.specs.Tables.{timing_of}

-- the greatest time that is told
abbrev pub most_time : ℕ
most_time = 2 ^ 63 - 1

abbrev pub time_cost : List CellParts → List Micro → Cost
time_cost cells starts = delay_cost (timing_of cells starts) most_time

-- the start of an input: 0 past the last start
abbrev pub start_at : List Micro → ℕ → ℕ
start_at starts input = (slice_index_or starts input (record { 0 = 0 })).0
