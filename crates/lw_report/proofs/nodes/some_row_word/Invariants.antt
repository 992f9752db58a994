use Rattle.std.proofs.Common.{◌≡◌, ◌<◌, ◌||◌, ℕ, map, drop}
use Rattle.std.specs.List.{list_any}
use Rattle.lw_laws.specs.Networks.{row_value}
use Rattle.lw_net.specs.Signs.{asked}
use Rattle.lw_genlib.specs.Words.{bit}
use Rattle.lw_report.specs.Blocks.{bits_at}
use Rattle.lw_report.proofs.nodes.some_row_word.Given as goal
use Rattle.lw_pool.specs.Numbers.{values_at}

abbrev pub invariant-loop-row : goal.invariant-loop-row
invariant-loop-row l =
    (k : ℕ) → k < 64 → (bit k l.some || list_any (row_value (values_at (bits_at k l.nets) l.fanins)) (map (map asked) (drop l.row-index l.rows))) ≡ list_any (row_value (values_at (bits_at k l.nets) l.fanins)) (map (map asked) l.rows)
