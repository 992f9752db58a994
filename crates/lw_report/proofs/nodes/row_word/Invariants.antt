use Rattle.std.proofs.Common.{◌≡◌, ◌<◌, ◌&&◌, ℕ, map, drop}
use Rattle.lw_laws.specs.Networks.{row_value}
use Rattle.lw_net.specs.Signs.{asked}
use Rattle.lw_genlib.specs.Words.{bit}
use Rattle.lw_report.specs.Blocks.{bits_at}
use Rattle.lw_report.proofs.nodes.row_word.Given as goal
use Rattle.lw_pool.specs.Numbers.{values_at}

abbrev pub invariant-loop-i : goal.invariant-loop-i
invariant-loop-i l =
    (k : ℕ) → k < 64 → (bit k l.all && row_value (drop l.i (values_at (bits_at k l.nets) l.fanins)) (drop l.i (map asked l.row))) ≡ row_value (values_at (bits_at k l.nets) l.fanins) (map asked l.row)
