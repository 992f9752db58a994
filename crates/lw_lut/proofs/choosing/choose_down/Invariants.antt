use Rattle.std.proofs.Common.{◌≡◌, ◌≤◌, ℕ, All, length, reverse, drop}
use Rattle.lw_laws.specs.Graphs.{Graph}
use Rattle.lw_lut.specs.Depths.{AreLeastDepths}
use Rattle.lw_lut.specs.declared.table.Table.{Table}
use Rattle.lw_lut.proofs.Descent.{IsDown}
use Rattle.lw_lut.proofs.choosing.choose_down.Given as goal

abbrev pub invariant-loop-k : goal.invariant-loop-k
invariant-loop-k l = record {
  one_each : length l.needed.items ≡ length l.of.depths.now.depths;
  down : (g : Graph) (most : ℕ) → AreLeastDepths g most l.of.depths.now → IsDown g most l.of.depths.now.depths l.of.roots.now (drop l.k l.places) l.needed.items (reverse l.tables.items);
  few : All (λ (t : Table). length t.fanins ≤ 6) (reverse l.tables.items);
}
