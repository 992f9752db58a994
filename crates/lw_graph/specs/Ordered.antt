-- Pairs with the lower class first.
use Rattle.std.specs.Prelude.{ℕ, min, max}
use Rattle.lw_graph.specs.declared.pair.Pair.{Pair}

abbrev pub ordered_pair : ℕ → ℕ → Pair
ordered_pair x y = record { x = record { 0 = min x y }; y = record { 0 = max x y } }
