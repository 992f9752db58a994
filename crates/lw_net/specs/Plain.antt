-- A network as plain data, and the order of its nodes.
use Rattle.std.specs.Prelude.{ℕ, List}
use Rattle.std.specs.List.Sorted.{IsNonDecreasing}
use Rattle.lw_laws.specs.Networks.{AreDepths}
use Rattle.lw_net.specs.Networks.{NetworkParts}
pub use Rattle.lw_net.specs.Networks.{plain_node, plain}

-- the depths of the nets don't fall
pub record HasRisingDepths (net : NetworkParts) : Type 0 where
  pub depths : List ℕ
  pub are : AreDepths (plain net) depths
  pub rising : IsNonDecreasing depths
