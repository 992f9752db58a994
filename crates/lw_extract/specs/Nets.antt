-- The nets of classes, in a list by class number.
use Rattle.std.specs.Prelude.{ℕ, ◌≡◌, List, length, Option, Some, None, IsSome, slice_get, slice_index_or}
use Rattle.lw_pool.specs.declared.id.ClassId.{ClassId}
use Rattle.lw_pool.specs.declared.id.NetId.{NetId}
use Rattle.lw_laws.specs.Graphs.{Graph}
use Rattle.lw_laws.specs.Extracts.{IsLeafClass, IsNetOf}

abbrev pub Nets : Type 0
Nets = List (Option NetId)

abbrev pub net_in : Nets → ClassId → Option NetId
net_in nets class = slice_index_or nets class.0 None

-- the inputs' classes have a net of such an input, and no other class has one
pub record AreInputNets (g : Graph) (nets : Nets) : Type 0 where
  pub one_each : length nets ≡ length g.pairs
  pub some : (c : ℕ) (n : NetId) → slice_index_or nets c None ≡ Some n → slice_get g.leaves n.0 ≡ Some c
  pub none : (c : ℕ) → slice_index_or nets c None ≡ None → IsLeafClass g c → ⊥

-- the classes of inputs and of gates have a net of their own, and no other class has one
pub record AreClassNets (g : Graph) (gates : List ℕ) (nets : Nets) : Type 0 where
  pub one_each : length nets ≡ length g.pairs
  pub some : (c : ℕ) (n : NetId) → slice_index_or nets c None ≡ Some n → IsNetOf g gates c n.0
  pub all : (c n : ℕ) → IsNetOf g gates c n → IsSome (slice_index_or nets c None)
