-- When classes are renewed again.
use Rattle.std.specs.Prelude.{ℕ, ◌<◌, ◌≡◌, ◌+◌, ◌/◌, length}
use Rattle.lw_laws.specs.Graphs.{Graph}

-- a class of the graph, which has n classes
pub record IsClassOf (g : Graph) (n c : ℕ) : Type 0 where
  pub class : c < length g.pairs
  pub classes : n ≡ length g.pairs

-- a class of the graph, which has n places for a class with its complement
pub record IsClassAmongPairs (g : Graph) (n c : ℕ) : Type 0 where
  pub class : c < length g.pairs
  pub places : n ≡ length g.pairs / 2 + 1
