-- Ranks of nodes, by which most nodes that are on no cycle are told without a search.
use Rattle.std.specs.Prelude.{ℕ, ◌+◌, ◌*◌, ◌<◌, ◌≤◌, ◌≡◌, ◌⊎◌, List, [], length, slice_index_or, vec_len, Contains, All}
use Rattle.std.specs.Global.{Vec}
use Rattle.lw_dag.specs.declared.graph.SmallGraph.{SmallGraph}
use Rattle.lw_dag.specs.declared.ranking.Ranking.{Ranking}
use Rattle.lw_dag.specs.declared.turning.Stop.{Stop}
use Rattle.lw_dag.specs.declared.turning.Walk.{Walk}
use Rattle.lw_dag.specs.Graphs.{fanins_at}
use Rattle.lw_dag.specs.Rising.{unknown}

-- each entry is a node
abbrev pub AreWithin : ℕ → List (List ℕ) → Type 0
AreWithin n rows = All (All (λ j. j < n)) rows

-- a row for each of n nodes
pub record AreUserRows (n : ℕ) (rows : Vec (List ℕ)) : Type 0 where
  pub len : vec_len rows ≡ n
  pub within : AreWithin n rows.items

-- A walk over n nodes.
pub record IsWalk (n : ℕ) (walk : Walk) : Type 0 where
  pub flags : length walk.seen.items ≡ n
  pub way : All (λ (stop : Stop). stop.node < n) walk.way.items
  pub left : All (λ j. j < n) walk.left.items

-- the rank of a node, or 0 where it has none
abbrev pub rank_at : List ℕ → ℕ → ℕ
rank_at ranks x = slice_index_or ranks x 0

-- node y has a rank, and none above that of node x
abbrev pub IsNotAbove : List ℕ → ℕ → ℕ → Type 0
IsNotAbove ranks x y = (0 < rank_at ranks y) × (rank_at ranks y ≤ rank_at ranks x)

-- No fan-in is above a node that has a rank. So a node whose fan-ins are all below it is on no cycle.
pub record AreRanks (inputs : ℕ) (graph : List (List ℕ)) (ranks : List ℕ) : Type 0 where
  pub one_each : length ranks ≡ length graph
  pub falls : (x y : ℕ) → 0 < rank_at ranks x → Contains (fanins_at graph x) (inputs + y) → IsNotAbove ranks x y

-- While a rank is given to all that a node leads to and that has none: the fan-ins of a node have ranks, unless the
-- node is still to be looked at, or has that rank while the fan-in is still to be looked at.
pub record IsRanking (inputs : ℕ) (graph : List (List ℕ)) (rank : ℕ) (ranks ready later : List ℕ) : Type 0 where
  pub one_each : length ranks ≡ length graph
  pub low : (x : ℕ) → rank_at ranks x ≤ rank
  pub nodes : (x : ℕ) → Contains ready x → (x < length graph) × (rank_at ranks x ≡ rank)
  pub falls : (x y : ℕ) → 0 < rank_at ranks x → Contains (fanins_at graph x) (inputs + y)
      → IsNotAbove ranks x y ⊎ Contains ready x ⊎ ((rank_at ranks x ≡ rank) × Contains later (inputs + y))

-- Signals were ranked: they need not be looked at any more, and there is no more to do than before.
pub record AreRanked (inputs rank : ℕ) (later still : List ℕ) (old new : Ranking) : Type 0 where
  pub ranking : (graph : List (List ℕ)) → IsRanking inputs graph rank old.ranks.items old.ready.items later
      → IsRanking inputs graph rank new.ranks.items new.ready.items still
  pub less : 2 * unknown new.ranks.items + vec_len new.ready ≤ 2 * unknown old.ranks.items + vec_len old.ready
  pub len : vec_len new.ranks ≡ vec_len old.ranks

-- all ranks are at most that of the last node that got one, and no fan-ins are still to be looked at
pub record AreRanksTo (graph : SmallGraph) (rank : ℕ) (ranking : Ranking) : Type 0 where
  pub are : AreRanks graph.inputs graph.nodes.now ranking.ranks.items
  pub low : (x : ℕ) → rank_at ranking.ranks.items x ≤ rank
  pub done : ranking.ready.items ≡ []
