-- The graph of plain numbers that the code's graph stands for, and what its type keeps.
use Rattle.std.specs.Prelude.{ℕ, ◌<◌, ◌≡◌, ◌%◌, ◌^◌, List, [], map, length, slice_index_or, All}
use Rattle.lw_pool.specs.declared.id.ClassId.{ClassId}
use Rattle.lw_laws.specs.Graphs.{Graph as PlainGraph, Pair as PlainPair, AreRising, PairsInOneClass}
use Rattle.lw_graph.specs.declared.pair.Pair.{Pair}
use Rattle.lw_graph.specs.Rows.{rows_from}
use Rattle.lw_pool.specs.Numbers.{numbers}

abbrev pub plain_pair : Pair → PlainPair
plain_pair p = record { x = p.x.0; y = p.y.0 }

abbrev pub plain_row : List Pair → List PlainPair
plain_row row = map plain_pair row

-- the plain graph
abbrev pub plain_graph : ClassId → List ClassId → List ClassId → List (List Pair) → PlainGraph
plain_graph one leaves forms rows =
    record { one = one.0; leaves = numbers leaves; forms = numbers forms; pairs = map plain_row rows }

-- the plain graph of pairs that stand one class after the other, with the place at which each class ends
abbrev pub flat_graph : ClassId → List ClassId → List ClassId → List ℕ → List Pair → PlainGraph
flat_graph one leaves forms ends pairs = plain_graph one leaves forms (rows_from pairs 0 ends)

abbrev pub IsBelow : ℕ → PlainPair → Type 0
IsBelow n p = (p.x < n) × (p.y < n)

-- What each graph keeps: classes in pairs, with a rising row of pairs for each class and no pair in two of them, and
-- all numbers in range.
pub record IsGraph (g : PlainGraph) : Type 0 where
  pub even : length g.pairs % 2 ≡ 0
  pub few : length g.pairs < 2 ^ 32
  pub few_inputs : length g.leaves < 2 ^ 32
  pub one : g.one < length g.pairs
  pub leaves : All (λ c. c < length g.pairs) g.leaves
  pub forms : All (λ c. c < length g.pairs) g.forms
  pub pairs : All (λ row. All (IsBelow (length g.pairs)) row) g.pairs
  pub rising : (c : ℕ) → AreRising (slice_index_or g.pairs c [])
  pub once : PairsInOneClass g
