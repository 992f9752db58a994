-- What each graph keeps.
use Rattle.std.specs.Prelude.{ℕ, Bool, List, length, IsTrue}
use Rattle.lw_pool.specs.declared.id.ClassId.{ClassId}
use Rattle.lw_graph.specs.declared.index.Entry.{Entry}
use Rattle.lw_graph.specs.declared.pair.Pair.{Pair}
use Rattle.lw_graph.specs.Graphs.{IsGraph, flat_graph}
use Rattle.lw_graph.specs.Index.{IsIndex}
use Rattle.lw_graph.specs.Rows.{AreEnds, rows_from}

-- the pairs of all classes are cut into those of each, and an index that is there lists them all
pub record IsFlatGraph (one : ClassId) (leaves forms : List ClassId) (ends : List ℕ) (pairs : List Pair)
    (indexed : Bool) (index : List Entry) : Type 0 where
  pub cut : AreEnds (length pairs) 0 ends
  pub graph : IsGraph (flat_graph one leaves forms ends pairs)
  pub listed : IsTrue indexed → IsIndex (rows_from pairs 0 ends) index
