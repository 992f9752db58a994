-- An index of the pairs of all classes.
use Rattle.std.specs.Prelude.{ℕ, ◌+◌, ◌*◌, ◌^◌, ◌↔◌, List, [], Contains, slice_index_or}
use Rattle.std.specs.List.Sorted.{IsNonDecreasingBy}
use Rattle.lw_pool.specs.declared.id.ClassId.{ClassId}
use Rattle.lw_graph.specs.declared.pair.Pair.{Pair}
use Rattle.lw_graph.specs.declared.index.Entry.{Entry}

-- in the order of the first class and then the second
abbrev pub pair_key : Pair → ℕ
pair_key p = p.x.0 * 2 ^ 32 + p.y.0

abbrev pub entry_key : Entry → ℕ
entry_key e = pair_key e.pair

-- a pair, with the class that holds it
abbrev pub entry_of : ClassId → Pair → Entry
entry_of c p = record { pair = p; class = c }

-- the entries are the pairs of all classes, in the order of the pairs
pub record IsIndex (rows : List (List Pair)) (entries : List Entry) : Type 0 where
  pub listed : (e : Entry) → Contains entries e ↔ Contains (slice_index_or rows e.class.0 []) e.pair
  pub sorted : IsNonDecreasingBy entry_key entries
