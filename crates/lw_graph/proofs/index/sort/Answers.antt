use Rattle.std.proofs.Common.{rules}
use Rattle.std.proofs.lemmas.List.Sorted.{IsNonDecreasingBy-from_sort_by_key}
use Rattle.lw_graph.specs.Index.{entry_key}
use Rattle.lw_graph.proofs.index.sort.Goals as goal

pub returns : goal.returns
returns c = record {
  permutation = c.sort_unstable_by_key.ensures.permutation;
  sorted = IsNonDecreasingBy-from_sort_by_key entry_key _ c.sort_unstable_by_key.ensures.sorted (λ a r q k. search rules);
}
