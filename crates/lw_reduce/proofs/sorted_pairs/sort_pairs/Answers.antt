use Rattle.std.proofs.Common.{rules}
use Rattle.std.proofs.lemmas.List.Sorted.{IsNonDecreasingBy-from_sort_by_key}
use Rattle.lw_graph.specs.Index.{pair_key}
use Rattle.lw_reduce.proofs.sorted_pairs.sort_pairs.Goals as goal

pub returns : goal.returns
returns c = record {
  permutation = c.sort_unstable_by_key.ensures.permutation;
  sorted = IsNonDecreasingBy-from_sort_by_key pair_key _ c.sort_unstable_by_key.ensures.sorted (λ a r q k. search rules);
}
