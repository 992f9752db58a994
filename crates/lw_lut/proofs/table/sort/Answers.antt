use Rattle.std.proofs.Common.{rules}
use Rattle.std.proofs.lemmas.List.Sorted.{IsNonDecreasingBy-from_sort_by_key}
use Rattle.lw_pool.specs.declared.id.ClassId.{ClassId}
use Rattle.lw_lut.proofs.table.sort.Goals as goal

pub returns : goal.returns
returns c = record {
  permutation = c.sort_unstable_by_key.ensures.permutation;
  sorted = IsNonDecreasingBy-from_sort_by_key (λ (x : ClassId). x.0) _ c.sort_unstable_by_key.ensures.sorted (λ a r q k. search rules);
}
