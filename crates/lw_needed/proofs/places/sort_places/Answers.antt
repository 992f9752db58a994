use Rattle.std.proofs.Common.{rules}
use Rattle.std.proofs.lemmas.List.Sorted.{IsNonDecreasingBy-from_sort_by_key}
use Rattle.lw_needed.specs.Places.{place_key}
use Rattle.lw_needed.proofs.Sorting.{sorted_places}
use Rattle.lw_needed.proofs.places.sort_places.Goals as goal

pub returns-clause-keys : goal.returns-clause-keys
returns-clause-keys c = IsNonDecreasingBy-from_sort_by_key place_key _ c.sort_unstable_by_key.ensures.sorted (λ a r q k. search rules)

pub returns-clause-sorted : goal.returns-clause-sorted
returns-clause-sorted c small =
    sorted_places c.args.places.now.items c.sort_unstable_by_key.new.self.items small c.sort_unstable_by_key.ensures.permutation (IsNonDecreasingBy-from_sort_by_key place_key _ c.sort_unstable_by_key.ensures.sorted (λ a r q k. search rules))
