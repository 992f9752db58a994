use Rattle.std.proofs.Common.{rules}
use Rattle.std.proofs.lemmas.List.Sorted.{IsNonDecreasingBy-from_sort_by_key, answers_always}
use Rattle.std.proofs.lemmas.Result.{IfOk-from_err, MatchResult-from_err}
use Rattle.lw_dag.proofs.Sorting.{depth_in, stable_at}
use Rattle.lw_dag.proofs.order.sort.Goals as goal

pub returns : goal.returns
returns g c = record {
  sorted = record {
    permutation = c.sort_by_key.ensures.permutation;
    sorted = IsNonDecreasingBy-from_sort_by_key depth_in _ c.in_ok-sort_by_key.ensures.sorted (λ a r q k. search rules);
  };
  stable = λ k. stable_at k c.args.deep.now.items c.sort_by_key.new.self.items c.sort_by_key.ensures.permutation (c.in_ok-sort_by_key.ensures.stable depth_in (answers_always _ _ _ (λ f a r g q. search rules)));
  moved = tt;
}

pub returns-in_err-sort_by_key : goal.returns-in_err-sort_by_key
returns-in_err-sort_by_key g c =
    let failed = c.from_residual.ensures.0 in
    record { sorted = IfOk-from_err _ _ failed; stable = IfOk-from_err _ _ failed; moved = MatchResult-from_err _ _ _ failed (λ _. c.sort_by_key.ensures.permutation) }
