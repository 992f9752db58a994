use Rattle.std.proofs.Common.{◌≡◌, ◌<◌, ◌+◌, ◌++◌, ◌∷◌, ℕ, List, [], length, sym, subst, ◌∙◌, arith, below_more, get_or}
use Rattle.std.proofs.lemmas.List.{get_or_append_left, get_or_push}
use Rattle.std.proofs.lemmas.Result.{IfOk-from_err}
use Rattle.lw_dag.specs.Rising.{AreNumbered}
use Rattle.lw_dag.proofs.levels.all_nodes.Goals as goal

-- the list of the first numbers, and one more
numbers_more : (all : List ℕ) (j : ℕ) → length all ≡ j → ((k : ℕ) → k < j → get_or all k 0 ≡ k) → (k : ℕ) → k < j + 1 → get_or (all ++ j ∷ []) k 0 ≡ k
numbers_more all j many each = below_more _ _ (λ k lt. get_or_append_left all (j ∷ []) 0 k (omega (arith, many, lt)) ∙ each k lt) (get_or_push all j 0 j many)

pub returns-in_err-all : goal.returns-in_err-all
returns-in_err-all c = IfOk-from_err _ _ c.from_residual.ensures.0

pub returns-in_err-push : goal.returns-in_err-push
returns-in_err-push c = IfOk-from_err _ _ c.from_residual-in_err-push.ensures.0

pub loop-j-init : goal.loop-j-init
loop-j-init c = record { one_each = omega (arith, c.in_ok-all.all.ok.0, c.in_ok-all.ensures.len); each = λ k lt. absurd (omega (arith, lt)) }

pub loop-j-preserved : goal.loop-j-preserved
loop-j-preserved c =
    let all = c.loop-j.all in
    let many : length all.items ≡ c.loop-j.j = c.loop-j.invariant.one_each in
    record {
      one_each = omega (arith, c.push.new.self.ok.0, all.ok.0, c.in_ok-push.ensures.len, many);
      each = subst (λ l. (k : ℕ) → k < c.loop-j.j + 1 → get_or l k 0 ≡ k) (sym c.in_ok-push.ensures.items) (numbers_more all.items c.loop-j.j many c.loop-j.invariant.each);
    }

pub returns : goal.returns
returns c =
    let n = length c.args.graph.now.nodes.now in
    let all : c.loop-j.j ≡ n = omega (arith, c.loop-j-test.false, c.loop-j.auto.j-end) in
    subst (λ k. AreNumbered k c.loop-j.all.items) all c.loop-j.invariant
