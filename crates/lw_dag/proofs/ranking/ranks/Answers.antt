use Rattle.std.proofs.Common.{◌-◌, ◌<◌, ◌≤◌, ℕ, arith, length, subst, sym}
use Rattle.std.proofs.lemmas.Result.{IfOk-from_err}
use Rattle.lw_dag.specs.Ranking.{AreRanks, rank_at}
use Rattle.lw_dag.proofs.Ranks.{low_none, ranks_none}
use Rattle.lw_dag.proofs.ranking.ranks.Goals as goal

pub returns-in_err-order : goal.returns-in_err-order
returns-in_err-order c = IfOk-from_err _ _ c.from_residual.ensures.0

pub returns-in_err-ranks : goal.returns-in_err-ranks
returns-in_err-ranks c = IfOk-from_err _ _ c.from_residual-in_err-ranks.ensures.0

pub loop-i-init : goal.loop-i-init
loop-i-init c =
    let graph = c.args.graph.now.nodes.now in
    let none = sym (c.in_ok-ranks.ensures.items_if_clones_equal (λ y e. e)) in
    record {
      are = subst (AreRanks c.args.graph.now.inputs graph) none (ranks_none c.args.graph.now.inputs graph);
      low = subst (λ ranks. (x : ℕ) → rank_at ranks x ≤ 0) none (low_none (length graph));
      done = c.new-ready.ensures.items;
    }

pub rank_from-requires-clause-within : goal.rank_from-requires-clause-within
rank_from-requires-clause-within c =
    let order = c.in_ok-order.order in
    let place : ℕ = c.len.result - 1 - c.loop-i.i in
    let within : place < length order.items = omega (arith, order.ok.0, c.len.ensures, c.len-i-end.ensures, c.loop-i-test.true) in
    subst (λ j. j < length c.args.graph.now.nodes.now) (sym c.index-p.ensures) (c.in_ok-order.ensures place c.index-p.result.now within)

pub rank_from-requires-clause-some : goal.rank_from-requires-clause-some
rank_from-requires-clause-some c = omega arith

pub rank_from-requires-clause-before : goal.rank_from-requires-clause-before
rank_from-requires-clause-before c = record { are = c.loop-i.invariant.are; low = λ x. omega (arith, c.loop-i.invariant.low x); done = c.loop-i.invariant.done }

pub returns-in_err-rank_from : goal.returns-in_err-rank_from
returns-in_err-rank_from c = IfOk-from_err _ _ c.from_residual-in_err-rank_from.ensures.0

pub loop-i-preserved : goal.loop-i-preserved
loop-i-preserved c = c.in_ok-rank_from.ensures

pub returns : goal.returns
returns c = c.loop-i.invariant.are
