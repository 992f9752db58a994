use Rattle.std.proofs.Common.{◌≡◌, ◌<◌, ◌∙◌, false, ap, arith, length, subst, sym}
use Rattle.std.proofs.lemmas.List.{length-replicate}
use Rattle.std.proofs.lemmas.List.Elements.{All-nil, All-same}
use Rattle.std.proofs.lemmas.Result.{IfOk-from_err}
use Rattle.lw_dag.specs.declared.turning.Stop.{Stop}
use Rattle.lw_dag.specs.Ranking.{AreWithin, IsWalk}
use Rattle.lw_dag.proofs.turning.turned_order.Goals as goal

pub returns-in_err-rows : goal.returns-in_err-rows
returns-in_err-rows c = IfOk-from_err _ _ c.from_residual.ensures.0

pub returns-in_err-vec : goal.returns-in_err-vec
returns-in_err-vec c = IfOk-from_err _ _ c.from_residual-in_err-vec.ensures.0

pub returns-in_err-with_capacity : goal.returns-in_err-with_capacity
returns-in_err-with_capacity c = IfOk-from_err _ _ c.from_residual-in_err-with_capacity.ensures.0

pub loop-j-init : goal.loop-j-init
loop-j-init c =
    let n = length c.args.graph.now.nodes.now in
    record {
      flags = ap length (c.in_ok-vec.ensures.items_if_clones_equal (λ y e. e)) ∙ length-replicate n false;
      way = All-same (λ (stop : Stop). stop.node < n) _ _ c.new.ensures.items (All-nil (λ (stop : Stop). stop.node < n));
      left = All-same (λ j. j < n) _ _ c.in_ok-with_capacity.ensures.items (All-nil (λ j. j < n));
    }

pub walk_from-requires-clause-walk : goal.walk_from-requires-clause-walk
walk_from-requires-clause-walk c =
    let rows : length c.args.graph.now.nodes.now ≡ length c.deref.result.now = omega (arith, c.deref.ensures.len, c.in_ok-rows.ensures.len) in
    subst (λ n. IsWalk n c.loop-j.walk) rows c.loop-j.invariant

pub walk_from-requires-clause-rows : goal.walk_from-requires-clause-rows
walk_from-requires-clause-rows c =
    let rows : length c.args.graph.now.nodes.now ≡ length c.deref.result.now = omega (arith, c.deref.ensures.len, c.in_ok-rows.ensures.len) in
    subst (λ n. AreWithin n c.deref.result.now) rows (subst (AreWithin (length c.args.graph.now.nodes.now)) (sym c.deref.ensures.value) c.in_ok-rows.ensures.within)

pub walk_from-requires-clause-start : goal.walk_from-requires-clause-start
walk_from-requires-clause-start c = omega (arith, c.deref.ensures.len, c.in_ok-rows.ensures.len, c.loop-j-test.true)

pub returns-in_err-walk_from : goal.returns-in_err-walk_from
returns-in_err-walk_from c = IfOk-from_err _ _ c.from_residual-in_err-walk_from.ensures.0

pub loop-j-preserved : goal.loop-j-preserved
loop-j-preserved c =
    let rows : length c.deref.result.now ≡ length c.args.graph.now.nodes.now = omega (arith, c.deref.ensures.len, c.in_ok-rows.ensures.len) in
    subst (λ n. IsWalk n c.walk_from.new.walk) rows c.in_ok-walk_from.ensures.walk

pub returns : goal.returns
returns c = c.loop-j.invariant.left
