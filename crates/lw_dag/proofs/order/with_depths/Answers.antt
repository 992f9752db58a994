use Rattle.std.proofs.Common.{◌++◌, map, drop, ap₂, arith}
use Rattle.std.proofs.lemmas.List.{nil_from_length}
use Rattle.std.proofs.lemmas.Result.{IfOk-from_err}
use Rattle.std.specs.List.{zip}
use Rattle.std.specs.Vec.Iter.{into_iter_items}
use Rattle.lw_dag.proofs.Sorting.{deep_from, zip_ends, zip_ends_early, zip_more}
use Rattle.lw_dag.proofs.order.with_depths.Goals as goal

pub returns-in_err-deep : goal.returns-in_err-deep
returns-in_err-deep g c = IfOk-from_err _ _ c.from_residual.ensures.0

pub loop-depth-init : goal.loop-depth-init
loop-depth-init g c = ap₂ (λ deep items. deep ++ map deep_from (zip items c.args.depths.now)) c.in_ok-deep.ensures.items c.into_iter-left.ensures.rest

pub returns-in_default : goal.returns-in_default
returns-in_default g c = zip_ends_early c.loop-depth.deep.items (into_iter_items c.loop-depth.left) (drop c.loop-depth.depth-index c.args.depths.now) (map deep_from (zip c.args.items.items c.args.depths.now)) (nil_from_length _ (omega (arith, c.in_default.ensures.cases.0))) c.loop-depth.invariant

pub returns-in_err-push : goal.returns-in_err-push
returns-in_err-push g c = IfOk-from_err _ _ c.from_residual-in_err-push.ensures.0

pub loop-depth-preserved : goal.loop-depth-preserved
loop-depth-preserved g c =
    zip_more c.loop-depth.deep.items c.push.new.self.items (into_iter_items c.loop-depth.left) (into_iter_items c.next.new.self) c.in-Some.item c.args.depths.now c.loop-depth.depth-index (map deep_from (zip c.args.items.items c.args.depths.now)) c.loop-depth-test.true
    c.in-Some.ensures.items c.in_ok-push.ensures.items c.loop-depth.invariant

pub returns : goal.returns
returns g c = zip_ends c.loop-depth.deep.items (into_iter_items c.loop-depth.left) c.args.depths.now c.loop-depth.depth-index (map deep_from (zip c.args.items.items c.args.depths.now)) (omega (arith, c.loop-depth-test.false)) c.loop-depth.invariant
