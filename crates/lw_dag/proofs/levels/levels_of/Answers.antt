use Rattle.std.proofs.Common.{◌<◌, ◌≤◌, ◌+◌, ◌++◌, ℕ, [], length, replicate, refl, subst, ◌∙◌, arith, get_or, Contains}
use Rattle.std.proofs.lemmas.List.{get_or_default}
use Rattle.std.proofs.lemmas.List.Elements.{All-from_get_or, All-same}
use Rattle.std.proofs.lemmas.Result.{IfOk-from_err}
use Rattle.lw_dag.specs.Rising.{IsRising}
use Rattle.lw_dag.proofs.Ordered.{ordered_none}
use Rattle.lw_dag.proofs.Rising.{none_at, rising_ends, rising_starts}
use Rattle.lw_dag.proofs.levels.levels_of.Goals as goal

pub returns-in_err-search : goal.returns-in_err-search
returns-in_err-search c = IfOk-from_err _ _ c.from_residual.ensures.0

pub returns-in_err-all : goal.returns-in_err-all
returns-in_err-all c = IfOk-from_err _ _ c.from_residual-in_err-all.ensures.0

pub returns-in_err-settle_all : goal.returns-in_err-settle_all
returns-in_err-settle_all c = IfOk-from_err _ _ c.from_residual-in_err-settle_all.ensures.0

pub returns-in_err-tell : goal.returns-in_err-tell
returns-in_err-tell c = IfOk-from_err _ _ c.from_residual-in_err-tell.ensures.0

pub settle_all-requires-clause-nodes : goal.settle_all-requires-clause-nodes
settle_all-requires-clause-nodes c =
    let n = length c.args.graph.now.nodes.now in
    let all = c.in_ok-all.all.items in
    let below : (j : ℕ) → j < length all → get_or all j 0 < n = λ j lt. omega (arith, c.in_ok-all.ensures.one_each, c.in_ok-all.ensures.each j (omega (arith, c.in_ok-all.ensures.one_each))) in
    All-same (λ j. j < n) _ _ c.deref.ensures.value (All-from_get_or (λ j. j < n) all 0 below)

pub settle_all-requires-clause-before : goal.settle_all-requires-clause-before
settle_all-requires-clause-before c =
    let inputs = c.args.graph.now.inputs in
    let graph = c.args.graph.now.nodes.now in
    let all = c.in_ok-all.all.items in
    let each = λ (j : ℕ) (lt : j < length graph). let has : Contains all j = (j, omega (arith, c.in_ok-all.ensures.one_each), get_or_default all j j 0 (omega (arith, c.in_ok-all.ensures.one_each)) ∙ c.in_ok-all.ensures.each j lt) in has in
    record {
      rising = rw (c.in_ok-search.ensures.heights, c.in_ok-search.ensures.waiting, c.in_ok-search.ensures.ready, c.deref.ensures.value) (rising_starts inputs (length graph) graph all refl each);
      ordered = rw (c.in_ok-search.ensures.heights, c.in_ok-search.ensures.order) (ordered_none inputs graph (replicate inputs 1 ++ replicate (length graph) 0) (none_at inputs (length graph)));
    }

pub telling-init : goal.telling-init
telling-init c = c.in_ok-settle_all.ensures.levelling

pub tell-requires : goal.tell-requires
tell-requires c = c.telling.invariant

pub telling-smaller : goal.telling-smaller
telling-smaller c = c.in_ok-tell.ensures.less c.if-branch.true

pub telling-preserved : goal.telling-preserved
telling-preserved c = c.in_ok-tell.ensures.after

pub returns : goal.returns
returns c =
    let inputs = c.args.graph.now.inputs in
    let graph = c.args.graph.now.nodes.now in
    let l = c.tell.new.self in
    record {
      heights = rising_ends inputs graph l.heights.items l.waiting.items (subst (λ r. IsRising inputs graph l.heights.items l.waiting.items r []) (c.in_ok-tell.ensures.done c.if-branch.false) c.in_ok-tell.ensures.after.rising);
      low = λ k d lt. subst (λ h. h ≤ 1 + length graph) (get_or_default l.heights.items k 0 d lt) (omega (arith, c.in_ok-tell.ensures.after.rising.low k));
      ordered = c.in_ok-tell.ensures.after.ordered;
    }
