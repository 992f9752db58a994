use Rattle.std.proofs.Common.{◌<◌, arith, below_more, get_or, length}
use Rattle.std.proofs.lemmas.List.{get_or_default}
use Rattle.std.proofs.lemmas.List.Elements.{All-from_get_or, All-get_or}
use Rattle.lw_dag.specs.Graphs.{height_at}
use Rattle.lw_dag.proofs.levels.open_fanin.Goals as goal

pub bounds-heights-s : goal.bounds-heights-s
bounds-heights-s c = All-get_or (λ s. s < length c.args.heights.now) c.args.fanins.now c.loop-s.s-index 0 c.loop-s-test.true c.requires

pub returns-then-heights-s-eq0-clause-among : goal.returns-then-heights-s-eq0-clause-among
returns-then-heights-s-eq0-clause-among c =
    let fanins = c.args.fanins.now in
    let at = c.loop-s.s-index in
    (at, c.loop-s-test.true, get_or_default fanins at (get_or fanins at 0) 0 c.loop-s-test.true)

pub returns-then-heights-s-eq0-clause-lacks : goal.returns-then-heights-s-eq0-clause-lacks
returns-then-heights-s-eq0-clause-lacks c = c.if-heights-s-eq0.true

pub loop-s-preserved : goal.loop-s-preserved
loop-s-preserved c = below_more _ _ c.loop-s.invariant (omega (arith, c.if-heights-s-eq0.false))

pub returns-clause-none : goal.returns-clause-none
returns-clause-none c = All-from_get_or (λ s. 0 < height_at c.args.heights.now s) c.args.fanins.now 0 (λ k lt. c.loop-s.invariant k (omega (arith, c.loop-s-test.false, lt)))
