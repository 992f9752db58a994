use Rattle.std.proofs.Common.{◌-◌, ap, arith}
use Rattle.lw_check.proofs.Standings.{last_alone}
use Rattle.lw_check.proofs.standing.class_of_pattern.Goals as goal
use Rattle.lw_pool.specs.Numbers.{numbers}

pub returns : goal.returns
returns c =
    last_alone c.args.graph.now (numbers c.args.pins.now) c.args.nodes.now c.loop-place.place (c.len.result - 1) c.loop-place.classes
    (let all = c.loop-place-test.false in let count = c.len-place-end.ensures in omega arith) c.requires.kept.some (ap (λ n. n - 1) c.len.ensures) c.loop-place.invariant.standing
