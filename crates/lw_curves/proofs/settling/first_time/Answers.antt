use Rattle.std.proofs.Common.{arith}
use Rattle.lw_queue.proofs.Queueing.{first_of, second_of}
use Rattle.lw_curves.proofs.settling.first_time.Goals as goal

pub returns-then-one-other : goal.returns-then-one-other
returns-then-one-other c = first_of c.args.coming.now c.args.queue.now c.in-Some.one c.in-Some-next_time.other c.in-Some.ensures c.in-Some-next_time.ensures c.if-one-other.true

pub returns : goal.returns
returns c = second_of c.args.coming.now c.args.queue.now c.in-Some.one c.in-Some-next_time.other c.in-Some.ensures c.in-Some-next_time.ensures (omega (arith, c.if-one-other.false))
