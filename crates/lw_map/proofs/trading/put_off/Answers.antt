use Rattle.lw_map.proofs.Deadlines.{put_more}
use Rattle.lw_map.proofs.trading.put_off.Goals as goal

pub loop-time-preserved : goal.loop-time-preserved
loop-time-preserved c =
    rw c.in_ok-push.ensures.items (put_more c.args.deadline c.args.times.now c.loop-time.later.items c.loop-time.time-index c.max.result (record { 0 = 0 }) c.loop-time-test.true c.loop-time.invariant c.max.ensures)
