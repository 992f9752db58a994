use Rattle.lw_queue.proofs.Laning.{lane_rest}
use Rattle.lw_queue.proofs.lane.Lane.take.Goals as goal

pub invariant_of-self-2 : goal.invariant_of-self-2
invariant_of-self-2 c = lane_rest c.self.inside.queue.items c.pop_front.new.self.items c.in_ok-taken.taken c.self.inside.last c.in_ok-taken.ensures.items c.self.invariant
