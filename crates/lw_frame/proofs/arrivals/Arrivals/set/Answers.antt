use Rattle.std.proofs.Common.{refl}
use Rattle.lw_frame.proofs.Stands.{stands-set}
use Rattle.lw_frame.proofs.arrivals.Arrivals.set.Goals as goal

pub returns : goal.returns
returns c = λ lines h. stands-set c.args.self.now _ c.args.name c.args.start lines (λ q. c.in_ok-insert.ensures.updates.0 q) refl h
