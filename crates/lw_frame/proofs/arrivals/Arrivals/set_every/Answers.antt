use Rattle.std.proofs.Common.{refl}
use Rattle.lw_frame.proofs.Stands.{stands-every}
use Rattle.lw_frame.proofs.arrivals.Arrivals.set_every.Goals as goal

pub returns : goal.returns
returns c = λ lines h. stands-every c.args.self.now _ c.args.start lines (λ q. refl) refl h
