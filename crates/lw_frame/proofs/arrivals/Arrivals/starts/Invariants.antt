use Rattle.std.proofs.Common.{◌≡◌, take, map}
use Rattle.std.specs.Prelude.{All}
use Rattle.lw_frame.specs.Starts.{IsEarly}
use Rattle.lw_frame.specs.Kept.{start_kept}
use Rattle.lw_frame.proofs.arrivals.Arrivals.starts.Given as goal

abbrev pub invariant-loop-name : goal.invariant-loop-name
invariant-loop-name l = (l.starts.items ≡ map (start_kept l.self) (take l.name-index l.inputs)) × All IsEarly l.starts.items
