use Rattle.std.proofs.Common.{◌≡◌, drop}
use Rattle.lw_mapped.specs.GateLines.{net_for}
use Rattle.lw_mapped.proofs.ties.net_for.Given as goal

abbrev pub invariant-loop-place : goal.invariant-loop-place
invariant-loop-place l = net_for (drop l.place l.words) l.formal ≡ net_for (drop 2 l.words) l.formal
