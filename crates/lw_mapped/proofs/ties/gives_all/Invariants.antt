use Rattle.std.proofs.Common.{◌≡◌, true, take, drop}
use Rattle.std.specs.List.{list_all}
use Rattle.lw_mapped.specs.GateLines.{gives}
use Rattle.lw_mapped.proofs.ties.gives_all.Given as goal

abbrev pub invariant-loop-pin : goal.invariant-loop-pin
invariant-loop-pin l = list_all (gives (drop 2 l.words)) (take l.pin-index l.pin-items) ≡ true
