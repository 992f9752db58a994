use Rattle.std.proofs.Common.{◌≡◌, max, drop}
use Rattle.lw_named_netlist.specs.Numbered.{deepest}
use Rattle.lw_named_netlist.proofs.levels.deepest_of.Given as goal

abbrev pub invariant-loop-s : goal.invariant-loop-s
invariant-loop-s l = max l.most (deepest l.depths (drop l.s-index l.needs)) ≡ deepest l.depths l.needs
