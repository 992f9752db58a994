use Rattle.std.proofs.Common.{take}
use Rattle.lw_naming.specs.Naming.{HoldsAlso}
use Rattle.lw_naming.proofs.name_set.NameSet.add_all.Given as goal

abbrev pub invariant-loop-name : goal.invariant-loop-name
invariant-loop-name l = HoldsAlso l.initial.self l.self (take l.name-index l.names)
