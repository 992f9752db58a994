use Rattle.std.proofs.Common.{◌≡◌, map, take}
use Rattle.std.specs.Str.{bytes_eq}
use Rattle.indexmap.specs.IndexMap.{get}
use Rattle.lw_netlist.specs.declared.gate.Gate.{Gate}
use Rattle.lw_mapped.specs.Texts.{net_name}
use Rattle.lw_mapped.proofs.closing.classes_of.Given as goal

abbrev pub invariant-loop-gate : goal.invariant-loop-gate
invariant-loop-gate l = l.classes.items ≡ map (λ (gate : Gate). get bytes_eq l.nets (net_name l.names gate.out)) (take l.gate-index l.gates)
