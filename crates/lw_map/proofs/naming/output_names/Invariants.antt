use Rattle.std.proofs.Common.{◌≡◌, map, take}
use Rattle.lw_net.specs.Networks.{name_in}
use Rattle.lw_map.proofs.naming.output_names.Given as goal

abbrev pub invariant-loop-output : goal.invariant-loop-output
invariant-loop-output l = l.names.items ≡ map (name_in l.net) (take l.output-index l.outputs)
