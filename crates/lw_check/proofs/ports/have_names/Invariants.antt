use Rattle.std.proofs.Common.{◌≡◌, ◌<◌, ℕ, map, slice_get}
use Rattle.lw_net.specs.Networks.{name_in}
use Rattle.lw_check.proofs.ports.have_names.Given as goal
use Rattle.lw_netlist.specs.Plain.{port_name}

abbrev pub invariant-loop-k : goal.invariant-loop-k
invariant-loop-k l = (j : ℕ) → j < l.k → slice_get (map port_name l.ports) j ≡ slice_get (map (name_in l.net) l.outputs) j
