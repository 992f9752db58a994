use Rattle.std.proofs.Common.{ℕ, ◌≡◌, List, take}
use Rattle.lw_named_netlist.specs.Closing.{is_among}
use Rattle.lw_verilog.proofs.refusing.set_of.Given as goal

abbrev pub invariant-loop-name : goal.invariant-loop-name
invariant-loop-name l = (name : List ℕ) → is_among l.set.keys name ≡ is_among (take l.name-index l.names) name
