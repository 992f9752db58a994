use Rattle.std.proofs.Common.{◌≡◌, drop}
use Rattle.std.specs.Prelude.{find}
use Rattle.lw_verilog.specs.Sayable.{is_hidden}
use Rattle.lw_verilog.proofs.refusing.hidden_name.Given as goal

abbrev pub invariant-loop-name : goal.invariant-loop-name
invariant-loop-name l = find is_hidden (drop l.name-index l.names) ≡ find is_hidden l.names
