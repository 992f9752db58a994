-- A netlist with its library, and the words of its nets.
use Rattle.std.specs.Prelude.{ℕ, ◌≡◌, Bool, List, length}
use Rattle.lw_netlist.specs.Plain.{IsOver}
use Rattle.lw_report.specs.declared.mapped.Mapped.{Mapped}
use Rattle.lw_report.specs.Simulated.{IsNetlistLine}

-- the gates are of the library's cells, and there is a word for each net
pub record HasWords (m : Mapped) (words : List ℕ) : Type 0 where
  pub over : IsOver m.lib.now m.netlist.now
  pub one_each : length words ≡ length m.netlist.now.names

-- the netlist's outputs have the values of the line, where its inputs have those of the vector
abbrev pub IsMappedLine : Mapped → List Bool → List ℕ → Type 0
IsMappedLine m vector line = IsNetlistLine m.lib.now m.netlist.now vector line
