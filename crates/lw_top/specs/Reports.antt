-- What reports of a netlist and of a network come to.
use Rattle.std.specs.Prelude.{ℕ, Bool, List, Ok, Err}
use Rattle.lw_genlib.specs.Cells.{CellParts}
use Rattle.lw_blif.specs.declared.parsed.Parsed.{Parsed}
use Rattle.lw_netlist.specs.Netlists.{NetlistParts}
use Rattle.lw_mapped.specs.declared.closing.Mapped.{Mapped}
use Rattle.lw_report.specs.Timings.{IsTimingText}
use Rattle.lw_report.specs.Simulated.{IsNetworkSimulation, IsNetlistSimulation}
use Rattle.lw_top.specs.Steps.{Step}

-- the timing report, whatever the files
abbrev pub Times : List CellParts → Mapped → Step (List ℕ)
Times cells mapped files (Ok text) = IsTimingText cells mapped.netlist mapped.starts text
Times cells mapped files (Err r) = ⊥

-- the values of the network's outputs for these values of its inputs
abbrev pub Simulates : Parsed → List (List Bool) → Step (List ℕ)
Simulates model vectors files (Ok text) = IsNetworkSimulation model.network vectors text
Simulates model vectors files (Err r) = ⊥

-- the values of the netlist's outputs
abbrev pub SimulatesNetlist : List CellParts → NetlistParts → List (List Bool) → Step (List ℕ)
SimulatesNetlist cells netlist vectors files (Ok text) = IsNetlistSimulation cells netlist vectors text
SimulatesNetlist cells netlist vectors files (Err r) = ⊥
