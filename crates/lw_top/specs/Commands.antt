-- A command in hand.
use Rattle.std.specs.Prelude.{Option, map, string_bytes, option_map}
use Rattle.lw_map.specs.Options.{plain_options}
use Rattle.lw_top.specs.declared.words.Begun.{Begun}
use Rattle.lw_top.specs.declared.words.Command.{Command}
use Rattle.lw_top.specs.declared.words.Command.TheVariants.{Mapping, Checking, Timing, Simulation, GateSimulation}
use Rattle.lw_top.specs.declared.words.Command.TheVariants.{Counting, Tabling, Drawing, ToVerilog, FromVerilog, Trading}
use Rattle.lw_top.specs.Words as spec

-- the command, without where its words lie in memory
abbrev pub plain_command : Command → spec.Command
plain_command (Mapping options certified library network) =
    spec.mapping (plain_options options) certified library.now network.now
plain_command (Checking options library network mapped) =
    spec.checking (plain_options options) library.now network.now mapped.now
plain_command (Timing library mapped) = spec.timing library.now mapped.now
plain_command (Simulation network vectors) = spec.simulation network.now vectors.now
plain_command (GateSimulation library mapped vectors) = spec.gate_simulation library.now mapped.now vectors.now
plain_command (Counting options network) = spec.counting (plain_options options) network.now
plain_command (Tabling leaves options network) = spec.tabling leaves (plain_options options) network.now
plain_command (Drawing seed count library) = spec.drawing seed count library.now
plain_command (ToVerilog library mapped) = spec.to_verilog library.now mapped.now
plain_command (FromVerilog library verilog) = spec.from_verilog library.now verilog.now
plain_command (Trading deadline options library network) =
    spec.trading deadline (plain_options options) library.now network.now

-- the command that was asked for, if the words are a written form
abbrev pub asked : Option Command → Option spec.Command
asked command = option_map plain_command command

abbrev pub plain_begun : Begun → spec.Begun
plain_begun begun = record { options = plain_options begun.options; rest = map string_bytes begun.rest.now }
