-- The names of the nets of a mapped netlist differ, and an output's net owns its name.
use Rattle.std.proofs.Common.{◌+◌, ◌^◌, ◌<◌, List, length, map, arith}
use Rattle.std.specs.List.{IsDistinct}
use Rattle.std.specs.Str.{bytes_eq}
use Rattle.std.proofs.lemmas.List.{length-map, length-take-le}
use Rattle.lw_laws.specs.MappedNetlists.{AreNetNames}
use Rattle.lw_laws.proofs.MappedNames.{net_names_are}
use Rattle.lw_net.specs.Networks.{NetworkParts, IsNetwork, input_names, output_names}
use Rattle.lw_net.specs.Plain as network
use Rattle.lw_fixed.specs.declared.micro.Micro.{Micro}
use Rattle.lw_genlib.specs.Cells.{CellParts}
use Rattle.lw_genlib.specs.Tables.{timing_of}
use Rattle.lw_pattern.specs.Libraries.{library_patterns}
use Rattle.lw_label.specs.Delays.{most_time}
use Rattle.lw_netlist.specs.Netlists.{NetlistParts}
use Rattle.lw_netlist.specs.Plain as netlist
use Rattle.lw_map.specs.Options.{Options, IsWide}
use Rattle.lw_map.specs.Mapped.{IsMappedNetlist}
use Rattle.lw_map.proofs.PortNames.{port_names, few_outputs}
use Rattle.lw_net.specs.Ports.{output_port, ports_of}
use Rattle.lw_netlist.specs.Plain.{mapped_ports}

pub mapped_has_names : (options : Options) (cells : List CellParts) (net : NetworkParts) (starts : List Micro) → IsWide options → IsNetwork net → IsDistinct bytes_eq net.names → IsDistinct bytes_eq (input_names net) → IsDistinct bytes_eq (output_names net) → (n : NetlistParts) → IsMappedNetlist options cells net starts n → AreNetNames (netlist.plain n) n.names (mapped_ports n)
mapped_has_names options cells net starts wide kept differ inputs outputs n is =
    net_names_are options.mode options.width (network.plain net) (ports_of net) (library_patterns cells) (timing_of cells starts) most_time (netlist.plain n) n.names (mapped_ports n)
    wide.least is.is (port_names net kept differ inputs outputs) few
  where
    few : 1 + (length (netlist.plain n).gates + (length (input_names net) + length (map (output_port net) net.outputs))) < 2 ^ 64
    few =
        let a = length-map n.gates netlist.plain_gate in
        let b = is.kept.few in
        let c = is.kept.named in
        let d = kept.named in
        let e = kept.few in
        let f = length-take-le net.inputs net.names (omega arith) in
        let g = length-map net.outputs (output_port net) in
        let h = few_outputs net kept outputs in
        omega arith
