use Rattle.std.proofs.Common.{subst, arith}
use Rattle.lw_net.specs.Plain as network
use Rattle.lw_net.proofs.Rise.{in_order}
use Rattle.lw_lut_text.specs.Meaning.{IsTableMapping}
use Rattle.lw_lut_text.specs.Said.{draft_said}
use Rattle.lw_map.proofs.PortNames.{has_ports, port_names}
use Rattle.lw_map.proofs.TableTexts.{names_few, ports_are, tables_sayable}
use Rattle.lw_map.proofs.laws.tabled_texts_are_mappings.Goals as goal
use Rattle.lw_net.specs.Ports.{ports_of}

pub returns : goal.returns
returns c = λ options most net frame n wide leaves within kept differ inputs outputs names is.
    let named = port_names net kept differ inputs outputs in
    let ports = ports_are options most net n wide within kept is in
    let few = names_few options most net n wide within kept is outputs in
    let least = leaves.least in
    let (tables, closed) = c.table_texts_are_mappings.ensures.some options.mode options.width (network.plain net) (ports_of net) is.graph most is.lists n.ports n wide.least (has_ports net kept) named is.is_graph is.least ports is.fit few is.is_net in
    let maps = c.table_texts_are_mappings.ensures.each options.mode options.width (network.plain net) (ports_of net) is.graph most is.lists n.ports n tables wide.least (omega (arith, least)) (in_order net kept) (has_ports net kept) named is.is_graph is.least ports is.fit few is.is_net closed in
    record {
      draft = draft_said n;
      tables = tables;
      read = c.written_tables_are_read.ensures n frame (tables_sayable options most net n wide within kept is outputs leaves named frame names);
      closed = closed;
      maps = subst (λ model. IsTableMapping options.mode options.width (network.plain net) (ports_of net) model most tables) is.model maps;
    }
