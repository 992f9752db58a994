use Rattle.lw_map.proofs.Tables.{table_ports_fit, roots_known, network_tabled}
use Rattle.lw_map.proofs.tabling.tabulate.Goals as goal

pub tables-tabled-requires-clause-fit : goal.tables-tabled-requires-clause-fit
tables-tabled-requires-clause-fit c =
    table_ports_fit c.args.net.now c.args.choices.now c.in_ok-ports.ports c.inputs.ensures.kept c.requires.choices c.in_ok-ports.ensures c.requires.outputs

pub tables-tabled-requires-clause-known : goal.tables-tabled-requires-clause-known
tables-tabled-requires-clause-known c =
    roots_known c.args.net.now c.args.choices.now c.in_ok-ports.ports c.inputs.ensures.kept c.requires.choices c.in_ok-ports.ensures c.args.leaves c.in_ok-depths.depths c.in_ok-depths.ensures

pub returns : goal.returns
returns c =
    network_tabled c.args.net.now c.args.choices.now c.in_ok-ports.ports c.inputs.ensures.kept c.requires.choices c.in_ok-ports.ensures c.args.leaves c.in_ok-depths.depths c.in_ok-depths.ensures
    c.in_ok-tabled.tabled c.requires.outputs c.keeps.ensures.kept c.in_ok-tabled.ensures
