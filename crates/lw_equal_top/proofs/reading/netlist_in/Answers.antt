use Rattle.std.proofs.Common.{None}
use Rattle.lw_equal_top.proofs.Sided.{netlist_source}
use Rattle.lw_equal_top.proofs.reading.netlist_in.Goals as goal

pub returns-clause-source : goal.returns-clause-source
returns-clause-source c = netlist_source c.args.library.now c.in_ok-mapped.mapped c.in_ok-mapped.ensures.kept (c.read_netlists_have_names.ensures c.args.library.now c.args.bytes.now c.in_ok-mapped.mapped (c.in_ok-mapped.ensures.comes (λ name. None)))
