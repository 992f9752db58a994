use Prim.{search}
use Rattle.lw_equal_top.proofs.source.Source.side.Goals as goal

pub returns-in-Network-clause-side : goal.returns-in-Network-clause-side
returns-in-Network-clause-side c = c.requires _ (rw c.in-Network.is (record { logic = search; frame = search }))

pub returns-in-Netlist-clause-side : goal.returns-in-Netlist-clause-side
returns-in-Netlist-clause-side c = c.requires _ (rw c.in-Netlist.is (record { logic = search; frame = search }))
