use Rattle.std.proofs.Common.{sym, subst}
use Rattle.lw_lut.specs.Nets.{IsTableNet}
use Rattle.lw_lut.specs.declared.ports.TablePorts.{TablePorts}
use Rattle.lw_lut.proofs.TableNets.{net_kept}
use Rattle.lw_lut.proofs.laws.table_nets_are_kept.Goals as goal

pub returns : goal.returns
returns c = λ g most lists ports n least fit known is.
    subst (λ (p : TablePorts). IsTableNet (record { ports = p; inputs = n.inputs; tables = n.tables; names = n.names })) (sym is.ports_are) (net_kept g most lists least ports fit known n.tables is.tables n.inputs is.inputs n.names)
