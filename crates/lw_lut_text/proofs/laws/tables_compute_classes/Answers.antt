use Rattle.std.proofs.Common.{subst}
use Rattle.lw_lut_text.specs.Meaning.{IsTableNetwork}
use Rattle.lw_lut.specs.declared.ports.TablePorts.{TablePorts}
use Rattle.lw_lut_text.proofs.TableRoots.{said_network}
use Rattle.lw_lut_text.proofs.laws.tables_compute_classes.Goals as goal

pub returns : goal.returns
returns c = λ g most lists ports n net wide least is kept apart closed.
    subst (λ (p : TablePorts). IsTableNetwork g most lists.depths p net) is.ports_are (said_network g most lists least n apart kept is.inputs is.tables.each net closed wide)
