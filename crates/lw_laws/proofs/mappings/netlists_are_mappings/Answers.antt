-- By the lemma.
use Rattle.lw_laws.proofs.NetlistOf.{netlist_maps}
use Rattle.lw_laws.proofs.mappings.netlists_are_mappings.Goals as goal

pub returns : goal.returns
returns c = netlist_maps
