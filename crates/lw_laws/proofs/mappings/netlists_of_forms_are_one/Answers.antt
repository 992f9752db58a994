-- By the lemma.
use Rattle.lw_laws.proofs.NetlistOnce.{form_netlist_once}
use Rattle.lw_laws.proofs.mappings.netlists_of_forms_are_one.Goals as goal

pub returns : goal.returns
returns c = form_netlist_once
