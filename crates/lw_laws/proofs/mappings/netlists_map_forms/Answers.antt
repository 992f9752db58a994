-- By the lemma.
use Rattle.std.proofs.Common.{refl}
use Rattle.lw_laws.proofs.NetlistOf.{netlist_maps_forms}
use Rattle.lw_laws.proofs.mappings.netlists_map_forms.Goals as goal

pub returns : goal.returns
returns c = λ mode o form net ports pats timing cap truth n names mapped sound forms few has patterns truths is low. netlist_maps_forms mode net.inputs o form sound ports pats timing cap n names mapped patterns is net refl truth forms few has truths low
