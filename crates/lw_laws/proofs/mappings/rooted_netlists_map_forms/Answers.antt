-- By the lemma.
use Rattle.std.proofs.Common.{refl}
use Rattle.lw_laws.proofs.Mapping.{forms_mapped}
use Rattle.lw_laws.proofs.mappings.rooted_netlists_map_forms.Goals as goal

pub returns : goal.returns
returns c = λ mode o form net g pats timing cap labels n class arrivals truth ports mapped sound forms has over true_patterns are. forms_mapped mode net.inputs o sound g pats timing cap labels n class over net form refl forms truth true_patterns arrivals are ports mapped has
