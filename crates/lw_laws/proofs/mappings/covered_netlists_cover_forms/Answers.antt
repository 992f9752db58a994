-- By the lemma.
use Rattle.std.proofs.Common.{refl}
use Rattle.lw_laws.proofs.Mapping.{forms_covered}
use Rattle.lw_laws.proofs.mappings.covered_netlists_cover_forms.Goals as goal

pub returns : goal.returns
returns c = λ mode o form net g pats timing n class truth ports mapped sound forms has over truths at. forms_covered mode net.inputs o sound g pats timing n class over net form refl forms truth truths ports mapped has at
