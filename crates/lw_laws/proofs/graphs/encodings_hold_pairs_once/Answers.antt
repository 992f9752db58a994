-- By the lemma.
use Rattle.lw_laws.proofs.Encoding.{pairs_in_one_class}
use Rattle.lw_laws.proofs.NumberedForms.{forms_are_family}
use Rattle.lw_laws.specs.NumberedForms.{family_of}
use Rattle.std.proofs.Common.{◌/◌}
use Rattle.lw_laws.proofs.graphs.encodings_hold_pairs_once.Goals as goal

pub returns : goal.returns
returns c = λ mode forms g are encodes. pairs_in_one_class (family_of mode forms) (λ h. h / 2) (forms_are_family mode forms are) g encodes
