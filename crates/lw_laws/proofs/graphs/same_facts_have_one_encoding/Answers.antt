-- By the lemma.
use Rattle.lw_laws.proofs.Drafts.{IsReduced-encodes, Encodes-same}
use Rattle.lw_laws.specs.NumberedForms.{family_of}
use Rattle.lw_laws.specs.Drafts.{facts_of}
use Rattle.lw_laws.proofs.graphs.same_facts_have_one_encoding.Goals as goal

pub returns : goal.returns
returns c = λ mode forms d g facts reduced. Encodes-same (family_of mode forms) (facts_of d) facts g (IsReduced-encodes d g reduced)
