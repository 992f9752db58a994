-- By the lemma.
use Rattle.lw_settle.specs.Stores.{placed}
use Rattle.lw_settle.proofs.FewReads.{few_reads}
use Rattle.lw_settle.proofs.laws.steps_are_few.Goals as goal

pub returns : goal.returns
returns c = λ labels lists. few_reads labels (placed lists)
