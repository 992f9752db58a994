-- By the lemma.
use Rattle.lw_laws.proofs.Drafts.{reduced_pairs_once}
use Rattle.lw_laws.proofs.graphs.reductions_hold_pairs_once.Goals as goal

pub returns : goal.returns
returns c = reduced_pairs_once
