-- By the lemma.
use Rattle.lw_laws.proofs.Functional.{Stands_once}
use Rattle.lw_laws.proofs.graphs.tree_unfolds_once.Goals as goal

pub returns : goal.returns
returns c = λ g once t c d p q. Stands_once g once g.leaves t c d p q
