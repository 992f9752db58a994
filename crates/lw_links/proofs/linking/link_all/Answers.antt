use Rattle.lw_links.proofs.Pairs.{they_still_tell}
use Rattle.lw_links.proofs.linking.link_all.Goals as goal

pub link_base-requires-clause-tell : goal.link_base-requires-clause-tell
link_base-requires-clause-tell c = they_still_tell c.args.forms.now c.bases.forms c.args.literals.now c.bases.invariant c.requires.tell
