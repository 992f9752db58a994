use Rattle.std.proofs.Common.{◌∙◌}
use Rattle.std.proofs.lemmas.List.{drop-set-add}
use Rattle.lw_settle.proofs.queue.set_leaf.Goals as goal

pub returns-clause-leaves : goal.returns-clause-leaves
returns-clause-leaves c =
    c.renew.ensures.leaves ∙ drop-set-add c.args.classes c.args.tree.now c.args.class c.args.entry
