use Rattle.std.proofs.Common.{sym, subst}
use Rattle.lw_choices.specs.Rows.{ArePartsFor}
use Rattle.lw_choices.proofs.pin_groups.pin_groups_of.Goals as goal

pub add_all-requires-clause-rows : goal.add_all-requires-clause-rows
add_all-requires-clause-rows c = subst (λ n. ArePartsFor c.args.lib.now n c.args.rows.now) (sym c.in_ok-pin_groups.ensures.count) c.requires

pub add_all-requires-clause-none : goal.add_all-requires-clause-none
add_all-requires-clause-none c = c.in_ok-pin_groups.ensures.none
