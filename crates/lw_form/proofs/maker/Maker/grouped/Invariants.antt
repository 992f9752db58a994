use Rattle.std.proofs.Common.{length}
use Rattle.lw_form.proofs.Joining.{GroupsSoFar}
use Rattle.lw_form.proofs.maker.Maker.grouped.Given as goal

abbrev pub invariant-runs : goal.invariant-runs
invariant-runs l = GroupsSoFar l.self.width l.initial.table l.table l.forms l.rest l.groups.items

abbrev pub decreases-runs : goal.decreases-runs
decreases-runs l = length l.rest
