use Rattle.lw_assoc.specs.Parts.{HasDrops}
use Rattle.lw_assoc.proofs.drops.put_all_drops.Given as goal

abbrev pub invariant-loop-b : goal.invariant-loop-b
invariant-loop-b l = HasDrops l.forms l.b l.drops
