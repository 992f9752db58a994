use Rattle.std.proofs.Common.{◌≡◌, length}
use Rattle.lw_laws.specs.Graphs.{pair_count}
use Rattle.lw_reduce.specs.ClassNumbers.{AreClasses}
use Rattle.lw_reduce.proofs.classes.number.Given as goal

abbrev pub invariant-loop-base : goal.invariant-loop-base
invariant-loop-base l = record {
  classes : AreClasses l.reps l.forms.items;
  count : length l.forms.items ≡ l.base;
  pairs : l.pairs ≡ pair_count 0 l.forms.items;
}
