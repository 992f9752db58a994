use Rattle.std.proofs.Common.{◌≡◌, ◌≤◌, drop, find, nat_le}
use Rattle.lw_check.specs.Claims.{labelled_from}
use Rattle.lw_check.proofs.classes.first_labelled.Given as goal

abbrev pub invariant-loop-class : goal.invariant-loop-class
invariant-loop-class l = record {
  least : l.classes ≤ l.class;
  rest : find (nat_le l.classes) (labelled_from 0 l.labels) ≡ find (nat_le l.classes) (labelled_from l.class (drop l.class l.labels));
}
