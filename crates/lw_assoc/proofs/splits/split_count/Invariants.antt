use Rattle.std.proofs.Common.{◌≡◌, ◌*◌, ◌≤◌, take}
use Rattle.std.specs.List.{sum_by}
use Rattle.lw_assoc.specs.Modes.{law_mode}
use Rattle.lw_assoc.specs.Splits.{base_splits}
use Rattle.lw_assoc.proofs.splits.split_count.Given as goal

abbrev pub invariant-loop-b : goal.invariant-loop-b
invariant-loop-b l = record {
  count : l.count ≡ sum_by (base_splits (law_mode l.mode)) (take l.b l.forms.bases);
  few : l.count ≤ 3279 * l.b;
}
