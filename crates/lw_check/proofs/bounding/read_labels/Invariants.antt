use Rattle.std.proofs.Common.{◌≡◌, length, take}
use Rattle.lw_laws.specs.Choices.{HaveLabels}
use Rattle.lw_laws.specs.Rounds.{labels_in}
use Rattle.lw_check.proofs.bounding.read_labels.Given as goal
use Rattle.lw_pool.specs.Numbers.{numbers}

abbrev pub invariant-loop-k : goal.invariant-loop-k
invariant-loop-k l = record {
  have : HaveLabels (labels_in l.labels) (numbers (take l.k l.classes)) (take l.k l.values);
  length : length l.values ≡ length l.initial.values;
}
