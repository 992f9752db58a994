use Rattle.std.proofs.Common.{◌≡◌, ◌+◌, ◌≤◌, drop}
use Rattle.lw_laws.specs.Signals.{count_having}
use Rattle.lw_form.specs.Factoring.{plain_literal}
use Rattle.lw_form.proofs.factoring.count.Given as goal

abbrev pub invariant-loop-row : goal.invariant-loop-row
invariant-loop-row l = record {
  so_far : l.count + count_having (plain_literal l.literal) (drop l.row-index l.rows) ≡ count_having (plain_literal l.literal) l.rows;
  few : l.count ≤ l.row-index;
}
