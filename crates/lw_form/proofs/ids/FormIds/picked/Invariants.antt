use Rattle.std.proofs.Common.{◌≡◌, ◌≤◌, ◌++◌, drop, length}
use Rattle.lw_form.specs.Bases.{picked}
use Rattle.lw_form.proofs.ids.FormIds.picked.Given as goal

abbrev pub invariant-loop-id : goal.invariant-loop-id
invariant-loop-id l = record {
  so_far : l.part ++ picked (drop l.id-index l.id-items) l.rest ≡ picked l.id-items l.mask;
  few : length l.part ≤ l.id-index;
}
