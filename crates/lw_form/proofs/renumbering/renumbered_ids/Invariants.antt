use Rattle.std.proofs.Common.{◌≡◌, ◌≤◌, map, take, length}
use Rattle.lw_form.specs.Renumbered.{renumber}
use Rattle.lw_form.proofs.renumbering.renumbered_ids.Given as goal

abbrev pub invariant-loop-place : goal.invariant-loop-place
invariant-loop-place l = record {
  so_far : l.numbers ≡ map (renumber l.listing.places.items) (take l.place l.ids);
  few : length l.numbers ≤ l.place;
}
