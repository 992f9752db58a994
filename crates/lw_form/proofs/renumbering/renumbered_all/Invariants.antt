use Rattle.std.proofs.Common.{◌≡◌, map, take}
use Rattle.lw_form.specs.Renumbered.{renumber}
use Rattle.lw_form.proofs.renumbering.renumbered_all.Given as goal

abbrev pub invariant-loop-place : goal.invariant-loop-place
invariant-loop-place l = l.numbers.items ≡ map (renumber l.listing.places.items) (take l.place l.forms)
