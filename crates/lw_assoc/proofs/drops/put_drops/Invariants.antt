use Rattle.std.proofs.Common.{ℕ, ◌+◌, ◌*◌, ◌<◌, ◌≡◌, List, Some, slice_get, slice_index}
use Rattle.lw_laws.specs.NumberedForms.{IsPart}
use Rattle.lw_laws.specs.NumberedForms.Base.{base_and}
use Rattle.lw_assoc.specs.Parts.{HasDrops, without}
use Rattle.lw_assoc.proofs.drops.put_drops.Given as goal

abbrev pub invariant-loop-place : goal.invariant-loop-place
invariant-loop-place l = record {
  before : HasDrops l.forms l.b l.drops;
  so_far : (fs : List ℕ) (place : ℕ) → slice_get l.forms.bases l.b ≡ Some (base_and fs) → place < l.place → IsPart l.forms (without fs place) (slice_index l.drops (8 * l.b + place));
}
