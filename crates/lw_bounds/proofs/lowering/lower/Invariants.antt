use Rattle.std.proofs.Common.{ℕ, ◌<◌, ◌≤◌, ◌≡◌, Some, slice_get, slice_index}
use Rattle.lw_bounds.specs.declared.parts.Rule.{Rule}
use Rattle.lw_bounds.specs.Places.{given, AreNoMore}
use Rattle.lw_bounds.proofs.Lessening.{HaveFallen}
use Rattle.lw_bounds.proofs.lowering.lower.Given as goal

abbrev pub invariant-loop-number : goal.invariant-loop-number
invariant-loop-number l = record {
  no_more : AreNoMore l.least l.initial.least;
  lowered : (i : ℕ) (q : Rule) → i < l.number → slice_get l.rules i ≡ Some q → slice_index l.least q.part ≤ given l.xs l.ys q;
  fallen : HaveFallen l.initial.least l.least l.fell;
}
