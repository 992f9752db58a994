use Rattle.lw_assoc.specs.Drafting.{AddsNands, IsOverlapping}
use Rattle.lw_assoc.proofs.overlaps.add_overlaps.Given as goal

abbrev pub invariant-loop-left : goal.invariant-loop-left
invariant-loop-left l = record {
  so_far : IsOverlapping l.base.forms.now l.base.b l.left 0 l.draft;
  kept : AddsNands l.fn.draft l.draft;
}
