use Rattle.lw_assoc.specs.Drafting.{AddsNands, IsOverlapping}
use Rattle.lw_assoc.proofs.overlaps.add_overlaps_with.Given as goal

abbrev pub invariant-loop-right : goal.invariant-loop-right
invariant-loop-right l = record {
  so_far : IsOverlapping l.base.forms.now l.base.b l.left l.right l.draft;
  kept : AddsNands l.fn.draft l.draft;
}
