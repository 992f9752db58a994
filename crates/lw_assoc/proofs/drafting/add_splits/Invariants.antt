use Rattle.lw_assoc.specs.Drafting.{AddsNands, IsSplitting}
use Rattle.lw_assoc.proofs.drafting.add_splits.Given as goal

abbrev pub invariant-loop-mask : goal.invariant-loop-mask
invariant-loop-mask l = record {
  so_far : IsSplitting l.base.forms.now l.base.b l.mask l.draft;
  kept : AddsNands l.fn.draft l.draft;
}
