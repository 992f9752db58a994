use Rattle.std.proofs.Common.{◌≡◌, length}
use Rattle.lw_assoc.specs.Drafting.{AddsNands, HasFactsUpTo}
use Rattle.lw_assoc.specs.Modes.{law_mode}
use Rattle.lw_assoc.proofs.drafting.add_all_splits.Given as goal

abbrev pub invariant-loop-b : goal.invariant-loop-b
invariant-loop-b l = record {
  size : length l.parts ≡ 256;
  facts : HasFactsUpTo (law_mode l.mode) l.forms l.b l.draft;
  kept : AddsNands l.fn.draft l.draft;
}
