use Rattle.std.proofs.Common.{◌≤◌, length}
use Rattle.lw_assoc.specs.Drafting.{AddsBases, HasBases}
use Rattle.lw_assoc.proofs.drafting.add_bases.Given as goal

abbrev pub invariant-loop-b : goal.invariant-loop-b
invariant-loop-b l = record {
  within : l.b ≤ length l.forms.bases;
  bases : HasBases l.forms l.b l.draft;
  kept : AddsBases l.fn.draft l.draft;
}
