use Rattle.std.proofs.Common.{ℕ, ◌+◌, ◌≤◌}
use Rattle.lw_assoc.specs.Parts.{IsFirstUnset}
use Rattle.lw_assoc.proofs.parts.first_unset.Given as goal

abbrev pub invariant-bits : goal.invariant-bits
invariant-bits l = record {
  found : (q : ℕ) → IsFirstUnset l.rest q → IsFirstUnset l.fn.mask (l.place + q);
  low : l.place + l.rest ≤ l.fn.mask;
}

abbrev pub decreases-bits : goal.decreases-bits
decreases-bits l = l.rest
