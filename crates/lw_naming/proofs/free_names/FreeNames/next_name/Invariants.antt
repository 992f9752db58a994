use Rattle.std.proofs.Common.{◌≡◌, ℕ, ◌-◌, ◌^◌}
use Rattle.lw_naming.specs.Naming.{still_free, HasFree}
use Rattle.lw_naming.proofs.free_names.FreeNames.next_name.Given as goal

abbrev pub invariant-numbers : goal.invariant-numbers
invariant-numbers l = record {
  has : HasFree l.self 1;
  same : (last : ℕ) → still_free l.fn.self last ≡ still_free l.self last;
}

abbrev pub decreases-numbers : goal.decreases-numbers
decreases-numbers l = 2 ^ 64 - l.self.next
