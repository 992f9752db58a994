use Rattle.std.proofs.Common.{◌≡◌, ◌<◌, ℕ, Some, slice_get, true}
use Rattle.lw_pool.specs.declared.id.ClassId.{ClassId}
use Rattle.lw_look.specs.Lists.{is_seen}
use Rattle.lw_look.proofs.listing.are_seen.Given as goal

abbrev pub invariant-loop-class : goal.invariant-loop-class
invariant-loop-class l = (i : ℕ) (c : ClassId) → i < l.class-index → slice_get l.classes i ≡ Some c → is_seen l.seen c.0 ≡ true
