use Rattle.std.proofs.Common.{◌<◌, ◌≡◌, ℕ, Some, slice_get}
use Rattle.lw_pool.specs.declared.id.ClassId.{ClassId}
use Rattle.lw_fixed.specs.declared.micro.Micro.{Micro}
use Rattle.lw_backtrace.specs.SecondLook.{IsRootBy}
use Rattle.lw_backtrace.proofs.second_look.are_roots.Given as goal

abbrev pub invariant-loop-k : goal.invariant-loop-k
invariant-loop-k l = (i : ℕ) (root : ClassId) (time : Micro) (net : ℕ) → i < l.k → slice_get l.plan.roots.now i ≡ Some root → slice_get l.plan.times.now i ≡ Some time → slice_get l.nets i ≡ Some net → IsRootBy l.plan l.trail root time net
