use Rattle.std.proofs.Common.{◌<◌, ◌≡◌, ℕ, Some, slice_get}
use Rattle.lw_pool.specs.declared.id.ClassId.{ClassId}
use Rattle.lw_fixed.specs.declared.micro.Micro.{Micro}
use Rattle.lw_backtrace.specs.SecondLook.{IsNetBy, want_of_pin}
use Rattle.lw_backtrace.proofs.second_look.are_pins.Given as goal

abbrev pub invariant-loop-k : goal.invariant-loop-k
invariant-loop-k l = (i : ℕ) (pin : ClassId) (delay : Micro) (net : ℕ) → i < l.k → slice_get l.demand.pins.now i ≡ Some pin → slice_get l.demand.delays.now i ≡ Some delay → slice_get l.nets i ≡ Some net → IsNetBy l.plan l.trail (want_of_pin l.demand pin delay) net
