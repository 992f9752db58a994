use Rattle.std.proofs.Common.{◌≡◌, take}
use Rattle.lw_settle.proofs.store.pins_at.Given as goal

abbrev pub invariant-loop-class : goal.invariant-loop-class
invariant-loop-class l = l.pins ≡ take l.class-index l.classes
