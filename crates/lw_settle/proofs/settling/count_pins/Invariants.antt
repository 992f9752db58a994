use Rattle.std.proofs.Common.{◌≡◌, map, take}
use Rattle.lw_settle.specs.Settling.{pin_count}
use Rattle.lw_settle.specs.Stores.{placed}
use Rattle.lw_settle.proofs.settling.count_pins.Given as goal

abbrev pub invariant-loop-place : goal.invariant-loop-place
invariant-loop-place l = take l.place l.left ≡ take l.place (map pin_count (placed l.store.lists))
