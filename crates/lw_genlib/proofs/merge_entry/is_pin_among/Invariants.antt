use Rattle.std.proofs.Common.{◌≡◌, drop}
use Rattle.std.specs.List.{list_any, zip}
use Rattle.lw_genlib.specs.Merging.{is_same_pin}
use Rattle.lw_genlib.proofs.merge_entry.is_pin_among.Given as goal

abbrev pub invariant-loop-place : goal.invariant-loop-place
invariant-loop-place l = list_any (is_same_pin (l.name, l.delay)) (zip (drop l.place l.pins) (drop l.place l.delays)) ≡ list_any (is_same_pin (l.name, l.delay)) (zip l.pins l.delays)
