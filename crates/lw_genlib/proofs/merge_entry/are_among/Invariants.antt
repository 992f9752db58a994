use Rattle.std.proofs.Common.{◌≡◌, drop}
use Rattle.std.specs.List.{list_all, zip}
use Rattle.lw_genlib.specs.Merging.{is_pin_among}
use Rattle.lw_genlib.proofs.merge_entry.are_among.Given as goal

abbrev pub invariant-loop-place : goal.invariant-loop-place
invariant-loop-place l = list_all (is_pin_among (zip l.pins l.delays)) (zip (drop l.place l.names) (drop l.place l.others)) ≡ list_all (is_pin_among (zip l.pins l.delays)) (zip l.names l.others)
