use Rattle.std.proofs.Common.{◌≡◌, drop, find, nat_le, option_map}
use Rattle.std.specs.List.{filter_map}
use Rattle.lw_check.specs.Claims.{class_number}
use Rattle.lw_check.proofs.classes.first_beyond.Given as goal

abbrev pub invariant-loop-net : goal.invariant-loop-net
invariant-loop-net l = find (nat_le l.classes) (filter_map (option_map class_number) l.nets) ≡ find (nat_le l.classes) (filter_map (option_map class_number) (drop l.net-index l.nets))
