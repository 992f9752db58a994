use Rattle.std.proofs.Common.{◌≡◌, ◌-◌, ◌≤◌, drop, length}
use Rattle.std.specs.List.{list_any}
use Rattle.lw_verilog.specs.Statements.{is_for, net_for, pairs}
use Rattle.lw_verilog.proofs.rules.net_place.Given as goal

abbrev pub invariant-loop-place : goal.invariant-loop-place
invariant-loop-place l = record {
  from : 2 ≤ l.place;
  given : list_any (is_for l.formal) (pairs (drop l.place l.names)) ≡ list_any (is_for l.formal) (pairs (drop 2 l.names));
  net : net_for (pairs (drop l.place l.names)) l.formal ≡ net_for (pairs (drop 2 l.names)) l.formal;
}

abbrev pub decreases-loop-place : goal.decreases-loop-place
decreases-loop-place l = length l.names - l.place
