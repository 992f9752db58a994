use Rattle.std.proofs.Common.{ℕ, ◌≡◌, ◌≤◌, ◌<◌, true, false, [], length, drop, get_or, take}
use Rattle.std.specs.List.{list_all}
use Rattle.lw_named_netlist.specs.Chains.{name_at}
use Rattle.lw_named_netlist.specs.Closing.{is_among, twice_after}
use Rattle.lw_verilog.proofs.rules.raise_ports.Given as goal

abbrev pub invariant-loop-place : goal.invariant-loop-place
invariant-loop-place l = record {
  from : 1 ≤ l.place;
  many : length l.seen ≡ length l.declared;
  seen : (i : ℕ) → i < length l.declared → get_or l.seen i false ≡ is_among (drop 1 (take l.place l.header)) (name_at l.declared i);
  once : twice_after (drop 1 (take l.place l.header)) (drop l.place l.header) ≡ twice_after [] (drop 1 l.header);
  declared : list_all (is_among l.declared) (drop 1 (take l.place l.header)) ≡ true;
}
