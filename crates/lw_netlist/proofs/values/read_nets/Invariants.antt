use Rattle.std.proofs.Common.{◌≡◌, length, take}
use Rattle.lw_netlist.proofs.values.read_nets.Given as goal
use Rattle.lw_pool.specs.Numbers.{values_at}

abbrev pub invariant-loop-k : goal.invariant-loop-k
invariant-loop-k l = record {
  front : take l.k l.values ≡ take l.k (values_at l.nets l.pins);
  length : length l.values ≡ length l.initial.values;
}
