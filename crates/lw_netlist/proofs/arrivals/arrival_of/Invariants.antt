use Rattle.std.proofs.Common.{◌≡◌, take}
use Rattle.lw_laws.specs.Covers.{latest}
use Rattle.lw_genlib.specs.Tables.{cell_delays}
use Rattle.lw_netlist.specs.Filling.{arrivals_at}
use Rattle.lw_netlist.proofs.arrivals.arrival_of.Given as goal

abbrev pub invariant-loop-k : goal.invariant-loop-k
invariant-loop-k l = l.latest ≡ latest (take l.k (cell_delays l.cell)) (arrivals_at l.nets l.pins)
