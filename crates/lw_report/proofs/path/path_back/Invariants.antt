use Rattle.std.proofs.Common.{◌<◌, length, map, reverse}
use Rattle.lw_genlib.specs.Tables.{millionths}
use Rattle.lw_report.specs.Pathways.{LeadsTo}
use Rattle.lw_report.proofs.path.path_back.Given as goal

abbrev pub invariant-loop-net : goal.invariant-loop-net
invariant-loop-net l = record {
  within : l.net < length l.timed.netlist.now.names;
  leads : LeadsTo l.timed.lib.now l.timed.netlist.now (map millionths l.timed.time.now) l.net (reverse l.path.items) l.fn.end.0;
}

abbrev pub decreases-loop-net : goal.decreases-loop-net
decreases-loop-net l = l.net
