use Rattle.std.proofs.Common.{map, take}
use Rattle.std.specs.List.{flat_map}
use Rattle.lw_genlib.specs.Tables.{millionths}
use Rattle.lw_io.specs.Writers.{Writes}
use Rattle.lw_report.specs.Timings.{arrival_line}
use Rattle.lw_report.proofs.report.put_arrivals.Given as goal

abbrev pub invariant-loop-port : goal.invariant-loop-port
invariant-loop-port g l = Writes g.S.Sink.taken g.S.Sink.faults l.initial.out l.out (flat_map (arrival_line (map millionths l.arrivals)) (take l.port-index l.ports))
