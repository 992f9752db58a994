use Rattle.std.proofs.Common.{map, take}
use Rattle.std.specs.List.{flat_map}
use Rattle.lw_genlib.specs.Tables.{millionths}
use Rattle.lw_io.specs.Writers.{Writes}
use Rattle.lw_report.specs.Timings.{step_line}
use Rattle.lw_report.proofs.report.put_steps.Given as goal

abbrev pub invariant-loop-step : goal.invariant-loop-step
invariant-loop-step g l = Writes g.S.Sink.taken g.S.Sink.faults l.initial.out l.out (flat_map (step_line l.timed.lib.now l.timed.netlist.now (map millionths l.timed.time.now)) (take l.step-index l.path))
