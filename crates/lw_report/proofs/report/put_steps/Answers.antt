use Rattle.std.proofs.Common.{None, List, map, subst}
use Rattle.std.specs.List.{flat_map}
use Rattle.std.proofs.lemmas.List.{take_all}
use Rattle.lw_genlib.specs.Tables.{millionths}
use Rattle.lw_io.specs.Writers.{Writes}
use Rattle.lw_io.proofs.Putting.{Writes-more, Writes-none}
use Rattle.lw_report.specs.declared.step.Step.{Step}
use Rattle.lw_report.specs.Timings.{step_line}
use Rattle.lw_report.proofs.report.put_steps.Goals as goal

pub loop-step-init : goal.loop-step-init
loop-step-init g c = Writes-none

pub put_step-requires-clause-timed : goal.put_step-requires-clause-timed
put_step-requires-clause-timed g c = c.requires.timed

pub loop-step-preserved : goal.loop-step-preserved
loop-step-preserved g c =
    Writes-more (step_line c.args.timed.now.lib.now c.args.timed.now.netlist.now (map millionths c.args.timed.now.time.now)) c.args.path.now c.loop-step.step-index (record { gate = 0; pin = None }) c.loop-step-test.true c.loop-step.invariant c.put_step.ensures

pub returns : goal.returns
returns g c =
    subst (λ (steps : List Step). Writes g.S.Sink.taken g.S.Sink.faults c.args.out.now c.loop-step.out (flat_map (step_line c.args.timed.now.lib.now c.args.timed.now.netlist.now (map millionths c.args.timed.now.time.now)) steps)) (take_all c.loop-step.step-index c.args.path.now c.loop-step-test.false) c.loop-step.invariant
