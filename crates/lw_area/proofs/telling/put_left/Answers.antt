use Rattle.std.proofs.Common.{List, subst}
use Rattle.std.specs.List.{flat_map}
use Rattle.std.proofs.lemmas.List.{take_all}
use Rattle.lw_io.specs.Writers.{Writes}
use Rattle.lw_io.proofs.Putting.{Writes-more}
use Rattle.lw_joined.specs.declared.taking.Left.{Left}
use Rattle.lw_joined.specs.declared.taking.Limit.TheVariants.{Signals}
use Rattle.lw_area.specs.Plain.{plain_task}
use Rattle.lw_area.specs.Refusals.{left_line}
use Rattle.lw_area.proofs.telling.put_left.Goals as goal

pub loop-one-preserved : goal.loop-one-preserved
loop-one-preserved g c =
    Writes-more (left_line (plain_task c.args.task.now)) c.args.left.now c.loop-one.one-index (record { place = 0; limit = Signals }) c.loop-one-test.true c.loop-one.invariant c.put_left_line.ensures

pub returns : goal.returns
returns g c = subst (λ (ls : List Left). Writes g.E.Sink.taken g.E.Sink.faults c.args.out.now c.loop-one.out (flat_map (left_line (plain_task c.args.task.now)) ls)) (take_all c.loop-one.one-index c.args.left.now c.loop-one-test.false) c.loop-one.invariant
