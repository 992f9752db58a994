use Rattle.std.proofs.Common.{take}
use Rattle.std.specs.List.{flat_map}
use Rattle.lw_io.specs.Writers.{Writes}
use Rattle.lw_area.specs.Plain.{plain_task}
use Rattle.lw_area.specs.Refusals.{left_line}
use Rattle.lw_area.proofs.telling.put_left.Given as goal

abbrev pub invariant-loop-one : goal.invariant-loop-one
invariant-loop-one g l = Writes g.E.Sink.taken g.E.Sink.faults l.initial.out l.out (flat_map (left_line (plain_task l.task)) (take l.one-index l.left))
