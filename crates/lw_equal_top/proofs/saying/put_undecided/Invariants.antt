use Rattle.std.proofs.Common.{take}
use Rattle.std.specs.Prelude.{codes}
use Rattle.std.specs.List.{flat_map}
use Rattle.lw_io.specs.Writers.{Writes}
use Rattle.lw_equal_top.specs.Texts.{point_line}
use Rattle.lw_equal_top.proofs.saying.put_undecided.Given as goal

abbrev pub invariant-loop-point : goal.invariant-loop-point
invariant-loop-point g l = Writes g.S.Sink.taken g.S.Sink.faults l.initial.out l.out (flat_map (point_line (codes "undecided ")) (take l.point-index l.points))
