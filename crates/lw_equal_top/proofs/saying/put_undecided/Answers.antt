use Rattle.std.proofs.Common.{List, subst}
use Rattle.std.specs.Prelude.{codes}
use Rattle.std.specs.List.{flat_map}
use Rattle.std.proofs.lemmas.List.{take_all}
use Rattle.lw_io.specs.Writers.{Writes}
use Rattle.lw_io.proofs.Putting.{Writes-more}
use Rattle.lw_equal.specs.declared.point.Point.{Point}
use Rattle.lw_equal_top.specs.Texts.{point_line}
use Rattle.lw_equal_top.proofs.saying.put_undecided.Goals as goal

pub loop-point-preserved : goal.loop-point-preserved
loop-point-preserved g c =
    let next = subst (λ (p : Point). Writes g.S.Sink.taken g.S.Sink.faults c.loop-point.out c.put_point_line.new.out (point_line (codes "undecided ") p)) c.point-item.is c.put_point_line.ensures in
    Writes-more (point_line (codes "undecided ")) c.args.points.now c.loop-point.point-index c.point-item.result c.loop-point-test.true c.loop-point.invariant next

pub returns : goal.returns
returns g c = subst (λ (ps : List Point). Writes g.S.Sink.taken g.S.Sink.faults c.args.out.now c.loop-point.out (flat_map (point_line (codes "undecided ")) ps)) (take_all c.loop-point.point-index c.args.points.now c.loop-point-test.false) c.loop-point.invariant
