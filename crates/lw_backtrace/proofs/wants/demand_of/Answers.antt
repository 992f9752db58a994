use Rattle.std.proofs.Common.{Some, refl, ap, sym, ◌∙◌, subst}
use Rattle.lw_curves.specs.declared.point.Point.{Point}
use Rattle.lw_curves.specs.CurveTables.{IsStandAt}
use Rattle.lw_choices.proofs.Lists.{got}
use Rattle.lw_backtrace.proofs.wants.demand_of.Goals as goal

pub returns : goal.returns
returns c = record {
  gate = c.in-Some-Gate.gate;
  own = c.cell.result.now;
  row = c.in_ok-get.field-0.now;
  point = c.in_ok-point.field-0.now;
  stands = subst (IsStandAt c.args.plan.now.curves.now c.args.node.class.0 c.args.node.place) c.in-Some-Gate.field-0-is c.in-Some-Gate.ensures;
  row_at = c.in_ok-get.ensures.points;
  point_at = let d : Point = record { time = record { 0 = 0 }; area = 0 } in got c.in_ok-get.field-0.now c.args.node.place d c.in_ok-point.ensures.lookup.3.0 ∙ ap Some (sym (c.in_ok-point.ensures.lookup.3.1 d));
  cell_at = c.cell.ensures;
  cell_is = refl;
  pins_are = refl;
  delays_are = c.delays.ensures.delays;
  time_is = refl;
  exact_is = refl;
}
