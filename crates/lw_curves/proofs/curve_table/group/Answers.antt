use Rattle.std.proofs.Common.{reverse, refl, sym, subst, subst₂}
use Rattle.lw_curves.specs.CurveTables.{AreCurveArrays, IsTable}
use Rattle.lw_curves.proofs.Grouped.{table_rising}
use Rattle.lw_curves.proofs.curve_table.group.Goals as goal

pub invariant_of-result : goal.invariant_of-result
invariant_of-result c =
    let points = c.push_rows.new.points.items in
    let ways = c.push_rows.new.ways.items in
    let lefts = c.push_rows.new.lefts.items in
    let here = table_rising c.args.fronts.now.held c.args.classes (reverse points) (reverse ways) (reverse lefts) c.in_ok-push_rows.ensures in
    let there = subst₂ (λ xs ys. AreCurveArrays xs ys (reverse lefts)) (sym c.reverse.ensures.items) (sym c.reverse-2.ensures.items) here in
    subst (λ ls. AreCurveArrays c.reverse.new.self.items c.reverse-2.new.self.items ls) (sym c.reverse-3.ensures.items) there

pub returns : goal.returns
returns c =
    let held = c.args.fronts.now.held in
    let n = c.args.classes in
    let lefts = c.push_rows.new.lefts.items in
    let here = subst₂ (λ xs ys. IsTable held n 0 xs ys (reverse lefts)) (sym c.reverse.ensures.items) (sym c.reverse-2.ensures.items) c.in_ok-push_rows.ensures in
    let table = subst (λ ls. IsTable held n 0 c.reverse.new.self.items c.reverse-2.new.self.items ls) (sym c.reverse-3.ensures.items) here in
    record {
      apart = c.len-count.ensures.apart;
      spots = c.len-count.ensures.spots;
      rows = record { rows = table.rows; are = table.are; points_are = table.points_are; ways_are = table.ways_are };
      choices_are = refl;
    }
