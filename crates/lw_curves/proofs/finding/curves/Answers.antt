use Rattle.std.proofs.Common.{All, sym, subst, subst₂, arith}
use Rattle.lw_choices.specs.Areas.{area_cost}
use Rattle.lw_curves.specs.Backing.{AreBacked}
use Rattle.lw_choices.specs.Choices.{AreListedChoices}
use Rattle.lw_curves.specs.CurveTables.{AreRows, AreRowsOf, HaveWays}
use Rattle.lw_curves.specs.Points.{AreCurves, BoundCovers, IsWhy}
use Rattle.lw_choices.specs.Tasks.{task}
use Rattle.lw_choices.specs.Rows.{AreRowsFor, IsRowFor}
use Rattle.lw_cost.proofs.MarksAsLabels.{patterns_of_cells}
use Rattle.lw_curves.proofs.Curving.{err_is, rows_bound, rows_curves, why_stopped}
use Rattle.lw_curves.proofs.Counting.{rows_few}
use Rattle.lw_curves.proofs.Grouped.{rows_shown}
use Rattle.lw_curves.proofs.Ranges.{rows_for}
use Rattle.lw_curves.proofs.finding.curves.Goals as goal

pub settle_rows-requires-clause-rows : goal.settle_rows-requires-clause-rows
settle_rows-requires-clause-rows c =
    let s = task c.args.graph.now c.args.pats.now c.args.lib.now c.args.starts.now in
    let are = c.in_ok-rows.ensures.choices c.args.starts.now c.requires.of_cells in
    let rows = rows_for s c.classes-classes.ensures.kept c.requires.of_cells c.in_ok-rows.rows are in
    let these : AreRowsFor c.args.lib.now c.classes-classes.result c.in_ok-rows.rows = record {
      few = c.in_ok-rows.ensures.few;
      each = subst (λ n. All (IsRowFor c.args.lib.now n) c.in_ok-rows.rows) (sym c.classes-classes.ensures.classes) rows;
    } in
    these

pub settle_rows-requires-clause-listed : goal.settle_rows-requires-clause-listed
settle_rows-requires-clause-listed c =
    (c.args.graph.now, c.args.pats.now, (c.in_ok-rows.ensures.choices c.as_slice-starts.result.now c.requires.of_cells))

pub returns-in_err-fronts-clause-why : goal.returns-in_err-fronts-clause-why
returns-in_err-fronts-clause-why c =
    let s = task c.args.graph.now c.args.pats.now c.args.lib.now c.as_slice-starts.result.now in
    let are = (c.in_ok-rows.ensures.choices c.as_slice-starts.result.now c.requires.of_cells) in
    let stop = c.in_err-fronts.ensures.stop c.args.graph.now c.args.pats.now are in
    let why = why_stopped s c.classes-classes.ensures.kept c.in_ok-rows.rows are (patterns_of_cells (area_cost c.args.lib.now).pin_counts c.args.pats.now c.requires.of_cells) c.args.horizon.0 c.in_err-fronts.field-0.0 stop in
    let why' = subst (λ starts. IsWhy (task c.args.graph.now c.args.pats.now c.args.lib.now starts) c.args.horizon.0 c.in_err-fronts.field-0.0) c.as_slice-starts.ensures why in
    err_is (IsWhy (task c.args.graph.now c.args.pats.now c.args.lib.now c.args.starts.now) c.args.horizon.0) c.from_residual-in_err-fronts.result c.in_err-fronts.field-0.0 c.from_residual-in_err-fronts.ensures.1 why'

pub returns-clause-curves : goal.returns-clause-curves
returns-clause-curves c =
    let s = task c.args.graph.now c.args.pats.now c.args.lib.now c.as_slice-starts.result.now in
    let n = c.classes-classes.result in
    let are = (c.in_ok-rows.ensures.choices c.as_slice-starts.result.now c.requires.of_cells) in
    let settled = c.in_ok-fronts.ensures.settled.settled c.args.graph.now c.args.pats.now are in
    let rows = c.in_ok-curves.ensures.rows in
    let shown = rows_shown c.in_ok-fronts.fronts.held n 0 rows.rows rows.are in
    let here = subst₂ (λ ks rs. AreRows ks n 0 rs) c.in_ok-curves.ensures.spots (sym rows.points_are) shown in
    let curves = rows_curves s c.classes-classes.ensures.kept c.in_ok-rows.rows are (patterns_of_cells (area_cost c.args.lib.now).pin_counts c.args.pats.now c.requires.of_cells) c.args.horizon.0 c.in_ok-fronts.fronts.spots settled c.in_ok-curves.ensures.apart n c.in_ok-curves.curves.points c.classes-classes.ensures.classes here in
    subst (λ starts. AreCurves (task c.args.graph.now c.args.pats.now c.args.lib.now starts) c.args.horizon.0 c.in_ok-curves.curves.points) c.as_slice-starts.ensures curves

pub returns-clause-bound : goal.returns-clause-bound
returns-clause-bound c =
    let s = task c.args.graph.now c.args.pats.now c.args.lib.now c.as_slice-starts.result.now in
    let n = c.classes-classes.result in
    let are = (c.in_ok-rows.ensures.choices c.as_slice-starts.result.now c.requires.of_cells) in
    let settled = c.in_ok-fronts.ensures.settled.settled c.args.graph.now c.args.pats.now are in
    let rows = c.in_ok-curves.ensures.rows in
    let shown = rows_shown c.in_ok-fronts.fronts.held n 0 rows.rows rows.are in
    let here = subst₂ (λ ks rs. AreRows ks n 0 rs) c.in_ok-curves.ensures.spots (sym rows.points_are) shown in
    let bound = rows_bound s c.classes-classes.ensures.kept c.in_ok-rows.rows are (patterns_of_cells (area_cost c.args.lib.now).pin_counts c.args.pats.now c.requires.of_cells) c.args.horizon.0 c.in_ok-fronts.fronts.spots settled c.in_ok-curves.ensures.apart n c.in_ok-curves.curves.points c.classes-classes.ensures.classes here in
    subst (λ starts. BoundCovers (task c.args.graph.now c.args.pats.now c.args.lib.now starts) c.args.horizon.0 c.in_ok-curves.curves.points) c.as_slice-starts.ensures bound

pub returns-clause-ways : goal.returns-clause-ways
returns-clause-ways c =
    let s = task c.args.graph.now c.args.pats.now c.args.lib.now c.as_slice-starts.result.now in
    let are = c.in_ok-rows.ensures.choices c.as_slice-starts.result.now c.requires.of_cells in
    let backed = c.in_ok-fronts.ensures.settled.backed c.args.graph.now c.args.pats.now are in
    let have : HaveWays s c.in_ok-curves.curves = record {
      choices = subst (AreListedChoices s) (sym c.in_ok-curves.ensures.choices_are) are;
      held = c.in_ok-fronts.fronts.held;
      rows = subst (λ n. AreRowsOf c.in_ok-fronts.fronts.held n c.in_ok-curves.curves) c.classes-classes.ensures.classes c.in_ok-curves.ensures.rows;
      backed = subst (λ xs. AreBacked s xs c.in_ok-fronts.fronts.held) (sym c.in_ok-curves.ensures.choices_are) backed;
    } in
    subst (λ starts. HaveWays (task c.args.graph.now c.args.pats.now c.args.lib.now starts) c.in_ok-curves.curves) c.as_slice-starts.ensures have

pub returns-clause-few : goal.returns-clause-few
returns-clause-few c =
    let rows = c.in_ok-curves.ensures.rows in
    let shown = rows_shown c.in_ok-fronts.fronts.held c.classes-classes.result 0 rows.rows rows.are in
    let here = subst₂ (λ ks rs. AreRows ks c.classes-classes.result 0 rs) c.in_ok-curves.ensures.spots (sym rows.points_are) shown in
    let few = rows_few c.classes-classes.result c.in_ok-fronts.fronts.spots c.in_ok-curves.curves.points c.in_ok-curves.ensures.apart here in
    omega (arith, few, c.in_ok-fronts.ensures.settled.few)
