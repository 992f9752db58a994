use Rattle.std.proofs.Common.{List, ◌++◌, [], ◌∷◌, sym, subst, length}
use Rattle.lw_laws.specs.Expressions.{Expr}
use Rattle.lw_genlib.specs.Cells.{CellParts, IsCell, IsForm, HaveOneTruth}
use Rattle.lw_genlib.specs.Postfix.{first_expr}
use Rattle.lw_genlib.proofs.MergeLemmas.{cell-with_form, push-either}
use Rattle.lw_genlib.proofs.cell.Cell.add_form.Goals as goal

pub invariant_of-self : goal.invariant_of-self
invariant_of-self c =
    let now : CellParts = record { name = c.self.inside.name; area = c.self.inside.area; output = c.self.inside.output; pins = c.self.inside.pins; delays = c.self.inside.delays; forms = c.self.inside.forms } in
    let kept : IsCell now = c.self.invariant in
    push-either c.push.result c.push.new.self c.self.inside.forms (c.self.inside.forms ++ c.args.form ∷ [])
    (λ (fs : List Expr). IsCell (record { name = c.self.inside.name; area = c.self.inside.area; output = c.self.inside.output; pins = c.self.inside.pins; delays = c.self.inside.delays; forms = fs }))
    c.push.ensures
    (cell-with_form now c.args.form kept
    (subst (λ (cell : CellParts). IsForm (length cell.pins) c.args.form) (sym c.self.view_is) c.requires.form)
    (subst (λ (cell : CellParts). HaveOneTruth (first_expr cell.forms) c.args.form) (sym c.self.view_is) c.requires.one_truth))
    kept
