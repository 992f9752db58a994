use Rattle.std.proofs.lemmas.Option.{IfSome_then}
use Rattle.std.proofs.lemmas.Result.{IfOk-weaker}
use Rattle.lw_equal.proofs.Laying.{cells_have, rows_have}
use Rattle.lw_equal.proofs.placing.logic_literals.Goals as goal

pub returns-in-Rows-clause-values : goal.returns-in-Rows-clause-values
returns-in-Rows-clause-values c =
    IfOk-weaker c.net_literals.result _ _ (λ o h. IfSome_then o h (λ lits have. rows_have _ c.args.logic.now c.args.inputs.now lits.items _ c.in-Rows.is have)) c.net_literals.ensures.values

pub returns-in-Cells-clause-values : goal.returns-in-Cells-clause-values
returns-in-Cells-clause-values c =
    IfOk-weaker c.netlist_literals.result _ _ (λ o h. IfSome_then o h (λ lits have. cells_have _ c.args.logic.now c.args.inputs.now lits.items _ _ c.in-Cells.is have)) c.netlist_literals.ensures.values
