use Rattle.std.proofs.lemmas.Result.{IfOk-from_err}
use Rattle.lw_report.proofs.Standings.{memory_refuses}
use Rattle.lw_report.proofs.vectors.Vectors.take.Goals as goal

pub returns-in_err-gather-clause-ok : goal.returns-in_err-gather-clause-ok
returns-in_err-gather-clause-ok c = IfOk-from_err _ _ c.from_residual.ensures.0

pub returns-in_err-gather-clause-fault : goal.returns-in_err-gather-clause-fault
returns-in_err-gather-clause-fault c = memory_refuses c.args.self.now.inputs c.args.line.now c.from_residual.result c.from_residual.ensures.1

pub returns-in_err-add_vector-clause-ok : goal.returns-in_err-add_vector-clause-ok
returns-in_err-add_vector-clause-ok c = IfOk-from_err _ _ c.from_residual-in_err-add_vector.ensures.0

pub returns-in_err-add_vector-clause-fault : goal.returns-in_err-add_vector-clause-fault
returns-in_err-add_vector-clause-fault c = memory_refuses c.args.self.now.inputs c.args.line.now c.from_residual-in_err-add_vector.result c.from_residual-in_err-add_vector.ensures.1
