use Rattle.std.proofs.Common.{subst, sym}
use Rattle.lw_aig.specs.Aigs.{IsAig}
use Rattle.lw_equal.specs.Cells.{IsMade}
use Rattle.lw_equal.proofs.Steps.{made_constant}
use Rattle.lw_equal.proofs.cells.literal_by.Goals as goal

pub returns-in-Const-clause-literal : goal.returns-in-Const-clause-literal
returns-in-Const-clause-literal c =
    let gates = c.args.sweep.now in
    let made = made_constant gates c.args.pins.now c.args.parts.now c.in-Const.value (record { 0 = c.from.result }) (subst IsAig c.aig.ensures c.gates.ensures.kept) c.from.ensures in
    subst (λ op. IsMade gates c.args.pins.now op c.args.parts.now (record { 0 = c.from.result })) (sym c.in-Const.is) made
