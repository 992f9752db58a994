use Rattle.std.proofs.Common.{drop, ap, sym, ◌∙◌, arith}
use Rattle.lw_mapped.specs.Sayings.{said}
use Rattle.lw_mapped.specs.declared.saying.Saying.TheVariants as saying
use Rattle.lw_mapped.specs.GateLines.{gate_of}
use Rattle.lw_mapped.proofs.CellLemmas.{says-no_cell, says-cell, below-names}
use Rattle.lw_mapped.proofs.parsing.gate.Goals as goal

pub returns-in_default : goal.returns-in_default
returns-in_default c =
    says-no_cell c.args.lib.now c.args.words.now c.get.result.now (omega (arith, c.if-len-lt3.false, c.len.ensures)) c.get.ensures.word c.in_default.ensures.none

pub cell-cell-requires : goal.cell-cell-requires
cell-cell-requires c = below-names c.args.lib.now c.in-Some.id.0 c.get.result.now c.in-Some.ensures.found

pub returns-in-Some-ties_fault : goal.returns-in-Some-ties_fault
returns-in-Some-ties_fault c =
    let cell = c.cell-cell.result.now in
    let ties = drop 2 c.args.words.now in
    says-cell c.args.lib.now c.args.words.now c.get.result.now c.in-Some.id.0 cell c.len-count.ensures.kept.names_differ (omega (arith, c.if-len-lt3.false, c.len.ensures)) c.get.ensures.word c.in-Some.ensures.found c.cell-cell.ensures
    ∙ ap (λ o. said o (saying.Gate (gate_of c.in-Some.id.0 cell ties))) (sym c.ties_fault.ensures ∙ c.in-Some-ties_fault.is)

pub gate_of-requires : goal.gate_of-requires
gate_of-requires c = sym c.ties_fault.ensures ∙ c.in_default-ties_fault.is

pub returns : goal.returns
returns c =
    let cell = c.cell-cell.result.now in
    let ties = drop 2 c.args.words.now in
    says-cell c.args.lib.now c.args.words.now c.get.result.now c.in-Some.id.0 cell c.len-count.ensures.kept.names_differ (omega (arith, c.if-len-lt3.false, c.len.ensures)) c.get.ensures.word c.in-Some.ensures.found c.cell-cell.ensures
    ∙ (ap (λ o. said o (saying.Gate (gate_of c.in-Some.id.0 cell ties))) (sym c.ties_fault.ensures ∙ c.in_default-ties_fault.is)
    ∙ ap (λ g. Rattle.std.proofs.Common.Ok (saying.Gate g)) (sym c.in_ok-gate_of.ensures))
