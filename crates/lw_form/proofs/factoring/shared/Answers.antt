use Rattle.std.proofs.Common.{◌∙◌, ◌∷◌, ◌-◌, ◌+◌, sym, ap, false}
use Rattle.lw_laws.specs.Signals.{most_common, literals_from}
use Rattle.lw_form.specs.Factoring.{plain_choice}
use Rattle.lw_form.proofs.FactoringSteps.{literal_at, literals_more, literals_end}
use Rattle.lw_form.proofs.factoring.shared.Goals as goal

pub loop-column-preserved : goal.loop-column-preserved
loop-column-preserved c =
    let rest = literals_from (c.loop-column.column + 1) (c.args.columns - (c.loop-column.column + 1)) in
    c.better-choice-in-loop-column.ensures rest
    ∙ (c.better-choice.ensures (literal_at c.loop-column.column false ∷ rest)
    ∙ (ap (λ ls. most_common c.args.rows.now ls c.loop-column.choice.rows (plain_choice c.loop-column.choice.literal)) (sym (literals_more c.args.columns c.loop-column.column c.loop-column-test.true)) ∙ c.loop-column.invariant))

pub returns : goal.returns
returns c = ap (λ ls. most_common c.args.rows.now ls c.loop-column.choice.rows (plain_choice c.loop-column.choice.literal)) (sym (literals_end c.args.columns c.loop-column.column c.loop-column-test.false)) ∙ c.loop-column.invariant
