use Rattle.std.proofs.Common.{◌∙◌, sym, ap, map}
use Rattle.lw_net.specs.Signs.{asked}
use Rattle.lw_form.proofs.Rows.{asked_row, literal_one, literal_none}
use Rattle.lw_form.proofs.products.literals.Goals as goal
use Rattle.lw_form.proofs.products.literals.Goals.{in-Some+in_ok-push-in-Some, in-None}

pub loop-column-preserved : goal.loop-column-preserved
loop-column-preserved c =
    let (lt, columns, reads) = asked_row c.args.signs.now c.args.fanins.now c.loop-column.column c.loop-column-test.true c.requires in
    elim c.match-ask.branch [
      | in-Some+in_ok-push-in-Some w ↦ literal_one c.args.fanins.now (map asked c.args.signs.now) c.loop-column.column w.in-Some.sign c.loop-column.literals.items c.match-ask.literals.items w.signed.result lt columns (reads ∙ (sym c.ask.ensures ∙ w.in-Some.is)) w.signed.ensures (ap (λ v. v.items) w.literals-is ∙ w.in_ok-push-in-Some.ensures.ok) c.loop-column.invariant
      | in-None w ↦ literal_none c.args.fanins.now (map asked c.args.signs.now) c.loop-column.column c.loop-column.literals.items c.match-ask.literals.items lt columns (reads ∙ (sym c.ask.ensures ∙ w.in-None.is)) (ap (λ v. v.items) w.literals-is) c.loop-column.invariant
    ]
