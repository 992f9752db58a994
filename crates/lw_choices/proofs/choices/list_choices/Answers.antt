use Rattle.std.proofs.Common.{ap, length, sym, subst, arith}
use Rattle.std.proofs.lemmas.List.{length-reverse}
use Rattle.lw_choices.specs.Choices.{AreListedChoices}
use Rattle.lw_choices.specs.Tasks.{task}
use Rattle.lw_choices.proofs.Growing.{all_choices}
use Rattle.lw_choices.proofs.choices.list_choices.Goals as goal

pub returns : goal.returns
returns c = record {
  few = let same = ap length c.turn_round.ensures in let long = length-reverse c.list_inputs.new.rows in omega (arith, same, long, c.len.ensures);
  choices = λ starts of_cells.
      let s = task c.args.graph.now c.args.pats.now c.args.lib.now starts in
      let rows = c.list_inputs.new.rows in
      let all = all_choices s rows (c.in_ok-list_inputs.ensures c.args.pats.now c.args.lib.now starts (c.in_ok-rows.ensures starts of_cells)) in
      subst (AreListedChoices s) (sym c.turn_round.ensures) all;
}
