use Rattle.std.proofs.Common.{[], ◌∷◌}
use Rattle.lw_laws.specs.Signals.{factored}
use Rattle.lw_form.specs.Factoring.{IsWorking, weights}
use Rattle.lw_form.specs.Tables.{made, forms_at, HasMore}
use Rattle.lw_form.proofs.maker.Fanins.factored.Given as goal

abbrev pub invariant-tasks : goal.invariant-tasks
invariant-tasks l = record {
  more : HasMore (made l.initial.table) (made l.table);
  works : IsWorking l.self.maker.now.width (forms_at (made l.initial.table) l.self.forms.now) l.self.forms.now l.table l.work.tasks.items l.work.done.items (factored l.self.maker.now.width (forms_at (made l.initial.table) l.self.forms.now) l.fn.rows.items ∷ []);
}

abbrev pub decreases-tasks : goal.decreases-tasks
decreases-tasks l = weights l.work.tasks.items
