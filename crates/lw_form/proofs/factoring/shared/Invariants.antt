use Rattle.std.proofs.Common.{◌≡◌, ◌-◌}
use Rattle.lw_laws.specs.Signals.{most_common, literals_from, shared_literal}
use Rattle.lw_form.specs.Factoring.{plain_choice}
use Rattle.lw_form.proofs.factoring.shared.Given as goal

abbrev pub invariant-loop-column : goal.invariant-loop-column
invariant-loop-column l = most_common l.rows (literals_from l.column (l.columns - l.column)) l.choice.rows (plain_choice l.choice.literal) ≡ shared_literal l.columns l.rows
