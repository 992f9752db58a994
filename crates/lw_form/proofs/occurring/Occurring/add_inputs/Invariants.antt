use Rattle.lw_laws.specs.Signals.{input_signals}
use Rattle.lw_form.specs.Nets.{HasSignals}
use Rattle.lw_form.specs.Tables.{made, HasMore}
use Rattle.lw_form.proofs.occurring.Occurring.add_inputs.Given as goal

abbrev pub invariant-loop-input : goal.invariant-loop-input
invariant-loop-input l = record {
  more : HasMore (made l.initial.self.table) (made l.self.table);
  listed : HasSignals l.self (input_signals 0 l.input);
}
