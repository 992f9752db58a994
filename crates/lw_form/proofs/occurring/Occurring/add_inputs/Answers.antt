use Rattle.std.proofs.Common.{◌∙◌, ◌∷◌, ◌++◌, [], subst, ap}
use Rattle.lw_laws.specs.Forms.Form.{true_form}
use Rattle.lw_laws.specs.Occurring.{add_signals}
use Rattle.lw_laws.specs.Signals.{input_signals}
use Rattle.lw_form.specs.Listed.{IsTooLong}
use Rattle.lw_form.specs.Nets.{HasSignals}
use Rattle.lw_form.specs.Tables.{made}
use Rattle.lw_form.proofs.Joining.{more_same, more_twice}
use Rattle.lw_form.proofs.ListedForms.{err_is}
use Rattle.lw_form.proofs.Signalled.{input_within, input_signal_is, inputs_more, inputs_fault}
use Rattle.lw_form.proofs.occurring.Occurring.add_inputs.Goals as goal

pub loop-input-init : goal.loop-input-init
loop-input-init c = record { more = more_same (made c.args.self.now.table); listed = c.requires.listed }

pub add_net-requires : goal.add_net-requires
add_net-requires c = record {
  listed = (input_signals 0 c.loop-input.input, c.loop-input.invariant.listed);
  sop = input_within c.args.self.now.table c.loop-input.self.table c.args.inputs c.loop-input.input c.requires.table c.loop-input.invariant.more c.loop-input-test.true;
  fac = input_within c.args.self.now.table c.loop-input.self.table c.args.inputs c.loop-input.input c.requires.table c.loop-input.invariant.more c.loop-input-test.true;
}

pub returns-in_err-add_net-clause-fault : goal.returns-in_err-add_net-clause-fault
returns-in_err-add_net-clause-fault c =
    err_is (IsTooLong (add_signals (input_signals 0 c.args.inputs) (true_form ∷ []))) c.from_residual.result c.in_err-add_net.field-0.0 c.from_residual.ensures.1
    (inputs_fault c.loop-input.input c.args.inputs c.in_err-add_net.field-0.0 c.loop-input-test.true
    (subst (λ s. IsTooLong (add_signals (input_signals 0 c.loop-input.input ++ s ∷ []) (true_form ∷ [])) c.in_err-add_net.field-0.0) (input_signal_is c.args.self.now.table c.loop-input.self.table c.args.inputs c.loop-input.input c.requires.table c.loop-input.invariant.more c.loop-input-test.true) (c.in_err-add_net.ensures.fault (input_signals 0 c.loop-input.input) c.loop-input.invariant.listed)))

pub loop-input-preserved : goal.loop-input-preserved
loop-input-preserved c = record {
  more = more_twice (made c.args.self.now.table) (made c.loop-input.self.table) (made c.add_net.new.self.table) c.loop-input.invariant.more c.in_ok-add_net.ensures.adds.more;
  listed = subst (HasSignals c.add_net.new.self) (ap (λ s. input_signals 0 c.loop-input.input ++ s ∷ []) (input_signal_is c.args.self.now.table c.loop-input.self.table c.args.inputs c.loop-input.input c.requires.table c.loop-input.invariant.more c.loop-input-test.true) ∙ inputs_more c.loop-input.input) (c.in_ok-add_net.ensures.adds.listed (input_signals 0 c.loop-input.input) c.loop-input.invariant.listed);
}
