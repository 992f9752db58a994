use Rattle.std.proofs.Common.{◌∙◌, ◌∷◌, [], map, sym, subst, ap₂, length}
use Rattle.lw_net.specs.Plain.{plain, plain_node}
use Rattle.lw_laws.specs.Forms.Form.{true_form}
use Rattle.lw_laws.specs.Occurring.{add_signals}
use Rattle.lw_laws.specs.Signals.{signals_after, input_signals}
use Rattle.lw_form.specs.Listed.{IsTooLong}
use Rattle.lw_form.specs.Nets.{AreNodes, HasSignals}
use Rattle.lw_form.proofs.Signalled.{network_fault, network_nodes, inputs_counted}
use Rattle.lw_form.proofs.occurring.Occurring.of_network.Goals as goal

pub add_inputs-requires : goal.add_inputs-requires
add_inputs-requires c = c.in_ok-all.ensures.none

pub returns-in-Err-clause-fault : goal.returns-in-Err-clause-fault
returns-in-Err-clause-fault c = network_fault c.args.maker.now.width c.inputs-inputs.result (plain c.args.net.now) c.in-Err.fault c.inputs-inputs.ensures.inputs c.in-Err.ensures.fault

pub add_nodes-requires : goal.add_nodes-requires
add_nodes-requires c = record {
  listed = (input_signals 0 c.inputs-inputs.result, c.in_default.ensures.listed);
  nodes = subst (AreNodes (length c.add_inputs.new.self.sops.items)) (sym c.nodes.ensures.nodes)
      (network_nodes c.args.net.now (length c.add_inputs.new.self.sops.items) c.nodes.ensures.kept (inputs_counted c.add_inputs.new.self.table c.add_inputs.new.self.listing.listed.items c.add_inputs.new.self.listing.places.items c.add_inputs.new.self.sops.items c.add_inputs.new.self.facs.items c.inputs-inputs.result c.in_default.ensures.listed ∙ c.inputs-inputs.ensures.inputs));
}

pub returns-in-Err-add_nodes-clause-fault : goal.returns-in-Err-add_nodes-clause-fault
returns-in-Err-add_nodes-clause-fault c =
    subst (λ ss. IsTooLong (add_signals ss (true_form ∷ [])) c.in-Err-add_nodes.fault) (ap₂ (λ i ns. signals_after c.args.maker.now.width (input_signals 0 i) (map plain_node ns)) c.inputs-inputs.ensures.inputs c.nodes.ensures.nodes)
    (c.in-Err-add_nodes.ensures.fault (input_signals 0 c.inputs-inputs.result) c.in_default.ensures.listed)

pub returns-clause-listed : goal.returns-clause-listed
returns-clause-listed c =
    let all = c.add_nodes.new.self in
    subst (HasSignals all) (ap₂ (λ i ns. signals_after c.args.maker.now.width (input_signals 0 i) (map plain_node ns)) c.inputs-inputs.ensures.inputs c.nodes.ensures.nodes)
    (c.in_default-add_nodes.ensures.listed (input_signals 0 c.inputs-inputs.result) c.in_default.ensures.listed)
