use Rattle.std.proofs.Common.{[], ◌∷◌, ◌++◌, map, ap, ap₂, sym, ◌∙◌}
use Rattle.std.specs.Prelude.{find}
use Rattle.std.specs.List.{flat_map}
use Rattle.std.specs.Option.{option_or}
use Rattle.std.proofs.lemmas.List.Folds.{find-append}
use Rattle.lw_mapped.specs.Texts.{names_of_inputs, names_of_outputs}
use Rattle.lw_verilog.specs.Sayable.{gate_names, is_hidden}
use Rattle.lw_verilog.proofs.refusing.first_hidden.Goals as goal
use Rattle.lw_netlist.specs.Plain.{port_name}

pub returns : goal.returns
returns c =
    let n = c.args.netlist.now in
    let inputs = names_of_inputs n in
    let outputs = names_of_outputs n in
    let gates = flat_map (gate_names c.args.lib.now n.names) n.gates in
    c.first_of.ensures
    ∙ (ap₂ option_or (c.hidden.ensures ∙ ap (λ m. find is_hidden (m ∷ [])) c.model.ensures)
    (c.first_of-input.ensures
    ∙ ap₂ option_or (c.hidden_name.ensures ∙ ap (find is_hidden) c.input_names.ensures)
    (c.first_of-port.ensures
    ∙ ap₂ option_or (c.hidden_port.ensures ∙ ap (λ ps. find is_hidden (map port_name ps)) c.outputs.ensures.outputs)
    (c.hidden_gate-gate.ensures ∙ ap₂ (λ ns gs. find is_hidden (flat_map (gate_names c.args.lib.now ns) gs)) c.names.ensures.names c.gates.ensures.gates)))
    ∙ sym (find-append is_hidden (n.model ∷ []) (inputs ++ (outputs ++ gates))
    ∙ ap (option_or (find is_hidden (n.model ∷ [])))
    (find-append is_hidden inputs (outputs ++ gates) ∙ ap (option_or (find is_hidden inputs)) (find-append is_hidden outputs gates))))
