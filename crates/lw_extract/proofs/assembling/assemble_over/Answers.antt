use Rattle.std.proofs.Common.{◌∙◌, ◌<◌, length, ap, sym, subst, arith}
use Rattle.std.proofs.lemmas.List.Elements.{All-map}
use Rattle.lw_laws.specs.Names.{net_names}
use Rattle.lw_naming.proofs.ClassNumbers.{classes_below}
use Rattle.lw_netlist.specs.Netlists.{NetlistParts}
use Rattle.lw_extract.specs.declared.choosing.Chosen.{Chosen}
use Rattle.lw_extract.specs.Choosing.{chosen_classes}
use Rattle.lw_extract.proofs.Assembly.{AreParts, few_chosen, patterns_within, roots_have_nets, pins_have_nets, is_netlist, is_assembled}
use Rattle.lw_extract.proofs.assembling.assemble_over.Goals as goal
use Rattle.lw_pool.specs.Numbers.{numbers}

pub gates_of-requires-clause-few : goal.gates_of-requires-clause-few
gates_of-requires-clause-few c =
    let few = few_chosen c.args.graph.now c.args.pats.now c.args.ports.now c.args.chosen.now c.requires.can in
    omega (arith, few, c.requires.can.fit.few, c.requires.can.fit.few_inputs, c.inputs-inputs.ensures.inputs)

pub gates_of-requires-clause-patterns : goal.gates_of-requires-clause-patterns
gates_of-requires-clause-patterns c = patterns_within c.args.graph.now c.args.pats.now c.args.ports.now c.args.chosen.now c.requires.can

pub gates_of-requires-clause-nets : goal.gates_of-requires-clause-nets
gates_of-requires-clause-nets c =
    pins_have_nets c.args.graph.now c.args.pats.now c.args.ports.now c.args.chosen.now c.requires.can c.args.nets.now c.requires.nets

pub outputs_of-requires-clause-nets : goal.outputs_of-requires-clause-nets
outputs_of-requires-clause-nets c =
    roots_have_nets c.args.graph.now c.args.pats.now c.args.ports.now c.args.chosen.now c.requires.can c.args.nets.now c.requires.nets

pub names_of-requires-clause-gates : goal.names_of-requires-clause-gates
names_of-requires-clause-gates c =
    let n = length c.args.graph.now.pairs in
    let same = ap numbers c.as_slice.ensures ∙ c.in_ok-classes.ensures in
    classes_below n c.as_slice.result.now (chosen_classes c.args.chosen.now) same (All-map (λ k. k < n) (λ (x : Chosen). x.class.0) c.args.chosen.now c.requires.can.within)

pub new-requires : goal.new-requires
new-requires c =
    let n : NetlistParts = record { model = c.in_ok-model.model; names = c.in_ok-names.names; inputs = c.inputs-inputs.result; gates = c.in_ok-gates.gates; outputs = c.in_ok-outputs.outputs } in
    let parts : AreParts c.args.graph.now c.args.pats.now c.args.ports.now c.args.chosen.now c.args.nets.now n = record {
      inputs = c.inputs-inputs.ensures.inputs;
      gates = c.in_ok-gates.ensures;
      model = c.in_ok-model.ensures ∙ c.as_bytes.ensures.bytes;
      names = c.in_ok-names.ensures ∙ ap (net_names c.args.ports.now.inputs c.args.ports.now.outputs (numbers c.args.ports.now.roots)) (ap numbers c.as_slice.ensures ∙ c.in_ok-classes.ensures);
      output_names = c.in_ok-outputs.ensures.names;
      output_nets = c.in_ok-outputs.ensures.nets;
    } in
    is_netlist c.args.graph.now c.args.pats.now c.args.ports.now c.args.chosen.now c.requires.can c.args.nets.now c.requires.nets n parts

pub returns : goal.returns
returns c =
    let graph = c.args.graph.now in
    let pats = c.args.pats.now in
    let ports = c.args.ports.now in
    let n : NetlistParts = record { model = c.in_ok-model.model; names = c.in_ok-names.names; inputs = c.inputs-inputs.result; gates = c.in_ok-gates.gates; outputs = c.in_ok-outputs.outputs } in
    let parts : AreParts graph pats ports c.args.chosen.now c.args.nets.now n = record {
      inputs = c.inputs-inputs.ensures.inputs;
      gates = c.in_ok-gates.ensures;
      model = c.in_ok-model.ensures ∙ c.as_bytes.ensures.bytes;
      names = c.in_ok-names.ensures ∙ ap (net_names ports.inputs ports.outputs (numbers ports.roots)) (ap numbers c.as_slice.ensures ∙ c.in_ok-classes.ensures);
      output_names = c.in_ok-outputs.ensures.names;
      output_nets = c.in_ok-outputs.ensures.nets;
    } in
    let same = subst (λ m. AreParts graph pats ports c.args.chosen.now c.args.nets.now m) (sym c.new.ensures) parts in
    is_assembled graph pats ports c.args.chosen.now c.requires.can c.args.nets.now c.requires.nets c.new.result same c.in_ok-classes.classes c.in_ok-classes.ensures
