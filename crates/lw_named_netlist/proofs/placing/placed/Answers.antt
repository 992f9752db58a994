use Rattle.std.proofs.Common.{◌<◌, ◌+◌, refl, length, All, Contains, sym, subst, ◌∙◌, arith}
use Rattle.std.proofs.lemmas.List.Elements.{All-weaker}
use Rattle.lw_netlist.specs.Netlists.{IsNetlist}
use Rattle.lw_named_netlist.proofs.Moving.{keys_many, placed_parts}
use Rattle.lw_named_netlist.proofs.placing.placed.Goals as goal

pub new-requires : goal.new-requires
new-requires c =
    rw c.in-Ok-named.ensures.model_is (subst IsNetlist (sym (placed_parts c.requires.0 c.args.graph c.args.starts.now c.args.places.now c.requires.1 c.args.graph.signals c.in-Ok-named.names c.args.graph.outputs c.in-Ok.ensures.nets_are.0 c.in-Ok.ensures.nets_are.0 c.in-Ok.nets.items c.in-Ok.nets.items c.deref.result.now c.from_vec.result c.in-Ok-named.outputs
    refl c.in-Ok-named.ensures.names_are c.in-Ok.ensures.nets_are.1.0 refl c.in-Ok.ensures.nets_are.1.1 refl c.deref.ensures.value
    (λ d net made tell. c.from_vec.ensures ∙ c.in-Ok.ensures.gates_are d net made tell)
    (λ net tell. c.in-Ok-named.ensures.outputs_are net tell)
    refl)) c.requires.1.kept)

pub returns : goal.returns
returns c = λ draft is.
    (rw c.in-Ok-named.ensures.model_is at c.new.ensures)
    ∙ placed_parts draft c.args.graph c.args.starts.now c.args.places.now is c.args.graph.signals c.in-Ok-named.names c.args.graph.outputs c.in-Ok.ensures.nets_are.0 c.in-Ok.ensures.nets_are.0 c.in-Ok.nets.items c.in-Ok.nets.items c.deref.result.now c.from_vec.result c.in-Ok-named.outputs
    refl c.in-Ok-named.ensures.names_are c.in-Ok.ensures.nets_are.1.0 refl c.in-Ok.ensures.nets_are.1.1 refl c.deref.ensures.value
    (λ d net made tell. c.from_vec.ensures ∙ c.in-Ok.ensures.gates_are d net made tell)
    (λ net tell. c.in-Ok-named.ensures.outputs_are net tell)
    refl

pub named-requires : goal.named-requires
named-requires c =
    let draft = c.requires.0 in
    let is = c.requires.1 in
    record {
      places_within = All-weaker (λ p. p < length draft.gates) (λ p. c.args.graph.inputs + p < length c.args.graph.signals) (λ p lt. omega (arith, lt, keys_many draft c.args.graph is.made, is.made.inputs)) c.args.places.now is.within;
      count = rw c.deref.ensures.value c.in-Ok.ensures.count;
      known = subst (All (Contains c.args.graph.signals)) (sym is.made.outputs) is.outputs;
    }
