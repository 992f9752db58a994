use Rattle.std.proofs.lemmas.List.{length-map}
use Rattle.std.proofs.Common.{◌<◌, ◌+◌, ap, length, map, ◌∙◌, arith, ℕ, List}
use Rattle.std.proofs.lemmas.List.Elements.{All-weaker}
use Rattle.lw_pool.specs.declared.id.NetId.{NetId}
use Rattle.lw_named_netlist.specs.Numbered.{start_at}
use Rattle.lw_named_netlist.proofs.Moving.{differ, keys_many, cells_many}
use Rattle.lw_named_netlist.proofs.placing.gates_by.Goals as goal

pub nets_by-requires : goal.nets_by-requires
nets_by-requires c =
    let is = c.requires.1 in
    All-weaker (λ s. s < length c.args.graph.now.signals) (λ s. s < length c.deref.result.now) (λ s lt. omega (arith, lt, ap length c.deref.ensures.value, c.in_ok-turned.ensures.one_each, c.len.ensures)) c.args.starts.now is.below

pub closed_gates-requires-clause-made : goal.closed_gates-requires-clause-made
closed_gates-requires-clause-made c = (c.requires.0, c.requires.1.made)

pub closed_gates-requires-clause-within : goal.closed_gates-requires-clause-within
closed_gates-requires-clause-within c =
    let draft = c.requires.0 in
    let is = c.requires.1 in
    All-weaker (λ p. p < length draft.gates) (λ p. p < length c.args.graph.now.cells.items) (λ p lt. omega (arith, lt, cells_many draft c.args.graph.now is.made)) c.args.places.now is.within

pub turned-requires : goal.turned-requires
turned-requires c =
    let draft = c.requires.0 in
    let is = c.requires.1 in
    record {
      few = omega (arith, c.len.ensures, ap length is.made.graph.names, is.made.graph.few);
      first = omega (arith, c.len.ensures, keys_many draft c.args.graph.now is.made, is.many, is.made.inputs);
      within = All-weaker (λ p. p < length draft.gates) (λ p. c.args.graph.now.inputs + p < c.len.result) (λ p lt. omega (arith, lt, c.len.ensures, keys_many draft c.args.graph.now is.made, is.made.inputs)) c.args.places.now is.within;
      differ = differ c.requires.0 c.args.graph.now c.requires.1.made c.args.starts.now c.args.places.now c.requires.1;
    }

pub returns : goal.returns
returns c = record {
  count = ap length c.in_ok-nets.ensures ∙ (length-map c.args.starts.now (λ s. let e : NetId = record { 0 = start_at c.deref.result.now s } in e) ∙ c.requires.1.starts_each);
  nets_are = (
    c.in_ok-turned.turned.items,
    (
      c.in_ok-turned.ensures.turned,
      c.in_ok-nets.ensures ∙ ap (λ (t : List ℕ). map (λ s. let e : NetId = record { 0 = start_at t s } in e) c.args.starts.now) c.deref.ensures.value,
    ),
  );
  gates_are = rw c.deref-2.ensures.value at c.in_ok-gates.ensures;
}
