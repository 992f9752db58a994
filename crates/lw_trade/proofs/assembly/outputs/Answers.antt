use Rattle.std.proofs.Common.{◌≡◌, ◌++◌, ◌∷◌, [], map, get_or, ap, ap₂, sym, ◌∙◌, arith}
use Rattle.std.proofs.lemmas.List.{map-append, map_more, take_all, take_more}
use Rattle.lw_netlist.specs.declared.gate.Port.{Port}
use Rattle.lw_netlist.specs.Plain.{port_name}
use Rattle.lw_trade.specs.Placed.{placed_net}
use Rattle.lw_trade.specs.Traded.{port_net}
use Rattle.lw_trade.proofs.assembly.outputs.Goals as goal

pub net_at-net-requires-clause-fit : goal.net_at-net-requires-clause-fit
net_at-net-requires-clause-fit c = c.requires.fit

pub net_at-net-requires-clause-net : goal.net_at-net-requires-clause-net
net_at-net-requires-clause-net c = c.requires.nets c.loop-k.k 0 (omega (arith, c.loop-k-test.true, c.requires.one_each))

pub loop-k-preserved : goal.loop-k-preserved
loop-k-preserved c =
    let k = c.loop-k.k in
    let known = c.loop-k.outputs.items in
    let port : Port = record { name = c.in_ok-name.name; net = c.net_at-net.result } in
    let named = c.index-names-k.result in
    let name_is : port_name port ≡ get_or c.args.names.now k named = c.in_ok-name.ensures ∙ (c.as_bytes.ensures.bytes ∙ c.index-names-k.is) in
    record {
      names = ap (map port_name) c.in_ok-push.ensures.items ∙ (map-append port_name known (port ∷ []) ∙ (ap₂ (λ ns n. ns ++ n ∷ []) c.loop-k.invariant.names name_is ∙ sym (take_more c.args.names.now k named c.loop-k-test.true)));
      nets = ap (map port_net) c.in_ok-push.ensures.items ∙ (map-append port_net known (port ∷ []) ∙ (ap₂ (λ ns n. ns ++ n ∷ []) c.loop-k.invariant.nets c.net_at-net.ensures ∙ sym (map_more (placed_net c.args.at.now.inputs c.args.at.now.places.now) c.args.nets.now k 0 (omega (arith, c.loop-k-test.true, c.requires.one_each)))));
    }

pub returns : goal.returns
returns c = record {
  names_are = c.loop-k.invariant.names ∙ take_all c.loop-k.k c.args.names.now c.loop-k-test.false;
  nets_are = c.loop-k.invariant.nets ∙ ap (map (placed_net c.args.at.now.inputs c.args.at.now.places.now)) (take_all c.loop-k.k c.args.nets.now (omega (arith, c.loop-k-test.false, c.requires.one_each)));
}
