use Rattle.std.proofs.Common.{◌++◌, ◌∷◌, [], map, ap, ap₂, sym, ◌∙◌}
use Rattle.std.proofs.lemmas.List.{map-append, map_more, take_all}
use Rattle.lw_pool.specs.declared.id.ClassId.{ClassId}
use Rattle.lw_pool.specs.Numbers.{numbers}
use Rattle.lw_trade.specs.Traded.{port_net}
use Rattle.lw_trade.proofs.assembly.classes_of_outputs.Goals as goal

pub loop-port-preserved : goal.loop-port-preserved
loop-port-preserved c =
    let port = c.port-item.result in
    ap numbers c.in_ok-push.ensures.items
    ∙ (map-append (λ (k : ClassId). k.0) c.loop-port.classes.items (record { 0 = port_net port } ∷ [])
    ∙ (ap₂ (λ l n. l ++ n ∷ []) c.loop-port.invariant (ap port_net c.port-item.is) ∙ sym (map_more port_net c.args.outputs.now c.loop-port.port-index port c.loop-port-test.true)))

pub returns : goal.returns
returns c = c.loop-port.invariant ∙ ap (map port_net) (take_all c.loop-port.port-index c.args.outputs.now c.loop-port-test.false)
