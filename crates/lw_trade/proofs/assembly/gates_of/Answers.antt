use Rattle.std.proofs.Common.{◌++◌, ◌∷◌, [], map, ap, ap₂, sym, ◌∙◌}
use Rattle.std.proofs.lemmas.List.{map_more, take_all}
use Rattle.lw_trade.specs.Placed.{placed_gate}
use Rattle.lw_trade.proofs.assembly.gates_of.Goals as goal

pub loop-gate-preserved : goal.loop-gate-preserved
loop-gate-preserved c =
    let w = c.args.at.now.walk.now in
    c.in_ok-push.ensures.items
    ∙ (ap₂ (λ gs g. gs ++ g ∷ []) c.loop-gate.invariant c.in_ok-gate_of.ensures ∙ sym (map_more (placed_gate c.args.at.now.inputs c.args.at.now.places.now w.cells.items w.pins.items) c.args.order.now c.loop-gate.gate-index 0 c.loop-gate-test.true))

pub returns : goal.returns
returns c =
    let w = c.args.at.now.walk.now in
    c.loop-gate.invariant ∙ ap (map (placed_gate c.args.at.now.inputs c.args.at.now.places.now w.cells.items w.pins.items)) (take_all c.loop-gate.gate-index c.args.order.now c.loop-gate-test.false)
