use Rattle.std.proofs.Common.{◌≡◌, ◌+◌, ◌++◌, ◌∷◌, [], ℕ, All, List, map, get_or, ap, ap₂, sym, ◌∙◌, subst, arith}
use Rattle.std.proofs.lemmas.List.{get_or_read, map_more, take_all}
use Rattle.lw_dag.specs.Graphs.{fanins_at}
use Rattle.lw_netlist.specs.declared.gate.Gate.{Gate}
use Rattle.lw_pool.specs.declared.id.CellId.{CellId}
use Rattle.lw_pool.specs.declared.id.NetId.{NetId}
use Rattle.lw_trade.specs.Placed.{HasNet, placed_net}
use Rattle.lw_trade.proofs.assembly.gate_of.Goals as goal

gate_same : (a b : CellId) (ps qs : List NetId) (o p : NetId) → a ≡ b → ps ≡ qs → o ≡ p → ◌≡◌ {A = Gate} (record { cell = a; pins = ps; out = o }) (record { cell = b; pins = qs; out = p })
gate_same a b ps qs o p e f g = cc

pub net_at-requires-clause-fit : goal.net_at-requires-clause-fit
net_at-requires-clause-fit c = c.requires.fit.fit

pub net_at-requires-clause-net : goal.net_at-requires-clause-net
net_at-requires-clause-net c =
    let row = c.as_slice-row.result.now in
    let graph = c.args.at.now.walk.now.pins.items in
    let same : row ≡ fanins_at graph c.args.gate = get_or_read graph c.args.gate row (omega (arith, c.requires.fit.rows, c.requires.gate)) (cc) [] in
    subst (All (HasNet c.args.at.now)) (sym same) c.requires.pins c.loop-pin.pin-index 0 c.loop-pin-test.true

pub loop-pin-preserved : goal.loop-pin-preserved
loop-pin-preserved c =
    let to : ℕ → NetId = λ p. record { 0 = placed_net c.args.at.now.inputs c.args.at.now.places.now p } in
    let row = c.as_slice-row.result.now in
    let k = c.loop-pin.pin-index in
    let here : c.net_at.result ≡ to (get_or row k 0) = ap (λ (n : ℕ). record { 0 = n }) c.net_at.ensures in
    c.in_ok-push.ensures.items ∙ (ap₂ (λ ns n. ns ++ n ∷ []) c.loop-pin.invariant here ∙ sym (map_more to row k 0 c.loop-pin-test.true))

pub net_at-requires-2-clause-fit : goal.net_at-requires-2-clause-fit
net_at-requires-2-clause-fit c = c.requires.fit.fit

pub net_at-requires-2-clause-net : goal.net_at-requires-2-clause-net
net_at-requires-2-clause-net c = omega (arith, c.requires.gate)

pub returns : goal.returns
returns c =
    let to : ℕ → NetId = λ p. record { 0 = placed_net c.args.at.now.inputs c.args.at.now.places.now p } in
    let row = c.as_slice-row.result.now in
    let graph = c.args.at.now.walk.now.pins.items in
    let none : CellId = record { 0 = 0 } in
    let same : row ≡ fanins_at graph c.args.gate = get_or_read graph c.args.gate row (omega (arith, c.requires.fit.rows, c.requires.gate)) (cc) [] in
    let cell = get_or_read c.args.at.now.walk.now.cells.items c.args.gate c.index-2.result.now (omega (arith, c.requires.fit.cells, c.requires.gate)) c.index-2.ensures none in
    let pins = c.from_vec.ensures ∙ (c.loop-pin.invariant ∙ ap (map to) (take_all c.loop-pin.pin-index row c.loop-pin-test.false ∙ same)) in
    let out : c.net_at-2.result ≡ to (c.args.at.now.inputs + c.args.gate) = ap (λ (n : ℕ). record { 0 = n }) c.net_at-2.ensures in
    gate_same c.index-2.result.now (get_or c.args.at.now.walk.now.cells.items c.args.gate none) c.from_vec.result (map to (fanins_at graph c.args.gate)) c.net_at-2.result (to (c.args.at.now.inputs + c.args.gate)) cell pins out
