use Rattle.std.proofs.Common.{◌≡◌, ◌+◌, max, ◌<◌, arith, subst, length, get_or, List}
use Rattle.std.proofs.lemmas.List.Elements.{All-get_or}
use Rattle.lw_pool.specs.declared.id.NetId.{NetId}
use Rattle.lw_fixed.specs.declared.micro.Micro.{Micro}
use Rattle.lw_netlist.proofs.Latest.{latest_step}
use Rattle.lw_netlist.proofs.arrivals.arrival_of.Goals as goal

pub loop-k-preserved : goal.loop-k-preserved
loop-k-preserved c =
    let ds : List Micro = c.args.cell.now.delays in
    let same = c.delays-delay-items.ensures.delays in
    let size = c.delays-delay-items.ensures.kept.delays in
    let in_delays : c.loop-k.k < length ds = subst (λ xs. c.loop-k.k < length xs) same c.loop-k-test.true in
    let in_pins : c.loop-k.k < length c.args.pins.now = omega (arith, in_delays, size, c.requires.one_each) in
    latest_step ds c.args.nets.now c.args.pins.now c.loop-k.k c.loop-k.latest c.later-latest.result in_delays in_pins
    (All-get_or (λ (net : NetId). net.0 < length c.args.nets.now) c.args.pins.now c.loop-k.k (record { 0 = 0 }) in_pins c.requires.known)
    c.loop-k.invariant (subst (λ (xs : List Micro). c.later-latest.result ≡ max c.loop-k.latest ((get_or c.args.nets.now (get_or c.args.pins.now c.loop-k.k (record { 0 = 0 })).0 (record { 0 = 0 })).0 + (get_or xs c.loop-k.k (record { 0 = 0 })).0)) same c.later-latest.ensures)
