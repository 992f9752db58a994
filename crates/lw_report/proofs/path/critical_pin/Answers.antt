use Rattle.std.proofs.Common.{◌≡◌, ◌≢◌, ◌+◌, ◌<◌, ℕ, List, length, map, get_or, sym, ap, subst, ◌∙◌, arith, below_more}
use Rattle.std.proofs.lemmas.List.{length-map, nil_from_length}
use Rattle.std.proofs.lemmas.List.Elements.{All-get_or}
use Rattle.lw_pool.specs.declared.id.NetId.{NetId}
use Rattle.lw_fixed.specs.declared.micro.Micro.{Micro}
use Rattle.lw_genlib.specs.Tables.{millionths, cell_delays}
use Rattle.lw_report.specs.Timings.{pin_arrivals}
use Rattle.lw_report.proofs.PathLemmas.{arrival_by_is, pin_count, none_critical}
use Rattle.lw_report.proofs.path.critical_pin.Goals as goal

pub returns-then-arrivals-pins-clause-some : goal.returns-then-arrivals-pins-clause-some
returns-then-arrivals-pins-clause-some c =
    let ds : List Micro = c.args.cell.now.delays in
    let arrivals = c.args.arrivals.now in
    let pins = c.args.pins.now in
    let k = c.loop-k.k in
    let same = c.delays-delay-items.ensures.delays in
    let size = c.delays-delay-items.ensures.kept.delays in
    let in_delays : k < length ds = subst (λ xs. k < length xs) same c.loop-k-test.true in
    let in_pins : k < length pins = omega (arith, in_delays, size, c.requires.one_each) in
    let is = arrival_by_is ds arrivals pins k in_delays in_pins (All-get_or (λ (net : NetId). net.0 < length arrivals) pins k (record { 0 = 0 }) in_pins c.requires.known) in
    let test = subst (λ (xs : List Micro). (get_or arrivals (get_or pins k (record { 0 = 0 })).0 (record { 0 = 0 })).0 + (get_or xs k (record { 0 = 0 })).0 ≡ c.args.arrival.0) same c.if-arrivals-pins.true in
    record { within = omega (arith, in_pins, pin_count (map millionths arrivals) pins); makes = is ∙ test; first = c.loop-k.invariant }

pub loop-k-preserved : goal.loop-k-preserved
loop-k-preserved c =
    let ds : List Micro = c.args.cell.now.delays in
    let arrivals = c.args.arrivals.now in
    let pins = c.args.pins.now in
    let k = c.loop-k.k in
    let same = c.delays-delay-items.ensures.delays in
    let size = c.delays-delay-items.ensures.kept.delays in
    let in_delays : k < length ds = subst (λ xs. k < length xs) same c.loop-k-test.true in
    let in_pins : k < length pins = omega (arith, in_delays, size, c.requires.one_each) in
    let is = arrival_by_is ds arrivals pins k in_delays in_pins (All-get_or (λ (net : NetId). net.0 < length arrivals) pins k (record { 0 = 0 }) in_pins c.requires.known) in
    let test = subst (λ (xs : List Micro). (get_or arrivals (get_or pins k (record { 0 = 0 })).0 (record { 0 = 0 })).0 + (get_or xs k (record { 0 = 0 })).0 ≢ c.args.arrival.0) same c.if-arrivals-pins.false in
    below_more _ _ c.loop-k.invariant (λ e. test (sym is ∙ e))

pub returns-clause-none : goal.returns-clause-none
returns-clause-none c =
    let arrivals = map millionths c.args.arrivals.now in
    let pins = c.args.pins.now in
    let ds = cell_delays c.args.cell.now in
    let times = pin_arrivals arrivals pins in
    let same = ap (λ (xs : List Micro). length xs) c.delays-delay-items.ensures.delays in
    let size = c.delays-delay-items.ensures.kept.delays in
    let delays : length ds ≡ length c.args.cell.now.delays = length-map c.args.cell.now.delays millionths in
    let count : length times ≡ length pins = pin_count arrivals pins in
    let empty = none_critical ds times c.args.arrival.0 (omega (arith, count, delays, size, c.requires.one_each)) c.requires.arrives (λ m below. c.loop-k.invariant m (omega (arith, below, count, size, same, c.requires.one_each, c.loop-k-test.false))) in
    nil_from_length pins (omega (arith, count, ap (λ (xs : List ℕ). length xs) empty))
