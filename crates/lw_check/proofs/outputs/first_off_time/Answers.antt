use Rattle.std.proofs.Common.{◌≡◌, false, true, length, get_or, refl, ap, sym, ◌∙◌, arith}
use Rattle.std.proofs.lemmas.Option.{slice_get-get_or}
use Rattle.lw_fixed.specs.declared.micro.Micro.{Micro}
use Rattle.lw_check.specs.Cases.{claim_of}
use Rattle.lw_check.specs.Claims.{IsOnTimeAt}
use Rattle.lw_check.proofs.Places.{item_at}
use Rattle.lw_check.proofs.Timely.{all_on_time, below_next, off_time, on_time, port_inside}
use Rattle.lw_check.proofs.outputs.first_off_time.Goals as goal

pub returns-then-not-is_label : goal.returns-then-not-is_label
returns-then-not-is_label c =
    let k = claim_of c.args.case.now in
    let outputs = k.mapped.netlist.outputs in
    let place = c.loop-place.place in
    let port = c.port-item.result in
    let d : Micro = record { 0 = 0 } in
    let at = item_at c.outputs-port-items.result.now outputs place port c.outputs-port-items.ensures.outputs c.loop-place-test.true c.port-item.is in
    let inside = port_inside k c.outputs-port-items.ensures.kept place port at in
    let count = c.requires.one_each in
    let lt = c.loop-place-test.true in
    let same = ap length c.outputs-port-items.ensures.outputs in
    record {
      within = omega (arith, lt, same);
      off = off_time k c.args.arrivals.now c.requires.are c.outputs-port-items.ensures.kept place port (get_or c.args.arrivals.now port.net.0 d) at (slice_get-get_or c.args.arrivals.now port.net.0 d (omega (arith, inside, count)))
          (λ e. (let f : false ≡ true = c.if-not-is_label.ensures.1 (c.label_of_net-label.ensures ∙ e) in absurd (cc)));
      before = c.loop-place.invariant;
    }

pub loop-place-preserved : goal.loop-place-preserved
loop-place-preserved c =
    let k = claim_of c.args.case.now in
    let outputs = k.mapped.netlist.outputs in
    let place = c.loop-place.place in
    let port = c.port-item.result in
    let d : Micro = record { 0 = 0 } in
    let at = item_at c.outputs-port-items.result.now outputs place port c.outputs-port-items.ensures.outputs c.loop-place-test.true c.port-item.is in
    let inside = port_inside k c.outputs-port-items.ensures.kept place port at in
    let count = c.requires.one_each in
    below_next (IsOnTimeAt k) place c.loop-place.invariant
    (on_time k c.args.arrivals.now c.requires.are place port (get_or c.args.arrivals.now port.net.0 d) at (slice_get-get_or c.args.arrivals.now port.net.0 d (omega (arith, inside, count))) (sym c.label_of_net-label.ensures ∙ c.if-not-is_label.ensures.0 refl))

pub returns : goal.returns
returns c =
    let all = c.loop-place-test.false in
    let same = ap length c.outputs-port-items.ensures.outputs in
    all_on_time (claim_of c.args.case.now) c.loop-place.place (omega (arith, all, same)) c.loop-place.invariant
