use Rattle.std.proofs.Common.{Some, length, ap, sym, ◌∙◌, subst, arith}
use Rattle.std.proofs.lemmas.Option.{slice_get-get_or}
use Rattle.lw_check.specs.Cases.{claim_of}
use Rattle.lw_check.specs.Claims.{IsFirstOffTime}
use Rattle.lw_check.proofs.Timely.{port_inside, port_labelled, time_found}
use Rattle.lw_check.proofs.outputs.arrival_reason.Goals as goal

pub index-requires : goal.index-requires
index-requires c =
    let inside = port_inside (claim_of c.args.case.now) c.outputs.ensures.kept c.in-Some.place c.output_at-port.result.now c.output_at-port.ensures in
    let count = c.in_ok-arrivals.ensures.one_each in
    let same = ap length c.deref.ensures.value in
    let len = c.deref.ensures.len in
    omega (arith, inside, count, same, len)

pub returns-in-Some-label_of_net : goal.returns-in-Some-label_of_net
returns-in-Some-label_of_net c =
    let k = claim_of c.args.case.now in
    let port = c.output_at-port.result.now in
    let arrivals = c.in_ok-arrivals.arrivals.items in
    let arrival = c.index.result.now in
    let label = c.in-Some-label_of_net.label in
    let inside = port_inside k c.outputs.ensures.kept c.in-Some.place port c.output_at-port.ensures in
    let count = c.in_ok-arrivals.ensures.one_each in (
      c.requires.gates.ports,
      c.requires.gates.classes,
      c.requires.gates.matches,
      c.requires.potential,
      c.requires.roots,
      subst (λ name. IsFirstOffTime k name arrival label) (sym (c.in_ok-name.ensures ∙ c.as_bytes.ensures.bytes))
          (time_found k arrivals c.in_ok-arrivals.ensures.are c.in-Some.place port arrival label c.in-Some.ensures c.output_at-port.ensures (slice_get-get_or arrivals port.net.0 arrival (omega (arith, inside, count)) ∙ ap Some (sym c.index.ensures)) (sym c.in-Some-label_of_net.ensures)),
    )

pub returns : goal.returns
returns c =
    absurd (port_labelled (claim_of c.args.case.now) c.inputs.ensures.kept c.outputs.ensures.kept c.requires.gates.ports c.requires.gates.askable.one_leaf c.requires.gates.matches c.requires.potential c.in-Some.place c.output_at-port.result.now c.output_at-port.ensures c.in-None.ensures)
