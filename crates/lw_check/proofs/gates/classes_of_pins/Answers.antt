use Rattle.std.proofs.Common.{get_or, sym}
use Rattle.std.proofs.lemmas.Option.{slice_get-get_or}
use Rattle.lw_pool.specs.declared.id.NetId.{NetId}
use Rattle.lw_check.specs.Cases.{claim_of}
use Rattle.lw_check.proofs.Matching.{none_at}
use Rattle.lw_check.proofs.gates.classes_of_pins.Goals as goal

pub returns-in_default-clause-classes : goal.returns-in_default-clause-classes
returns-in_default-clause-classes c =
    let d : NetId = record { 0 = 0 } in
    none_at (claim_of c.args.case.now) c.args.pins.now c.loop-pin.pin-index (get_or c.args.pins.now c.loop-pin.pin-index d) (slice_get-get_or c.args.pins.now c.loop-pin.pin-index d c.loop-pin-test.true) (sym c.in_default.ensures.class)
