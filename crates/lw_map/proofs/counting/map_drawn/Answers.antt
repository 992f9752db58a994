use Rattle.std.proofs.Common.{All, length, ap, sym, subst, arith}
use Rattle.std.proofs.lemmas.List.{length-replicate}
use Rattle.std.proofs.lemmas.List.Elements.{All-replicate}
use Rattle.std.proofs.lemmas.Result.{err_from_is_err_and}
use Rattle.lw_fixed.specs.declared.micro.Micro.{Micro}
use Rattle.lw_genlib.specs.Cells.{IsSmall}
use Rattle.lw_map.specs.Options.{plain_options}
use Rattle.lw_map.specs.Counts.{drawing_options, at_once}
use Rattle.lw_map.proofs.Drives.{choice_fault, cover_fault, sized}
use Rattle.lw_map.proofs.counting.map_drawn.Goals as goal

pub returns-in_err-choices-clause-fault : goal.returns-in_err-choices-clause-fault
returns-in_err-choices-clause-fault c =
    let p = err_from_is_err_and c.from_residual-in_err-choices.result c.from_residual-in_err-choices.ensures.1 in
    let net = c.args.net.now in
    rw (p.1, p.2) (choice_fault drawing_options c.args.lib.now net (at_once net.inputs) _ c.in_err-choices.ensures.fault)

pub cover-mapping-requires-clause-choices : goal.cover-mapping-requires-clause-choices
cover-mapping-requires-clause-choices c = c.in_ok-choices.ensures.choices.1

pub cover-mapping-requires-clause-outputs : goal.cover-mapping-requires-clause-outputs
cover-mapping-requires-clause-outputs c = c.requires

pub cover-mapping-requires-clause-early : goal.cover-mapping-requires-clause-early
cover-mapping-requires-clause-early c = subst (All IsSmall) (sym c.in_ok-starts.ensures) (All-replicate IsSmall c.inputs.result (record { 0 = 0 }) (omega arith))

pub returns-in_err-mapping-clause-fault : goal.returns-in_err-mapping-clause-fault
returns-in_err-mapping-clause-fault c =
    let p = err_from_is_err_and c.from_residual-in_err-mapping.result c.from_residual-in_err-mapping.ensures.1 in
    let net = c.args.net.now in
    rw (p.1, p.2) (cover_fault drawing_options c.args.lib.now net (at_once net.inputs) c.in_ok-choices.choices (ap plain_options c.in_ok-choices.ensures.choices.0) _ (rw (c.in_ok-starts.ensures, c.inputs.ensures.inputs) at c.in_err-mapping.ensures.fault))

pub new-timing-requires-clause-over : goal.new-timing-requires-clause-over
new-timing-requires-clause-over c = c.in_ok-mapping.ensures.over

pub new-timing-requires-clause-one_start : goal.new-timing-requires-clause-one_start
new-timing-requires-clause-one_start c =
    let is = c.in_ok-mapping.ensures.mapping.mapped.is in
    let at0 : Micro = record { 0 = 0 } in
    omega (arith, ap length c.in_ok-starts.ensures, length-replicate c.inputs.result at0, c.inputs.ensures.inputs, is.is_graph.written.leaf_count, is.extracted.inputs)

pub new-timing-requires-clause-small : goal.new-timing-requires-clause-small
new-timing-requires-clause-small c = subst (All IsSmall) (sym c.in_ok-starts.ensures) (All-replicate IsSmall c.inputs.result (record { 0 = 0 }) (omega arith))

pub new-timing-requires-clause-few : goal.new-timing-requires-clause-few
new-timing-requires-clause-few c = omega (arith, c.in_ok-mapping.ensures.few)

pub overflow_cast-gates : goal.overflow_cast-gates
overflow_cast-gates c = omega (arith, c.in_ok-mapping.ensures.few, ap length c.gates.ensures.gates)

pub returns-clause-sizes : goal.returns-clause-sizes
returns-clause-sizes c =
    rw (c.classes-classes.ensures.classes, c.gates.ensures.gates)
    (sized c.args.lib.now c.args.net.now c.in_ok-choices.choices c.in_ok-mapping.mapping c.in_ok-timing.timing (ap plain_options c.in_ok-choices.ensures.choices.0) c.in_ok-choices.ensures.choices.1 (rw (c.in_ok-starts.ensures, c.inputs.ensures.inputs) at c.in_ok-mapping.ensures.mapping) (rw (c.in_ok-starts.ensures, c.inputs.ensures.inputs) at c.in_ok-timing.ensures) c.args.count c.latest-latest.result c.latest-latest.ensures)
