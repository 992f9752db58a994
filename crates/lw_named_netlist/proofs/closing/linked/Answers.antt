use Rattle.std.proofs.Common.{◌∙◌}
use Rattle.std.specs.List.{flat_map}
use Rattle.std.proofs.lemmas.Result.{err_from_is_err_and}
use Rattle.lw_named_netlist.specs.Closing.{links, needs_of}
use Rattle.lw_named_netlist.proofs.Names.{undriven_first, undriven_later, undriven_then}
use Rattle.lw_named_netlist.proofs.closing.linked.Goals as goal

pub returns-in_err-rows : goal.returns-in_err-rows
returns-in_err-rows c =
    let p = err_from_is_err_and c.from_residual.result c.from_residual.ensures.1 in
    rw (p.1, p.2) (undriven_first c.args.signals.now (flat_map needs_of (links c.args.draft.now)) c.args.draft.now.outputs c.in_err-rows.field-0.0 (rw (c.as_slice.ensures, c.as_slice-2.ensures) at c.in_err-rows.ensures))

pub returns-in_err-_outputs : goal.returns-in_err-_outputs
returns-in_err-_outputs c =
    let p = err_from_is_err_and c.from_residual-in_err-_outputs.result c.from_residual-in_err-_outputs.ensures.1 in
    rw (p.1, p.2) (undriven_then c.args.signals.now (flat_map needs_of (links c.args.draft.now)) c.args.draft.now.outputs c.in_err-_outputs.field-0.0 (rw (c.as_slice.ensures, c.as_slice-2.ensures) at c.in_ok-rows.ensures.1) (rw c.as_slice-3.ensures at c.in_err-_outputs.ensures))

pub returns : goal.returns
returns c = (
  rw (c.as_slice.ensures, c.as_slice-2.ensures) at c.in_ok-rows.ensures.0,
  undriven_later c.args.signals.now (flat_map needs_of (links c.args.draft.now)) c.args.draft.now.outputs (rw (c.as_slice.ensures, c.as_slice-2.ensures) at c.in_ok-rows.ensures.1)
      ∙ (rw c.as_slice-3.ensures at c.in_ok-_outputs.ensures.1),
)
