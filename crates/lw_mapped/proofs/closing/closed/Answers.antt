use Rattle.std.proofs.Common.{ℕ, List, map, refl, ap₂, ◌∙◌}
use Rattle.std.specs.Str.{bytes_eq}
use Rattle.indexmap.specs.IndexMap.{get}
use Rattle.std.proofs.lemmas.Result.{err_from_is_err_and}
use Rattle.lw_named_netlist.specs.declared.draft.GateDraft.{GateDraft}
use Rattle.lw_named_netlist.specs.declared.fault.NetlistFault.{NetlistFault}
use Rattle.lw_named_netlist.specs.declared.fault.NetlistFault.TheVariants as whole
use Rattle.lw_netlist.specs.declared.gate.Gate.{Gate}
use Rattle.lw_named_netlist.specs.Closing.{HasFault}
use Rattle.lw_mapped.specs.Made.{TellsWhole}
use Rattle.lw_mapped.specs.Texts.{net_name}
use Rattle.lw_mapped.specs.Unmapped.{whole_fault}
use Rattle.lw_mapped.proofs.closing.closed.Goals as goal

told-whole : (draft : GateDraft) (fault : NetlistFault) → HasFault draft fault → TellsWhole draft (whole_fault fault)
told-whole draft (whole.Twice name) has = has
told-whole draft (whole.Undriven name) has = has
told-whole draft (whole.Cycle name) has = has
told-whole draft whole.Memory has = tt

pub returns-in_err-netlist-clause-fault : goal.returns-in_err-netlist-clause-fault
returns-in_err-netlist-clause-fault c =
    let p = err_from_is_err_and c.from_residual.result c.from_residual.ensures.1 in
    rw (p.1, p.2) (told-whole c.args.draft c.in_err-netlist.field-0.0 c.in_err-netlist.ensures.fault)

pub returns-in_err-netlist-clause-made : goal.returns-in_err-netlist-clause-made
returns-in_err-netlist-clause-made c = rw (err_from_is_err_and c.from_residual.result c.from_residual.ensures.1).1 tt

pub returns-in_err-netlist-clause-over : goal.returns-in_err-netlist-clause-over
returns-in_err-netlist-clause-over c = rw (err_from_is_err_and c.from_residual.result c.from_residual.ensures.1).1 tt

pub returns-in_default-clause-made : goal.returns-in_default-clause-made
returns-in_default-clause-made c = tt

pub returns-in_default-clause-over : goal.returns-in_default-clause-over
returns-in_default-clause-over c = tt

pub returns-in_default-clause-fault : goal.returns-in_default-clause-fault
returns-in_default-clause-fault c = tt

pub returns-clause-fault : goal.returns-clause-fault
returns-clause-fault c = tt

pub returns-clause-made : goal.returns-clause-made
returns-clause-made c = record {
  netlist = c.in_ok-netlist.ensures.closed;
  the_frame = refl;
  the_starts = refl;
  the_labels = refl;
  classes =
      c.in-Ok.ensures
      ∙ ap₂ (λ (names : List (List ℕ)) (gates : List Gate). map (λ (gate : Gate). get bytes_eq c.args.nets.now (net_name names gate.out)) gates) c.names.ensures.names c.gates.ensures.gates;
}

pub returns-clause-over : goal.returns-clause-over
returns-clause-over c = c.in_ok-netlist.ensures.over
