use Rattle.std.proofs.Common.{subst, sym}
use Rattle.lw_net.specs.Closing.{IsDraft, HasFault}
use Rattle.lw_big.proofs.Drafts.{drawn_is_draft, never_undefined, never_cycle}
use Rattle.lw_big.proofs.generating.generate.Goals as goal

pub close-requires : goal.close-requires
close-requires c = subst IsDraft (sym c.in_ok-draft.ensures) (drawn_is_draft c.args.seed c.args.n c.requires)

pub unreachable-requires : goal.unreachable-requires
unreachable-requires c =
    let step = c.in-Err-Undefined in
    never_undefined c.args.seed c.args.n c.in_ok-draft.draft step.field-0-0 c.in_ok-draft.ensures (subst (HasFault c.in_ok-draft.draft) step.field-0-is step.ensures.fault)

pub unreachable-requires-in-Err-Cycle : goal.unreachable-requires-in-Err-Cycle
unreachable-requires-in-Err-Cycle c =
    let step = c.in-Err-Cycle in
    never_cycle c.args.seed c.args.n c.in_ok-draft.draft step.field-0-0 c.requires c.in_ok-draft.ensures (subst (HasFault c.in_ok-draft.draft) step.field-0-is step.ensures.fault)
