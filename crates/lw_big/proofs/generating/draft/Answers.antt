use Rattle.lw_big.proofs.Drafts.{draft_is}
use Rattle.lw_big.proofs.generating.draft.Goals as goal

pub returns : goal.returns
returns c =
    draft_is c.args.seed c.args.n c.saturating_sub-inner.result c.in_ok-from_slice.field-0 c.in_ok-signal_names.field-0 c.in_ok-signal_names-2.field-0 c.in_ok-drawn_nodes.field-0
    c.saturating_sub-inner.ensures c.in_ok-from_slice.ensures c.in_ok-signal_names.ensures c.in_ok-signal_names-2.ensures c.in_ok-drawn_nodes.ensures
