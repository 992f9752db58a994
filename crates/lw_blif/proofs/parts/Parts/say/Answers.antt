use Rattle.std.proofs.Common.{◌∙◌}
use Rattle.std.specs.List.{flat_map}
use Rattle.lw_pool.specs.declared.latch.Frame.{Frame}
use Rattle.lw_blif.specs.Drafts.{arrivals_on}
use Rattle.lw_blif.proofs.Keeping.{kept-draft}
use Rattle.lw_blif.proofs.Closing.{frame-again, starts-again, said-frame, said-starts}
use Rattle.lw_blif.proofs.parts.Parts.say.Goals as goal

pub returns : goal.returns
returns c =
    let parts = c.args.self.now in
    let counts = c.in_ok-counts.ensures in
    let starts = c.in_ok-starts.ensures in
    let draft = c.in_ok-draft.ensures in
    let frame : Frame = record { inputs = c.in_ok-counts.counts.inputs; outputs = c.in_ok-counts.counts.outputs; latches = c.replace-latches.result } in
    let latches = c.replace-latches.ensures.value ∙ draft.latches in
    record {
      said = λ lines k.
          record {
            draft =
                kept-draft parts.model parts.inputs parts.outputs.keys parts.defined.keys parts.nodes parts.node parts.latches parts.arrivals lines c.in_ok-draft.draft
                draft.model draft.inputs (draft.outputs ∙ counts.roots) draft.nodes k.names k.around;
            frame = frame-again frame parts.inputs parts.outputs.keys parts.latches lines k.names.inputs_are k.names.outputs_are k.around.latches_are counts.inputs counts.outputs latches;
            starts = starts-again c.in_ok-starts.starts parts.inputs parts.latches lines k.names.inputs_are k.around.latches_are (rw (c.as_slice-inputs.ensures, c.len-latches.ensures) at c.in_ok-starts.ensures.starts (flat_map arrivals_on lines) k.around.arrivals_are);
          };
      fits =
          record {
            frame =
                said-frame frame parts.inputs parts.outputs.keys c.in_ok-draft.draft.inputs c.in_ok-draft.draft.outputs parts.latches counts.differ counts.inputs counts.outputs latches
                draft.inputs (draft.outputs ∙ counts.roots);
            starts = said-starts frame parts.inputs parts.outputs.keys c.in_ok-draft.draft.inputs parts.latches c.in_ok-starts.starts counts.differ counts.inputs counts.outputs latches draft.inputs (rw (c.as_slice-inputs.ensures, c.len-latches.ensures) at starts.count) (rw (c.as_slice-inputs.ensures, c.len-latches.ensures) at starts.latches) starts.early;
          };
    }
