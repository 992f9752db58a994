-- The parts of lines that break no rule are closed.
use Rattle.std.proofs.Common.{ℕ, ◌+◌, ◌≡◌, List, length, map, drop, Result, Ok, Err, ap, sym, ◌∙◌, subst}
use Rattle.std.specs.Prelude.{All, replicate}
use Rattle.std.specs.Result.{IsErr, IsErrAnd}
use Rattle.std.specs.List.{flat_map, IsDistinct}
use Rattle.std.specs.Str.{bytes_eq}
use Rattle.std.proofs.Math.Logic.{∥∥₁_elim}
use Rattle.std.proofs.Props.{props}
use Rattle.lw_facts.proofs.Lists.{distinct_left}
use Rattle.lw_words.specs.Lines.{LogicalLine}
use Rattle.lw_net.specs.declared.draft.Draft.{Draft}
use Rattle.lw_net.specs.declared.fault.NetFault.{NetFault}
use Rattle.lw_net.specs.declared.fault.NetFault.TheVariants as whole
use Rattle.lw_net.specs.Closing.{IsDraft, HasFault, out_of}
use Rattle.lw_net.specs.Networks.{IsNetwork, input_names, output_names}
use Rattle.lw_fixed.specs.declared.micro.Micro.{Micro}
use Rattle.lw_pool.specs.declared.latch.Latch.{Latch}
use Rattle.lw_pool.specs.declared.latch.Frame.{Frame}
use Rattle.lw_frame.specs.Frames as frames
use Rattle.lw_frame.specs.Frames.{Fits, frame_of, each_once, root_names}
use Rattle.lw_frame.specs.Starts.{IsEarly, StartsFit, starts_of, at_once}
use Rattle.lw_frame.proofs.Fitting.{frame_fits, counted_fit}
use Rattle.lw_frame.proofs.Once.{once-distinct}
use Rattle.lw_blif.specs.declared.parts.Parts.{Parts}
use Rattle.lw_blif.specs.declared.parsed.Parsed.{Parsed}
use Rattle.lw_blif.specs.declared.drafting.Said.{Said}
use Rattle.lw_blif.specs.declared.fault.BlifFault.{BlifFault}
use Rattle.lw_blif.specs.Drafts.{draft_of, frame_on, starts_on, inputs_on, outputs_on, latches_on, arrivals_on}
use Rattle.lw_blif.specs.BlifNetworks.{ClosesTo, IsModel, whole_fault}
use Rattle.lw_blif.specs.Keeping.{Keeps, IsOfSome, IsSaidBy, SaidFits}
use Rattle.lw_blif.proofs.Sound.{lines-draft}

draft-prop : (draft : Draft) → IsProp (IsDraft draft)
draft-prop draft = Prim.hlevel props

pub may-close : (parts : Parts) (said : Said) → ∥ IsOfSome parts ∥₁ → ((lines : List LogicalLine) → Keeps parts lines → IsSaidBy lines said) → IsDraft said.draft
may-close parts said some is = ∥∥₁_elim some (draft-prop said.draft) (λ h. subst IsDraft (sym (is h.lines h.kept).draft) (lines-draft h.lines h.unbroken))

pub closes-fault : (lines : List LogicalLine) (draft : Draft) (fault : NetFault) → draft ≡ draft_of lines → HasFault draft fault → ClosesTo lines (Err (whole_fault fault))
closes-fault lines draft (whole.Undefined name) e h = subst (λ (d : Draft). HasFault d (whole.Undefined name)) e h
closes-fault lines draft (whole.Cycle name) e h = subst (λ (d : Draft). HasFault d (whole.Cycle name)) e h
closes-fault lines draft whole.Memory e h = tt

-- an error that is this fault
pub err-closes : (lines : List LogicalLine) (draft : Draft) (fault : NetFault) (result : Result Parsed BlifFault) → draft ≡ draft_of lines → HasFault draft fault → IsErr result × IsErrAnd result (λ f. f ≡ whole_fault fault) → ClosesTo lines result
err-closes lines draft fault (Ok model) e h is = absurd is.1
err-closes lines draft fault (Err f) e h is = subst (λ (g : BlifFault). ClosesTo lines (Err g)) (sym is.1) (closes-fault lines draft fault e h)

-- What is kept gives the frame and the starts.

pub frame-again : (frame : Frame) (inputs outputs : List (List ℕ)) (latches : List Latch) (lines : List LogicalLine) → inputs ≡ flat_map inputs_on lines → outputs ≡ each_once (flat_map outputs_on lines) → latches ≡ flat_map latches_on lines →
    frame.inputs ≡ length inputs → frame.outputs ≡ length outputs → frame.latches ≡ latches → frame ≡ frame_on lines
unfolding frame_on
frame-again frame inputs outputs latches lines i o l fi fo fl =
    ap (λ n. record { inputs = n; outputs = frame.outputs; latches = frame.latches }) (fi ∙ ap length i)
    ∙ (ap (λ n. record { inputs = length (flat_map inputs_on lines); outputs = n; latches = frame.latches }) (fo ∙ ap length o)
    ∙ ap (λ ls. record { inputs = length (flat_map inputs_on lines); outputs = length (each_once (flat_map outputs_on lines)); latches = ls }) (fl ∙ l))

pub starts-again : (starts : List Micro) (inputs : List (List ℕ)) (latches : List Latch) (lines : List LogicalLine) → inputs ≡ flat_map inputs_on lines → latches ≡ flat_map latches_on lines → starts ≡ starts_of (flat_map arrivals_on lines) inputs (length latches) → starts ≡ starts_on lines
unfolding starts_on
starts-again starts inputs latches lines i l is =
    is ∙ (ap (λ ins. starts_of (flat_map arrivals_on lines) ins (length latches)) i ∙ ap (λ ls. starts_of (flat_map arrivals_on lines) (flat_map inputs_on lines) (length ls)) l)

-- the frame of what differs
same-outputs : (frame : Frame) (inputs outputs : List (List ℕ)) (latches : List Latch) → IsDistinct bytes_eq outputs → frame.inputs ≡ length inputs → frame.outputs ≡ length outputs → frame.latches ≡ latches → frame ≡ frame_of inputs outputs latches
same-outputs frame inputs outputs latches differ fi fo fl =
    ap (λ n. record { inputs = n; outputs = frame.outputs; latches = frame.latches }) fi
    ∙ (ap (λ n. record { inputs = length inputs; outputs = n; latches = frame.latches }) (fo ∙ ap length (sym (once-distinct outputs differ)))
    ∙ ap (λ ls. record { inputs = length inputs; outputs = length (each_once outputs); latches = ls }) fl)

pub said-frame : (frame : Frame) (inputs outputs all_inputs roots : List (List ℕ)) (latches : List Latch) → IsDistinct bytes_eq outputs → frame.inputs ≡ length inputs → frame.outputs ≡ length outputs → frame.latches ≡ latches →
    all_inputs ≡ frames.input_names inputs latches → roots ≡ root_names outputs latches → Fits frame all_inputs roots
said-frame frame inputs outputs all_inputs roots latches differ fi fo fl ai r =
    subst (λ (f : Frame). Fits f all_inputs roots) (sym (same-outputs frame inputs outputs latches differ fi fo fl))
    (subst (λ (ins : List (List ℕ)). Fits (frame_of inputs outputs latches) ins roots) (sym ai)
    (subst (λ (outs : List (List ℕ)). Fits (frame_of inputs outputs latches) (frames.input_names inputs latches) outs) (sym r) (frame_fits inputs outputs latches)))

pub said-starts : (frame : Frame) (inputs outputs all_inputs : List (List ℕ)) (latches : List Latch) (starts : List Micro) → IsDistinct bytes_eq outputs → frame.inputs ≡ length inputs → frame.outputs ≡ length outputs → frame.latches ≡ latches →
    all_inputs ≡ frames.input_names inputs latches → length starts ≡ length inputs + length latches → drop (length inputs) starts ≡ replicate (length latches) at_once → All IsEarly starts → StartsFit frame (length all_inputs) starts
said-starts frame inputs outputs all_inputs latches starts differ fi fo fl ai count zeros early =
    subst (λ (f : Frame). StartsFit f (length all_inputs) starts) (sym (same-outputs frame inputs outputs latches differ fi fo fl))
    (subst (λ (ins : List (List ℕ)). StartsFit (frame_of inputs outputs latches) (length ins) starts) (sym ai) (counted_fit inputs outputs latches starts count zeros early))

pub model-fits : (said : Said) (model : Parsed) → IsNetwork model.network → IsDistinct bytes_eq model.network.names → IsDraft said.draft → SaidFits said → input_names model.network ≡ said.draft.inputs → output_names model.network ≡ said.draft.outputs → model.network.inputs ≡ length said.draft.inputs → model.frame ≡ said.frame → model.starts ≡ said.starts → IsModel model
model-fits said model kept differ draft fits ins outs count frame starts = record {
  network = kept;
  names = differ;
  frame =
      subst (λ (f : Frame). Fits f (input_names model.network) (output_names model.network)) (sym frame)
      (subst (λ (l : List (List ℕ)). Fits said.frame l (output_names model.network)) (sym ins) (subst (λ (l : List (List ℕ)). Fits said.frame said.draft.inputs l) (sym outs) fits.frame));
  starts =
      subst (λ (f : Frame). StartsFit f model.network.inputs model.starts) (sym frame)
      (subst (λ (n : ℕ). StartsFit said.frame n model.starts) (sym count) (subst (λ (l : List Micro). StartsFit said.frame (length said.draft.inputs) l) (sym starts) fits.starts));
  inputs = subst (IsDistinct bytes_eq) (sym ins) (distinct_left said.draft.inputs (map out_of said.draft.nodes) draft.signals);
  outputs = subst (IsDistinct bytes_eq) (sym outs) draft.outputs;
}
