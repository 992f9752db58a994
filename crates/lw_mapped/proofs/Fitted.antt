-- What is said fits together.
use Rattle.std.proofs.Common.{ℕ, ◌≡◌, ◌≤◌, List, [], ◌∷◌, length, map, Option, None, Result, Ok, Err, refl, ap, sym, ◌∙◌, subst, arith}
use Rattle.std.specs.Prelude.{All, IfOk}
use Rattle.std.specs.Option.{IfSome}
use Rattle.std.specs.List.{flat_map}
use Rattle.std.proofs.Math.Seq.{take-append_seam}
use Rattle.std.proofs.lemmas.List.{length-map}
use Rattle.std.proofs.lemmas.List.Elements.{All-from_get_or}
use Rattle.lw_fixed.specs.declared.micro.Micro.{Micro}
use Rattle.lw_pool.specs.declared.id.ClassId.{ClassId}
use Rattle.lw_pool.specs.declared.latch.Frame.{Frame}
use Rattle.lw_frame.specs.Frames.{Fits, input_names}
use Rattle.lw_frame.specs.Starts.{IsEarly, StartsFit}
use Rattle.lw_frame.proofs.Fitting.{frame_fits, starts_fit}
use Rattle.lw_named_netlist.specs.declared.draft.DraftGate.{DraftGate}
use Rattle.lw_named_netlist.specs.declared.draft.GateDraft.{GateDraft}
use Rattle.lw_named_netlist.specs.Closing.{IsClosed, by_depth, out_of, port_at}
use Rattle.lw_netlist.specs.Netlists.{NetlistParts}
use Rattle.lw_netlist.specs.declared.gate.Gate.{Gate}
use Rattle.lw_mapped.specs.declared.certificate.Certificate.{Certificate}
use Rattle.lw_mapped.specs.declared.closing.Mapped.{Mapped}
use Rattle.lw_mapped.specs.declared.contents.Contents.{Contents}
use Rattle.lw_mapped.specs.declared.fault.MappedFault.{MappedFault}
use Rattle.lw_mapped.specs.declared.saying.Saying.{Saying}
use Rattle.lw_mapped.specs.Fitting.{IsMapped}
use Rattle.lw_mapped.specs.Keeping.{Keeps, AreLow}
use Rattle.lw_mapped.specs.Parsed.{IsLabel}
use Rattle.lw_mapped.specs.Said.{inputs_in, outputs_in, latches_in, arrivals_in, nets_in, class_among}
use Rattle.lw_mapped.specs.Standing.{AreLabels}
use Rattle.lw_mapped.specs.Texts.{names_of_inputs, names_of_outputs, net_name}
use Rattle.lw_mapped.specs.Unmapped.{IsSaid, ClosesTo, draft_said, frame_said}
use Rattle.lw_mapped.specs.Made.{IsMade}
use Rattle.lw_laws.specs.Graphs.{most_classes}
use Rattle.lw_netlist.specs.Plain.{port_name}

pub port-names : (net : List ℕ → ℕ) (names : List (List ℕ)) → map port_name (map (port_at net) names) ≡ names
port-names net [] = refl
port-names net (name ∷ names) = ap (λ ns. name ∷ ns) (port-names net names)

-- the names of the inputs and of the outputs are the draft's
closed-inputs : (draft : GateDraft) (n : NetlistParts) → IsClosed draft n → (n.inputs ≡ length draft.inputs) × (names_of_inputs n ≡ draft.inputs) × (names_of_outputs n ≡ draft.outputs)
closed-inputs draft n closed =
    let order : List DraftGate = by_depth closed.depth draft.gates in (
      ap (λ (m : NetlistParts). m.inputs) closed.are,
      ap names_of_inputs closed.are ∙ take-append_seam draft.inputs (map out_of order),
      ap names_of_outputs closed.are ∙ port-names closed.net draft.outputs,
    )

are-labels : (labels : List (Option Micro)) (certificate : Certificate) → certificate.labels ≡ labels → length labels ≤ most_classes → AreLow labels → AreLabels certificate
are-labels labels certificate e few low = record {
  classes = subst (λ (ls : List (Option Micro)). length ls ≤ most_classes) (sym e) few;
  labels = subst (λ (ls : List (Option Micro)). All (λ label. IfSome label IsLabel) ls) (sym e) (All-from_get_or (λ (label : Option Micro). IfSome label IsLabel) labels None (λ k below. low k));
}

pub parts-fit : (said : List Saying) (mapped : Mapped) → IsSaid said mapped → AreLabels mapped.cert → All IsEarly mapped.starts → IsMapped mapped
parts-fit said mapped is labelled early =
    let ins : List (List ℕ) = flat_map inputs_in said in
    let outs : List (List ℕ) = flat_map outputs_in said in
    let latches = flat_map latches_in said in
    let same = closed-inputs (draft_said said) mapped.netlist is.netlist in
    let frame : Fits mapped.frame (names_of_inputs mapped.netlist) (names_of_outputs mapped.netlist) =
    subst (λ f. Fits f (names_of_inputs mapped.netlist) (names_of_outputs mapped.netlist)) (sym is.frame)
    (subst (λ names. Fits (frame_said said) names (names_of_outputs mapped.netlist)) (sym same.1)
    (subst (λ names. Fits (frame_said said) (input_names ins latches) names) (sym same.2) (frame_fits ins outs latches))) in
    let starts : StartsFit mapped.frame mapped.netlist.inputs mapped.starts =
    subst (λ f. StartsFit f mapped.netlist.inputs mapped.starts) (sym is.frame)
    (subst (λ n. StartsFit (frame_said said) n mapped.starts) (sym same.0) (starts_fit (flat_map arrivals_in said) ins outs latches mapped.starts is.starts early)) in
    record {
      framed = record {
        inputs = omega (arith, frame.own_inputs, ap length same.1, same.0);
        outputs = omega (arith, frame.own_outputs, length-map mapped.netlist.outputs port_name);
        one_start = starts.one_each;
      };
      frame = frame;
      starts = starts;
      labels = labelled;
      nets = ap length is.nets ∙ length-map mapped.netlist.gates (λ (gate : Gate). class_among (flat_map nets_in said) (net_name mapped.netlist.names gate.out));
    }

said-fits : (kept : Contents) (said : List Saying) (mapped : Mapped) → Keeps kept said → IsSaid said mapped → mapped.cert.labels ≡ kept.labels.items → All IsEarly mapped.starts → IsMapped mapped
said-fits kept said mapped k is el early = parts-fit said mapped is (are-labels kept.labels.items mapped.cert el k.classes k.low) early

-- where the netlist was closed
pub closed-fits : (kept : Contents) (said : List Saying) (draft : GateDraft) (frame : Frame) (starts : List Micro) (labels : List (Option Micro)) (class : List ℕ → Option ClassId) (r : Result Mapped MappedFault) → labels ≡ kept.labels.items → Keeps kept said → ClosesTo said r → All IsEarly starts → IfOk r (IsMade draft frame starts labels class) → IfOk r IsMapped
closed-fits kept said draft frame starts labels class (Ok mapped) el k closes early made = said-fits kept said mapped k closes (made.the_labels ∙ el) (subst (All IsEarly) (sym made.the_starts) early)
closed-fits kept said draft frame starts labels class (Err f) el k closes early made = tt
