-- What lines say is closed.
use Rattle.std.proofs.Common.{ℕ, ◌≡◌, List, [], ◌∷◌, ◌++◌, length, map, take, Option, Some, None, Result, Ok, Err, refl, ap, ap₂, sym, ◌∙◌, subst, arith, length-append}
use Rattle.std.specs.Prelude.{unwrap_or, option_to_list, codes, IfOk, IfErr, slice_index_or, All}
use Rattle.std.specs.Str.{bytes_eq}
use Rattle.indexmap.specs.IndexMap.{get}
use Rattle.std.specs.List.{flat_map}
use Rattle.std.proofs.lemmas.List.{length-map}
use Rattle.lw_fixed.specs.declared.micro.Micro.{Micro}
use Rattle.lw_pool.specs.declared.latch.Frame.{Frame}
use Rattle.lw_pool.specs.declared.latch.Latch.{Latch}
use Rattle.lw_frame.specs.Standing as arrival
use Rattle.lw_frame.specs.Starts.{Arrival, IsEarly, starts_of}
use Rattle.lw_frame.specs.Frames.{each_once, read_by, root_names, input_names, output_of}
use Rattle.lw_frame.proofs.Once.{once-twice}
use Rattle.lw_genlib.specs.Cells.{CellParts}
use Rattle.lw_named_netlist.specs.declared.draft.DraftGate.{DraftGate}
use Rattle.lw_named_netlist.specs.declared.draft.GateDraft.{GateDraft}
use Rattle.lw_named_netlist.specs.declared.draft.Wire.{Wire}
use Rattle.lw_netlist.specs.declared.gate.Gate.{Gate}
use Rattle.lw_named_netlist.specs.Closing.{IsClosed, IsGateDraft}
use Rattle.lw_mapped.specs.declared.contents.Contents.{Contents}
use Rattle.lw_mapped.specs.declared.saying.Saying.{Saying}
use Rattle.lw_mapped.specs.Keeping.{Keeps, IsOfFew}
use Rattle.lw_mapped.specs.Said.{models_in, inputs_in, outputs_in, latches_in, arrivals_in}
use Rattle.lw_mapped.specs.Unmapped.{ClosesTo, HasWholeFault, IsSaid, draft_said, frame_said, starts_said}
use Rattle.lw_mapped.specs.Closings.{AreStartsOf}
use Rattle.lw_mapped.specs.Made.{IsMade, TellsWhole}
use Rattle.lw_mapped.specs.Texts.{net_name}
use Rattle.lw_mapped.specs.declared.closing.Mapped.{Mapped}
use Rattle.lw_mapped.specs.declared.fault.MappedFault.{MappedFault}
use Rattle.lw_mapped.specs.declared.fault.MappedFault.TheVariants as fault
use Rattle.lw_words.specs.Words.{first_word}

first-or : (model : Option (List ℕ)) (names : List (List ℕ)) (other : List ℕ) → option_to_list model ≡ take 1 names → unwrap_or model other ≡ first_word (names ++ other ∷ [])
first-or None [] other e = refl
first-or None (name ∷ names) other e = cc
first-or (Some m) [] other e = cc
first-or (Some m) (name ∷ names) other e = let same : m ∷ [] ≡ name ∷ [] = e in ap first_word same

draft-cong : (m m' : List ℕ) (i i' o o' : List (List ℕ)) (g g' : List DraftGate) (w w' : List Wire) → m ≡ m' → i ≡ i' → o ≡ o' → g ≡ g' → w ≡ w' →
    let draft : GateDraft = record { model = m; inputs = i; outputs = o; gates = g; wires = w } in draft ≡ record { model = m'; inputs = i'; outputs = o'; gates = g'; wires = w' }
draft-cong m m' i i' o o' g g' w w' em ei eo eg ew = grind (arith, em, ei, eo, eg, ew)

pub draft-is : (kept : Contents) (said : List Saying) (model : List ℕ) (inputs outputs : List (List ℕ)) → Keeps kept said → model ≡ unwrap_or kept.model (codes "unnamed") → inputs ≡ input_names kept.inputs kept.latches → outputs ≡ root_names kept.outputs.keys kept.latches →
    let draft : GateDraft = record { model = model; inputs = inputs; outputs = outputs; gates = kept.gates; wires = kept.wires } in draft ≡ draft_said said
draft-is kept said model inputs outputs k em ei eo =
    draft-cong model _ inputs _ outputs _ kept.gates _ kept.wires _
    (em ∙ first-or kept.model (flat_map models_in said) (codes "unnamed") k.model)
    (ei ∙ (ap (λ l. input_names l kept.latches) k.inputs ∙ ap (λ l. input_names (flat_map inputs_in said) l) k.latches))
    (eo ∙ (ap (λ l. root_names l kept.latches) k.outputs ∙ (ap (λ l. root_names (each_once (flat_map outputs_in said)) l) k.latches ∙ once-twice (flat_map outputs_in said) (flat_map read_by (flat_map latches_in said)))))
    k.gates k.wires

pub may-close : (kept : Contents) (cells : List CellParts) (draft : GateDraft) (few : IsOfFew kept cells) → draft ≡ draft_said few.said → IsGateDraft cells draft
may-close kept cells draft few e = subst (IsGateDraft cells) (sym e) (record {
  gates = few.gates;
  few = omega (arith, few.few, length-append (flat_map inputs_in few.said) (map output_of (flat_map latches_in few.said)), length-map (flat_map latches_in few.said) output_of);
})

-- Starts.

pub starts-ok : {E : Type 0} (r : Result (List Micro) E) (kept : Contents) (inputs : List (List ℕ)) (count : ℕ) → inputs ≡ kept.inputs → count ≡ length kept.latches → ((lines : List Arrival) → arrival.StandsFor kept.arrivals lines → IfOk r (λ starts. starts ≡ starts_of lines inputs count)) → IfOk r (All IsEarly) → IfOk r (AreStartsOf kept)
starts-ok (Ok starts) kept inputs count ei ec are low = record {
  said = λ said k.
      are (flat_map arrivals_in said) k.arrivals
      ∙ (ap (λ i. starts_of (flat_map arrivals_in said) i count) (ei ∙ k.inputs) ∙ ap (λ n. starts_of (flat_map arrivals_in said) (flat_map inputs_in said) n) (ec ∙ ap length k.latches));
  early = low;
}
starts-ok (Err e) kept inputs count ei ec are low = tt

-- What is made is what is said.

pub made-said : (kept : Contents) (said : List Saying) (draft : GateDraft) (frame : Frame) (starts : List Micro) (mapped : Mapped) → Keeps kept said → draft ≡ draft_said said → frame ≡ frame_said said → starts ≡ starts_said said → IsMade draft frame starts kept.labels.items (get bytes_eq kept.nets) mapped → IsSaid said mapped
made-said kept said draft frame starts mapped k ed ef es made = record {
  netlist = subst (λ d. IsClosed d mapped.netlist) ed made.netlist;
  frame = made.the_frame ∙ ef;
  starts = made.the_starts ∙ es;
  labels = λ class. ap (λ ls. slice_index_or ls class None) made.the_labels ∙ k.labels class;
  nets = made.classes ∙ map-same (λ (gate : Gate). k.nets (net_name mapped.netlist.names gate.out)) mapped.netlist.gates;
}
  where
    map-same : {A B : Type 0} {f g : A → B} → ((x : A) → f x ≡ g x) → (xs : List A) → map f xs ≡ map g xs
    map-same e [] = refl
    map-same e (x ∷ xs) = ap₂ (λ y ys. y ∷ ys) (e x) (map-same e xs)

tells-whole : (draft : GateDraft) (said : List Saying) (f : MappedFault) → draft ≡ draft_said said → TellsWhole draft f → ClosesTo said (Err f)
tells-whole draft said (fault.Line number kind) e h = h
tells-whole draft said (fault.Whole other) e h = subst (λ d. HasWholeFault d other) e h
tells-whole draft said fault.Memory e h = tt

pub closes-to : (kept : Contents) (said : List Saying) (draft : GateDraft) (frame : Frame) (starts : List Micro) (labels : List (Option Micro)) (r : Result Mapped MappedFault) → labels ≡ kept.labels.items → Keeps kept said → draft ≡ draft_said said → frame ≡ frame_said said → starts ≡ starts_said said →
    IfOk r (λ mapped. IsMade draft frame starts labels (get bytes_eq kept.nets) mapped) → IfErr r (TellsWhole draft) → ClosesTo said r
closes-to kept said draft frame starts labels (Ok mapped) el k ed ef es made told = made-said kept said draft frame starts mapped k ed ef es (subst (λ l. IsMade draft frame starts l (get bytes_eq kept.nets) mapped) el made)
closes-to kept said draft frame starts labels (Err f) el k ed ef es made told = tells-whole draft said f ed told

pub frame-is : (kept : Contents) (said : List Saying) (inputs outputs : ℕ) → Keeps kept said → inputs ≡ length kept.inputs → outputs ≡ length kept.outputs.keys →
    let frame : Frame = record { inputs = inputs; outputs = outputs; latches = kept.latches } in frame ≡ frame_said said
frame-is kept said inputs outputs k ei eo =
    frame-cong inputs _ outputs _ kept.latches _ (ei ∙ ap length k.inputs) (eo ∙ ap length k.outputs) k.latches
  where
    frame-cong : (i i' o o' : ℕ) (l l' : List Latch) → i ≡ i' → o ≡ o' → l ≡ l' → let frame : Frame = record { inputs = i; outputs = o; latches = l } in frame ≡ record { inputs = i'; outputs = o'; latches = l' }
    frame-cong i i' o o' l l' a b c = grind (arith, a, b, c)

pub draft-said : (kept : Contents) (said : List Saying) (draft : GateDraft) (read written : List Latch) (roots : List (List ℕ)) → Keeps kept said →
    (let made : GateDraft = record { model = unwrap_or kept.model (codes "unnamed"); inputs = input_names kept.inputs written; outputs = roots; gates = kept.gates; wires = kept.wires } in draft ≡ made) →
    written ≡ kept.latches → roots ≡ root_names kept.outputs.keys read → read ≡ kept.latches → draft ≡ draft_said said
draft-said kept said draft read written roots k e ew er el =
    e ∙ draft-is kept said (unwrap_or kept.model (codes "unnamed")) (input_names kept.inputs written) roots k refl (ap (input_names kept.inputs) ew) (er ∙ ap (root_names kept.outputs.keys) el)
