-- The draft of what is read.
use Rattle.std.proofs.Common.{ℕ, zero, suc, ◌≡◌, ◌≤◌, ◌<◌, List, [], ◌∷◌, length, get_or, Option, Some, None, All, refl, ap, ap₂, sym, ◌∙◌, subst, arith}
use Rattle.std.specs.Prelude.{slice_get}
use Rattle.std.proofs.lemmas.List.Elements.{All-append}
use Rattle.std.proofs.lemmas.List.{length-map}
use Rattle.lw_genlib.specs.Cells.{CellParts}
use Rattle.lw_named_netlist.specs.declared.draft.DraftGate.{DraftGate}
use Rattle.lw_named_netlist.specs.declared.draft.GateDraft.{GateDraft}
use Rattle.lw_named_netlist.specs.declared.draft.Wire.{Wire}
use Rattle.lw_named_netlist.specs.Closing.{IsGateDraft, IsOfCell}
use Rattle.lw_words.specs.Limits.{most_bytes}
use Rattle.lw_verilog.specs.declared.contents.Contents.{Contents}
use Rattle.lw_verilog.specs.declared.place.Task.{Task}
use Rattle.lw_verilog.specs.declared.place.Task.TheVariants as task
use Rattle.lw_verilog.specs.Keeping.{IsParsed, Keeps}
use Rattle.lw_verilog.specs.Readings.{Reading}
use Rattle.lw_verilog.specs.Statements.{Statement, Tie, all_in, draft_of, gate_at, gate_if, gate_of, gates_in, model_of, net_for, number_of, ties_in}

-- the draft of contents
abbrev pub draft_in : Contents → GateDraft
draft_in c = record { model = model_of c.header; inputs = c.inputs; outputs = c.outputs; gates = c.gates; wires = c.wires }

made : List ℕ → List (List ℕ) → List (List ℕ) → List DraftGate → List Wire → GateDraft
made m i o g w = record { model = m; inputs = i; outputs = o; gates = g; wires = w }

pub draft-is : (cells : List CellParts) (c : Contents) (r : Reading) → Keeps cells c r → draft_in c ≡ draft_of cells r.said
unfolding made
draft-is cells c r k =
    ap₂ (λ a b. made a b c.outputs c.gates c.wires) (ap model_of k.header) k.inputs
    ∙ (ap₂ (λ a b. made (draft_of cells r.said).model (draft_of cells r.said).inputs a b c.wires) k.outputs k.gates
    ∙ ap (λ a. made (draft_of cells r.said).model (draft_of cells r.said).inputs (draft_of cells r.said).outputs (draft_of cells r.said).gates a) k.wires)

-- The gates are of the library's cells.

none : (cells : List CellParts) → All (IsOfCell cells) []
none cells = λ k d below. absurd (omega arith)

of-at : (cells : List CellParts) (number : ℕ) (ties : List Tie) (o : Option CellParts) → slice_get cells number ≡ o → All (IsOfCell cells) (gate_at number ties o)
of-at cells number ties None at = none cells
of-at cells number ties (Some cell) at = λ k d below. subst (IsOfCell cells) (first-alone k d below) (record { cell = cell; at = at; pins = length-map cell.pins (net_for ties) })
  where
    first-alone : (k : ℕ) (d : DraftGate) → k < 1 → gate_of number cell ties ≡ get_or (gate_of number cell ties ∷ []) k d
    first-alone zero d below = refl
    first-alone (suc k) d below = absurd (omega arith)

of-if : (cells : List CellParts) (ties : List Tie) (o : Option ℕ) → All (IsOfCell cells) (gate_if cells ties o)
of-if cells ties None = none cells
of-if cells ties (Some number) = of-at cells number ties (slice_get cells number) refl

of-task : (cells : List CellParts) (what : Task) (names : List (List ℕ)) → All (IsOfCell cells) (gates_in cells what names)
of-task cells task.Instance names = of-if cells (ties_in names) (number_of cells names)
of-task cells task.Skip names = none cells
of-task cells task.Word names = none cells
of-task cells task.Declare names = none cells
of-task cells task.Cell names = none cells
of-task cells task.Pin names = none cells
of-task cells task.Header names = none cells
of-task cells task.Inputs names = none cells
of-task cells task.Outputs names = none cells
of-task cells task.Forget names = none cells
of-task cells task.Assignment names = none cells
of-task cells task.Finish names = none cells

pub of-all : (cells : List CellParts) (said : List Statement) → All (IsOfCell cells) (all_in (gates_in cells) said)
of-all cells [] = none cells
of-all cells (s ∷ said) = All-append (IsOfCell cells) (gates_in cells s.task s.names) (all_in (gates_in cells) said) (of-task cells s.task s.names) (of-all cells said)

-- A draft of what is read may be closed.
pub draft-fits : (cells : List CellParts) (text : List ℕ) (c : Contents) (d : GateDraft) → IsParsed cells text c → length text ≤ most_bytes → d ≡ draft_in c → IsGateDraft cells d
draft-fits cells text c d p few e = subst (IsGateDraft cells) (sym e) (record {
  gates = subst (All (IsOfCell cells)) (sym p.keeps.gates) (of-all cells p.reading.said);
  few = omega (arith, p.few, few);
})
