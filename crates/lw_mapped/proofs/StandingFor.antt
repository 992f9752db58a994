-- What a reader answers where it stopped, and at the end.
use Rattle.std.proofs.Common.{ℕ, ◌≡◌, Bool, true, false, not, List, [], ◌∷◌, ◌++◌, Option, Some, None, Result, Err, refl, ap, sym, ◌∙◌, subst}
use Rattle.lw_words.specs.Lines.{LogicalLine}
use Rattle.lw_genlib.specs.Cells.{CellParts}
use Rattle.lw_blif_text.specs.declared.stop.Stop.{Stop}
use Rattle.lw_blif_text.specs.declared.stop.Stop.TheVariants as stop
use Rattle.lw_blif_text.specs.Standing.{Stops}
use Rattle.lw_blif_text.proofs.StandingFor.{IsOpen, stopped-kept, stops-on, answer-read, stands-broken}
use Rattle.lw_mapped.specs.declared.parts.Parts.{Parts}
use Rattle.lw_mapped.specs.declared.fault.MappedKind.{MappedKind}
use Rattle.lw_mapped.specs.declared.closing.Mapped.{Mapped}
use Rattle.lw_mapped.specs.declared.fault.MappedFault.{MappedFault}
use Rattle.lw_mapped.specs.declared.fault.MappedFault.TheVariants as fault
use Rattle.lw_mapped.specs.declared.fault.MappedKind.TheVariants as kind
use Rattle.lw_mapped.specs.declared.fault.Refusal.{Refusal}
use Rattle.lw_mapped.specs.declared.fault.Refusal.TheVariants as refusal
use Rattle.lw_mapped.specs.declared.saying.Saying.{Saying}
use Rattle.lw_mapped.specs.Parsed.{TellsFault}
use Rattle.lw_mapped.specs.Unmapped.{ComesTo, ClosesTo}
use Rattle.lw_mapped.specs.LineFaults.{ends_on, FaultAt, fault_else, text_fault, wire_without_row, line_fault, first_fault, lines_read, ends, command}
use Rattle.lw_mapped.specs.Standing.{IsKept, KeepsLines, Tells, fault_of, stop_at}

-- Behind a fault.

tells-stop : (s : Stop MappedKind) (first : Option FaultAt) → Stops (Some s) first → Tells (Err (fault_of s)) first
tells-stop (stop.Broken number kind) first h = h
tells-stop stop.Memory first h = tt

pub tells-stopped : (cells : List CellParts) (begun ended : Bool) (o : Option (Stop MappedKind)) (parts : Parts) (s : Stop MappedKind) (lines : List LogicalLine) (line : LogicalLine) → o ≡ Some s → IsKept begun ended o parts cells lines → Tells (Err (fault_of s)) (first_fault cells [] (lines_read (lines ++ line ∷ [])))
tells-stopped cells begun ended o parts s lines line e h = tells-stop s (first_fault cells [] (lines_read (lines ++ line ∷ []))) (stops-on begun ended o parts s lines line e h)

-- The line is refused.

pub stands-refused : (cells : List CellParts) (begun ended : Bool) (parts new : Parts) (lines : List LogicalLine) (line : LogicalLine) (refused : Refusal) (number : ℕ) (s : Stop MappedKind) → s ≡ stop_at number refused → number ≡ line.number → ends (not begun) (command line) ≡ false → IsOpen ends_on (line_fault cells) (λ (kept : Parts). KeepsLines kept cells) begun parts lines → TellsFault (Err refused) (line_fault cells lines line) →
    IsKept true ended (Some s) new cells (lines ++ line ∷ [])
stands-refused cells begun ended parts new lines line (refusal.Broken kind) number s is same e o told =
    subst (λ (t : Stop MappedKind). IsKept true ended (Some t) new cells (lines ++ line ∷ [])) (sym is)
    (stands-broken begun ended parts new lines line kind number o same e (sym told))
stands-refused cells begun ended parts new lines line refusal.Memory number s is same e o told =
    subst (λ (t : Stop MappedKind). IsKept true ended (Some t) new cells (lines ++ line ∷ [])) (sym is)
    (stopped-kept true ended (Some stop.Memory) new stop.Memory (lines ++ line ∷ []) refl tt)

pub answer-refused : (cells : List CellParts) (begun : Bool) (parts : Parts) (lines : List LogicalLine) (line : LogicalLine) (refused : Refusal) (number : ℕ) (s : Stop MappedKind) → s ≡ stop_at number refused → number ≡ line.number → ends (not begun) (command line) ≡ false → IsOpen ends_on (line_fault cells) (λ (kept : Parts). KeepsLines kept cells) begun parts lines → TellsFault (Err refused) (line_fault cells lines line) →
    Tells (Err (fault_of s)) (first_fault cells [] (lines_read (lines ++ line ∷ [])))
answer-refused cells begun parts lines line (refusal.Broken kind) number s is same e o told =
    subst (λ (t : Stop MappedKind). Tells (Err (fault_of t)) (first_fault cells [] (lines_read (lines ++ line ∷ [])))) (sym is)
    (answer-read begun parts lines line (Some kind) o e (sym told) ∙ ap (λ n. Some (record { number = n; kind = kind })) (sym same))
answer-refused cells begun parts lines line refusal.Memory number s is same e o told =
    subst (λ (t : Stop MappedKind). Tells (Err (fault_of t)) (first_fault cells [] (lines_read (lines ++ line ∷ [])))) (sym is) tt

-- The end.

comes-memory : (first : Option FaultAt) (said : List Saying) → ComesTo first said (Err fault.Memory)
comes-memory None said = tt
comes-memory (Some f) said = tt

pub comes-stopped : (cells : List CellParts) (lines : List LogicalLine) (said : List Saying) (o : Option (Stop MappedKind)) (s : Stop MappedKind) → o ≡ Some s → Stops o (first_fault cells [] (lines_read lines)) → ComesTo (text_fault cells lines) said (Err (fault_of s))
unfolding text_fault
comes-stopped cells lines said o (stop.Broken number kind) e stops =
    let here : first_fault cells [] (lines_read lines) ≡ Some (record { number = number; kind = kind }) = subst (λ (p : Option (Stop MappedKind)). Stops p (first_fault cells [] (lines_read lines))) e stops in
    subst (λ f. ComesTo (fault_else f (wire_without_row (lines_read lines))) said (Err (fault.Line number kind))) (sym here) refl
comes-stopped cells lines said o stop.Memory e stops = comes-memory (text_fault cells lines) said

pub comes-wire : (cells : List CellParts) (lines : List LogicalLine) (said : List Saying) (number : ℕ) → first_fault cells [] (lines_read lines) ≡ None → Some number ≡ wire_without_row (lines_read lines) → ComesTo (text_fault cells lines) said (Err (fault.Line number kind.Shape))
unfolding text_fault
comes-wire cells lines said number none wire =
    subst (λ f. ComesTo (fault_else f (wire_without_row (lines_read lines))) said (Err (fault.Line number kind.Shape))) (sym none)
    (subst (λ w. ComesTo (fault_else None w) said (Err (fault.Line number kind.Shape))) wire refl)

pub comes-closed : (cells : List CellParts) (lines : List LogicalLine) (said : List Saying) (result : Result Mapped MappedFault) → first_fault cells [] (lines_read lines) ≡ None → None ≡ wire_without_row (lines_read lines) → ClosesTo said result → ComesTo (text_fault cells lines) said result
unfolding text_fault
comes-closed cells lines said result none wire closes =
    subst (λ f. ComesTo (fault_else f (wire_without_row (lines_read lines))) said result) (sym none)
    (subst (λ w. ComesTo (fault_else None w) said result) wire closes)
