-- A text comes to one outcome.
use Rattle.std.proofs.Common.{◌≢◌, List, Result, Ok, Err, refl, ap, sym, ◌∙◌}
use Rattle.lw_genlib.specs.Cells.{CellParts}
use Rattle.lw_named_netlist.specs.declared.draft.GateDraft.{GateDraft}
use Rattle.lw_netlist.specs.Netlists.{NetlistParts}
use Rattle.lw_mapped.proofs.ClosedOnce.{closed-once}
use Rattle.lw_verilog.specs.declared.fault.VerilogFault.{VerilogFault}
use Rattle.lw_verilog.specs.declared.fault.VerilogFault.TheVariants as fault
use Rattle.lw_verilog.specs.Readings.{FaultAt, Reading}
use Rattle.lw_verilog.specs.Statements.{draft_of}
use Rattle.lw_verilog.specs.Verdicts.{AreSame, ClosesTo, ComesTo, Tells}
use Rattle.lw_mapped.proofs.Once.{faults-once, closed-faultless}

closes-once : (draft : GateDraft) (a b : Result NetlistParts VerilogFault) → ClosesTo draft a → ClosesTo draft b → a ≢ Err fault.Memory → b ≢ Err fault.Memory → AreSame a b
closes-once draft (Ok a) (Ok b) p q na nb = closed-once draft a b p q
closes-once draft (Ok a) (Err (fault.Whole f)) p q na nb = closed-faultless draft a f p q
closes-once draft (Ok a) (Err (fault.Line number kind)) p q na nb = q
closes-once draft a (Err fault.Memory) p q na nb = absurd (nb refl)
closes-once draft (Err (fault.Whole e)) (Ok b) p q na nb = closed-faultless draft b e q p
closes-once draft (Err (fault.Whole e)) (Err (fault.Whole f)) p q na nb = ap fault.Whole (faults-once draft e f p q)
closes-once draft (Err (fault.Whole e)) (Err (fault.Line number kind)) p q na nb = absurd q
closes-once draft (Err (fault.Line number kind)) b p q na nb = absurd p
closes-once draft (Err fault.Memory) b p q na nb = absurd (na refl)

tells-once : (first : FaultAt) (a b : Result NetlistParts VerilogFault) → Tells first a → Tells first b → a ≢ Err fault.Memory → b ≢ Err fault.Memory → AreSame a b
tells-once first (Ok a) b p q na nb = absurd p
tells-once first (Err (fault.Whole e)) b p q na nb = absurd p
tells-once first (Err fault.Memory) b p q na nb = absurd (na refl)
tells-once first (Err (fault.Line line kind)) (Ok b) p q na nb = q
tells-once first (Err (fault.Line line kind)) (Err (fault.Whole f)) p q na nb = absurd q
tells-once first (Err (fault.Line line kind)) (Err fault.Memory) p q na nb = absurd (nb refl)
tells-once first (Err (fault.Line line kind)) (Err (fault.Line m k)) p q na nb = sym (ap (λ (f : FaultAt). fault.Line f.line f.kind) p) ∙ ap (λ (f : FaultAt). fault.Line f.line f.kind) q

pub comes-once : (cells : List CellParts) (read : Result Reading FaultAt) (a b : Result NetlistParts VerilogFault) → ComesTo cells read a → ComesTo cells read b → a ≢ Err fault.Memory → b ≢ Err fault.Memory → AreSame a b
comes-once cells (Ok r) a b p q na nb = closes-once (draft_of cells r.said) a b p q na nb
comes-once cells (Err first) a b p q na nb = tells-once first a b p q na nb
