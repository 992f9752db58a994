-- A netlist in Verilog comes to one thing, and a mapped netlist to one text in Verilog.
use Rattle.std.proofs.Common.{◌≡◌, ℕ, List, Option, Some, None, Result, Ok, Err, refl, ap, ap₂, sym, ◌∙◌}
use Rattle.lw_pool.specs.declared.latch.Frame.{Frame}
use Rattle.lw_genlib.specs.Cells.{CellParts}
use Rattle.lw_netlist.specs.Netlists.{NetlistParts}
use Rattle.lw_named_netlist.specs.declared.fault.NetlistFault.TheVariants as whole
use Rattle.lw_mapped.specs.declared.closing.Mapped.{Mapped as MappedParts}
use Rattle.lw_mapped.specs.Alike.{AreSameMapped}
use Rattle.lw_verilog.specs.declared.fault.VerilogFault.{VerilogFault}
use Rattle.lw_verilog.specs.declared.fault.VerilogFault.TheVariants as fault
use Rattle.lw_verilog.specs.declared.reason.NoVerilog.{NoVerilog as Reason}
use Rattle.lw_verilog.specs.Sayable.{refused}
use Rattle.lw_verilog.specs.Texts.{verilog_text}
use Rattle.lw_verilog.specs.Verdicts.{IsRead, AreSame}
use Rattle.lw_verilog.specs.Readings.{nothing_read, read}
use Rattle.lw_verilog.specs.Tokens.{tokens}
use Rattle.lw_verilog.proofs.OneMeaning.{comes-once}
use Rattle.lw_files.specs.declared.fault.FileFault.TheVariants as file_fault
use Rattle.lw_top.specs.declared.refusal.Refusal.{Refusal}
use Rattle.lw_top.specs.declared.refusal.Refusal.TheVariants.{Faulty, Verilog, NoVerilog}
use Rattle.lw_top.specs.declared.refusal.Which.TheVariants as which
use Rattle.lw_files.specs.Steps.{Files}
use Rattle.lw_top.specs.Answers.{HasVerilog}
use Rattle.lw_top.specs.Verilogs.{SaysVerilog, SaysMapped}

-- the fault that a refusal of a text in Verilog tells
told_by : VerilogFault → Option Refusal
told_by (fault.Line line kind) = Some (Verilog line kind)
told_by (fault.Whole (whole.Twice name)) = Some (Faulty which.Mapped (file_fault.Twice name))
told_by (fault.Whole (whole.Undriven name)) = Some (Faulty which.Mapped (file_fault.Undriven name))
told_by (fault.Whole (whole.Cycle name)) = Some (Faulty which.Mapped (file_fault.NetCycle name))
told_by (fault.Whole whole.Memory) = None
told_by fault.Memory = None

record IsToldBy (cells : List CellParts) (bytes : List ℕ) (r : Refusal) : Type 0 where
  fault_is : VerilogFault
  read : IsRead cells bytes (Err fault_is)
  not_memory : ◌≡◌ {A = Result NetlistParts VerilogFault} (Err fault_is) (Err fault.Memory) → ⊥
  told : told_by fault_is ≡ Some r

fault_told : (cells : List CellParts) (bytes : List ℕ) (files : Files) (r : Refusal) → HasVerilog cells bytes files (Err r) → IsToldBy cells bytes r
unfolding told_by
fault_told cells bytes files (Verilog line kind) is = record { fault_is = fault.Line line kind; read = is; not_memory = λ e. cc; told = refl }
fault_told cells bytes files (Faulty which.Mapped (file_fault.Twice name)) is = record { fault_is = fault.Whole (whole.Twice name); read = is; not_memory = λ e. cc; told = refl }
fault_told cells bytes files (Faulty which.Mapped (file_fault.Undriven name)) is = record { fault_is = fault.Whole (whole.Undriven name); read = is; not_memory = λ e. cc; told = refl }
fault_told cells bytes files (Faulty which.Mapped (file_fault.NetCycle name)) is = record { fault_is = fault.Whole (whole.Cycle name); read = is; not_memory = λ e. cc; told = refl }
fault_told cells bytes files other is = absurd is

ok_stands : (n : NetlistParts) → ◌≡◌ {A = Result NetlistParts VerilogFault} (Ok n) (Err fault.Memory) → ⊥
ok_stands n e = cc

read_once : (cells : List CellParts) (bytes : List ℕ) (a b : Result NetlistParts VerilogFault) → IsRead cells bytes a → IsRead cells bytes b → (a ≡ Err fault.Memory → ⊥) → (b ≡ Err fault.Memory → ⊥) → AreSame a b
read_once cells bytes a b p q na nb = comes-once cells (read cells nothing_read (tokens bytes)) a b p q na nb

module _ (cells : List CellParts) (bytes : List ℕ) where
  pub verilog_one : (files : Files) (a b : Result NetlistParts Refusal) → HasVerilog cells bytes files a → HasVerilog cells bytes files b → a ≡ b
  verilog_one files (Ok x) (Ok y) p q = ap (λ (n : NetlistParts). Ok n) (read_once cells bytes (Ok x) (Ok y) p q (ok_stands x) (ok_stands y))
  verilog_one files (Ok x) (Err r) p q =
      let t = fault_told cells bytes files r q in
      absurd (read_once cells bytes (Ok x) (Err t.fault_is) p t.read (ok_stands x) t.not_memory)
  verilog_one files (Err r) (Ok y) p q =
      let t = fault_told cells bytes files r p in
      absurd (read_once cells bytes (Err t.fault_is) (Ok y) t.read q t.not_memory (ok_stands y))
  verilog_one files (Err r) (Err s) p q =
      let t = fault_told cells bytes files r p in
      let u = fault_told cells bytes files s q in
      let same : t.fault_is ≡ u.fault_is = read_once cells bytes (Err t.fault_is) (Err u.fault_is) t.read u.read t.not_memory u.not_memory in
      let both : Some r ≡ Some s = sym t.told ∙ (ap told_by same ∙ u.told) in
      cc

-- a netlist with a frame is refused for one reason, or is not
module _ (cells : List CellParts) (x y : MappedParts) (same : AreSameMapped x y) where
  refused_once : refused cells x.netlist x.frame ≡ refused cells y.netlist y.frame
  refused_once = ap₂ (λ (n : NetlistParts) (f : Frame). refused cells n f) same.netlist same.frame

  pub says_one : (files : Files) (a b : Result (List ℕ) Refusal) → SaysVerilog cells x files a → SaysVerilog cells y files b → a ≡ b
  says_one files (Ok s) (Ok t) p q = ap (λ (z : List ℕ). Ok z) (p.1 ∙ (ap (verilog_text cells) same.netlist ∙ sym q.1))
  says_one files (Ok s) (Err (NoVerilog why)) p q = let is : ◌≡◌ {A = Option Reason} None (Some why) = sym p.0 ∙ (refused_once ∙ q) in cc
  says_one files (Ok s) (Err other) p q = absurd q
  says_one files (Err (NoVerilog why)) (Ok t) p q = let is : ◌≡◌ {A = Option Reason} None (Some why) = sym q.0 ∙ (sym refused_once ∙ p) in cc
  says_one files (Err (NoVerilog why)) (Err (NoVerilog also)) p q = let is : ◌≡◌ {A = Option Reason} (Some why) (Some also) = sym p ∙ (refused_once ∙ q) in cc
  says_one files (Err (NoVerilog why)) (Err other) p q = absurd q
  says_one files (Err other) b p q = absurd p

pub mapped_said_one : (cells : List CellParts) (n : NetlistParts) (files : Files) (a b : Result (List ℕ) Refusal) → SaysMapped cells n files a → SaysMapped cells n files b → a ≡ b
mapped_said_one cells n files (Ok s) (Ok t) p q = ap (λ (z : List ℕ). Ok z) (p ∙ sym q)
mapped_said_one cells n files (Ok s) (Err r) p q = absurd q
mapped_said_one cells n files (Err r) b p q = absurd p
