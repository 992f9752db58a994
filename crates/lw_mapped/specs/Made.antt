-- A netlist that is closed, with what stands around it.
use Rattle.std.specs.Prelude.{ℕ, ◌≡◌, ⊤, List, Option, map}
use Rattle.lw_fixed.specs.declared.micro.Micro.{Micro}
use Rattle.lw_pool.specs.declared.id.ClassId.{ClassId}
use Rattle.lw_pool.specs.declared.latch.Frame.{Frame}
use Rattle.lw_named_netlist.specs.declared.draft.GateDraft.{GateDraft}
use Rattle.lw_netlist.specs.declared.gate.Gate.{Gate}
use Rattle.lw_named_netlist.specs.Closing.{IsClosed}
use Rattle.lw_mapped.specs.declared.closing.Mapped.{Mapped}
use Rattle.lw_mapped.specs.declared.fault.MappedFault.{MappedFault}
use Rattle.lw_mapped.specs.declared.fault.MappedFault.TheVariants as fault
use Rattle.lw_mapped.specs.Texts.{net_name}
use Rattle.lw_mapped.specs.Unmapped.{HasWholeFault}

-- these parts, with the netlist of the draft and the classes that its nets have
pub record IsMade (draft : GateDraft) (frame : Frame) (starts : List Micro) (labels : List (Option Micro))
    (class : List ℕ → Option ClassId) (mapped : Mapped) : Type 0 where
  pub netlist : IsClosed draft mapped.netlist
  pub the_frame : mapped.frame ≡ frame
  pub the_starts : mapped.starts ≡ starts
  pub the_labels : mapped.cert.labels ≡ labels
  pub classes : mapped.cert.nets ≡ map
      (λ (gate : Gate). class (net_name mapped.netlist.names gate.out)) mapped.netlist.gates

-- The fault of the whole is told. Running out of memory is always allowed.
abbrev pub TellsWhole : GateDraft → MappedFault → Type 0
TellsWhole draft (fault.Line number kind) = ⊥
TellsWhole draft (fault.Whole other) = HasWholeFault draft other
TellsWhole draft fault.Memory = ⊤
