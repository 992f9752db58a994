-- What comes of what is kept of lines.
use Rattle.std.specs.Prelude.{◌≡◌, ◌≤◌, ◌*◌, List, Result, length, All, IfOk}
use Rattle.lw_fixed.specs.declared.micro.Micro.{Micro}
use Rattle.lw_frame.specs.Starts.{IsEarly}
use Rattle.lw_genlib.specs.Cells.{CellParts}
use Rattle.lw_netlist.specs.Plain.{IsOver}
use Rattle.lw_words.specs.Lines.{LogicalLine, lines_weight}
use Rattle.lw_mapped.specs.declared.closing.Mapped.{Mapped}
use Rattle.lw_mapped.specs.declared.contents.Contents.{Contents}
use Rattle.lw_mapped.specs.declared.fault.MappedFault.{MappedFault}
use Rattle.lw_mapped.specs.declared.saying.Saying.{Saying}
use Rattle.lw_mapped.specs.Fitting.{IsMapped}
use Rattle.lw_mapped.specs.Keeping.{Keeps}
use Rattle.lw_mapped.specs.Limits.{gate_weight}
use Rattle.lw_mapped.specs.Unmapped.{ClosesTo, starts_said}

-- the starts of the inputs, all of them early
pub record AreStartsOf (kept : Contents) (starts : List Micro) : Type 0 where
  pub said : (lines : List Saying) → Keeps kept lines → starts ≡ starts_said lines
  pub early : All IsEarly starts

-- a netlist of these cells in which all fits, or a fault
pub record IsClosingOf (kept : Contents) (cells : List CellParts) (result : Result Mapped MappedFault) : Type 0 where
  pub closes : (said : List Saying) → Keeps kept said → ClosesTo said result
  pub fits : IfOk result IsMapped
  pub over : IfOk result (λ mapped. IsOver cells mapped.netlist)

-- a netlist of these cells in which all fits
pub record IsReadOver (cells : List CellParts) (mapped : Mapped) : Type 0 where
  pub over : IsOver cells mapped.netlist
  pub fits : IsMapped mapped

-- at most a gate for each twelve of the weight of the lines
abbrev pub HasFewGates : List LogicalLine → Mapped → Type 0
HasFewGates lines mapped = gate_weight * length mapped.netlist.gates ≤ lines_weight lines
