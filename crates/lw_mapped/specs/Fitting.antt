-- What fits together in what a mapped text holds.
use Rattle.std.specs.Prelude.{◌≡◌, length}
use Rattle.lw_frame.specs.Frames.{Fits}
use Rattle.lw_frame.specs.Starts.{StartsFit}
use Rattle.lw_mapped.specs.declared.closing.Mapped.{Mapped}
use Rattle.lw_mapped.specs.Standing.{AreLabels}
use Rattle.lw_mapped.specs.Texts.{IsFramed, names_of_inputs, names_of_outputs}

-- The frame and the starts fit the netlist, the labels are below their limit, and each gate has an optional class.
pub record IsMapped (mapped : Mapped) : Type 0 where
  pub framed : IsFramed mapped.netlist mapped.frame mapped.starts
  pub frame : Fits mapped.frame (names_of_inputs mapped.netlist) (names_of_outputs mapped.netlist)
  pub starts : StartsFit mapped.frame mapped.netlist.inputs mapped.starts
  pub labels : AreLabels mapped.cert
  pub nets : length mapped.cert.nets ≡ length mapped.netlist.gates
